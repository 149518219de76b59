-- `moved` meets its contract: by the sign of the offset.
use Prim.Native.Nat.{◌<◌, ◌^◌}
use native.Mathlib.Omega.{arith}
use lib.IntN.{nat_abs}
use mir.Syntax.{w32}
use mir.Facts.{to_z-of_z, to_z_pos, Fits-nat_abs}
use Rattle.position.proofs.Whole.{plus, plus_sum, minus, minus_sum}
use Rattle.position.proofs.moved.Goals as goal

pub overflow_cast-result : goal.overflow_cast-result
overflow_cast-result c =
    let e = to_z-of_z c.ranges.offset in
    rw e (plus c.args.offset (rw e at c.if-offset-ge0.true), Fits-nat_abs {z = c.args.offset} tt c.ranges.offset)

pub overflow_add-result : goal.overflow_add-result
overflow_add-result c = rw (to_z-of_z c.ranges.offset) (record { fits = omega (arith, c.requires) })

pub returns-then-offset-ge0 : goal.returns-then-offset-ge0
returns-then-offset-ge0 c =
    let e = to_z-of_z c.ranges.offset in
    rw e (plus_sum c.args.offset _ _ (rw e at c.if-offset-ge0.true))

pub overflow_sub-back : goal.overflow_sub-back
overflow_sub-back c =
    let e = to_z-of_z c.ranges.offset in
    rw (e, minus c.args.offset (rw e at c.if-offset-ge0.false)) (record { sfits = omega (arith, c.requires) })

pub overflow_cast-back : goal.overflow_cast-back
overflow_cast-back c =
    let e = to_z-of_z c.ranges.offset in
    let h : nat_abs c.args.offset < 2 ^ 31 = omega (arith, c.requires) in
    rw (e, minus c.args.offset (rw e at c.if-offset-ge0.false), to_z_pos w32 h) (tt, record { fits = omega arith })

pub overflow_sub-result : goal.overflow_sub-result
overflow_sub-result c =
    let e = to_z-of_z c.ranges.offset in
    let h : nat_abs c.args.offset < 2 ^ 31 = omega (arith, c.requires) in
    rw (e, minus c.args.offset (rw e at c.if-offset-ge0.false), to_z_pos w32 h) (omega (arith, c.requires))

pub returns : goal.returns
returns c =
    let e = to_z-of_z c.ranges.offset in
    let h : nat_abs c.args.offset < 2 ^ 31 = omega (arith, c.requires) in
    let l = rw e at c.if-offset-ge0.false in
    rw (e, minus c.args.offset l, to_z_pos w32 h) (minus_sum c.args.offset _ _ l c.requires.2)
