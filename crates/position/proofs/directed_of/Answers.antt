-- `directed_of` meets its contract: direction 1, then 0; c is below T.
use Prim.Native.Nat.{◌<◌}
use native.Mathlib.Omega.{arith}
use native.Mathlib.Nat.{mod-lt}
use mathlib.Core.Path.{sym, ◌∙◌}
use Rattle.position.proofs.directed_of.Goals as goal

pub overflow_cast-count-2 : goal.overflow_cast-count-2
overflow_cast-count-2 c =
    let h : 0 < c.args.profile.range = omega arith in
    record { fits = omega (arith, mod-lt c.scaled_count.result h) }

pub overflow_sub-result-then-inverted : goal.overflow_sub-result-then-inverted
overflow_sub-result-then-inverted c =
    let h : 0 < c.args.profile.range = omega arith in
    omega (arith, mod-lt c.scaled_count.result h)

pub returns-then-inverted : goal.returns-then-inverted
returns-then-inverted c = rw (sym c.inverted.ensures ∙ c.if-inverted.true, c.scaled_count.ensures)

pub returns : goal.returns
returns c = rw (sym c.inverted.ensures ∙ c.if-inverted.false, c.scaled_count.ensures)
