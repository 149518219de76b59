-- `preset_to` meets its contract: p and d are below T.
use Prim.Native.Nat.{◌<◌}
use native.Mathlib.Omega.{arith}
use mir.Syntax.{w32}
use mir.Facts.{to_z-of_z}
use Rattle.position.proofs.Direction.{directed_below}
use Rattle.position.proofs.preset_to.Goals as goal

pub offset_of-requires : goal.offset_of-requires
offset_of-requires c =
    let h : 0 < c.args.profile.range = omega arith in
    let l : c.directed_of.result < c.args.profile.range =
    rw c.directed_of.ensures (directed_below c.args.profile c.args.raw h) in
    omega arith

pub returns : goal.returns
returns c = rw (to_z-of_z {w = w32} (record { sfits = c.offset_of.type_inv }), c.offset_of.ensures, c.directed_of.ensures)
