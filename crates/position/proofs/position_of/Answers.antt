-- `position_of` meets its contract: d is below T, and the offset passed on is the profile's.
use borrow.Author.Rules.{rules}
use Prim.Native.Nat.{ℕ, ◌<◌}
use native.Mathlib.Omega.{arith}
use lib.IntN.{ℤ, pos, ◌+ℤ◌}
use mathlib.Core.Path.{◌∙◌, ap₂}
use Rattle.position.specs.Position.{modℤ}
use Rattle.position.proofs.Offset.{offset_passed}
use Rattle.position.proofs.Direction.{directed_below}
use Rattle.position.proofs.position_of.Goals as goal

pub moved-requires : goal.moved-requires
moved-requires c =
    let h : 0 < c.args.profile.range = omega arith in
    let l = directed_below c.args.profile c.args.raw h in
    rw (offset_passed c.requires) (search rules, rw c.directed_of.ensures l, c.requires.offset)

pub returns : goal.returns
returns c =
    c.moved.ensures
    ∙ ap₂ (λ (d : ℕ) (z : ℤ). modℤ (pos d +ℤ z) c.args.profile.range) c.directed_of.ensures
    (offset_passed c.requires)
