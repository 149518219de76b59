-- `offset_of` meets its contract: both numbers are below T, so their difference fits.
use Prim.Native.Nat.{ℕ, ◌<◌, ◌^◌}
use native.Mathlib.Omega.{arith}
use lib.IntN.{pos, ◌-ℤ◌}
use mir.Syntax.{w32}
use mir.Val.{SFits}
use mir.Facts.{to_z-of_z, to_z_pos}
use Rattle.position.proofs.Whole.{difference_below, fits_i32}
use Rattle.position.proofs.offset_of.Goals as goal

-- `offset_of` meets its contract: both numbers are below T, so their difference fits.
difference-fits : (p d : ℕ) → p < 2 ^ 31 → d < 2 ^ 31 → SFits w32 (pos p -ℤ pos d)
difference-fits p d h g = fits_i32 (pos p -ℤ pos d) (difference_below p d (2 ^ 31) h g)

pub overflow_sub-result : goal.overflow_sub-result
overflow_sub-result c =
    let h : c.args.preset < 2 ^ 31 = omega arith in
    let g : c.args.directed < 2 ^ 31 = omega arith in
    rw (to_z_pos w32 h, to_z_pos w32 g) (difference-fits _ _ h g)

pub returns : goal.returns
returns c =
    let h : c.args.preset < 2 ^ 31 = omega arith in
    let g : c.args.directed < 2 ^ 31 = omega arith in
    rw (to_z_pos w32 h, to_z_pos w32 g) (to_z-of_z (difference-fits _ _ h g))
