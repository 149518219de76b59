-- The offset of a valid profile as the code passes it: an i32 is passed as its bits, and comes back as the same number. Assumes nothing.
use Prim.Native.Nat.{◌<◌, ◌^◌}
use native.Mathlib.Omega.{arith}
use lib.IntN.{nat_abs}
use mathlib.Core.Path.{◌≡◌}
use mir.Syntax.{w32}
use mir.Val.{to_z, of_z}
use mir.Facts.{to_z-of_z}
use Rattle.position.specs.declared.Profile.{Profile}
use Rattle.position.specs.Profile.{ValidProfile}
use Rattle.position.proofs.Whole.{fits_i32}

pub offset_passed : {p : Profile} → ValidProfile p → to_z w32 (of_z w32 p.offset) ≡ p.offset
offset_passed {p} v =
    let h : nat_abs p.offset < 2 ^ 31 = omega arith in
    to_z-of_z (fits_i32 p.offset h)
