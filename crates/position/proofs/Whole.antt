-- Whole numbers by their sign, for code that tests `0 <= z` and then uses unsigned numbers. Assumes nothing.
use Prim.Native.Nat.{ℕ, zero, suc, ◌+◌, ◌-◌, ◌%◌, ◌≤◌, ◌<◌, ◌^◌, zero-le}
use native.Mathlib.Nat.{mod-eq_of_lt, add-mod_right, add-zero, sub-zero}
use native.Mathlib.Omega.{arith}
use mathlib.Core.Path.{◌≡◌, refl, sym, subst, ◌∙◌, ap}
use mathlib.Core.Bool.{true, false}
use lib.Dec.{T, leb-zero, ltb}
use lib.IntN.{ℤ, pos, negsuc, sub_ℕ, ◌+ℤ◌, ◌-ℤ◌, nat_abs}
use lib.Signed.{le_z, non_neg}
use mir.Syntax.{w32}
use mir.Val.{SFits}
use borrow.Author.Tests.{le-ltb, ltb-true, ltb-false}
use Rattle.cases.proofs.Cases.{true_false, test}
use Rattle.position.specs.Position.{modℤ}

not_below : {A : Type 0} (n : ℕ) → le_z (pos 0) (pos n) ≡ false → A
not_below n e = absurd (subst T (sym (leb-zero n) ∙ e) tt)

pub plus : (z : ℤ) → le_z (pos 0) z ≡ true → T (non_neg z)
plus (pos n) e = tt
plus (negsuc n) e = true_false (sym e)

pub plus_sum : (z : ℤ) (d t : ℕ) → le_z (pos 0) z ≡ true → (d + nat_abs z) % t ≡ modℤ (pos d +ℤ z) t
plus_sum (pos n) d t e = refl
plus_sum (negsuc n) d t e = true_false (sym e)

-- 0 less a negative number
pub minus : (z : ℤ) → le_z (pos 0) z ≡ false → pos 0 -ℤ z ≡ pos (nat_abs z)
minus (pos n) e = not_below n e
minus (negsuc n) e = ap pos (omega arith)

-- a less b, modulo t
shifted : (a b t : ℕ) → b < t → (a + (t - b)) % t ≡ modℤ (sub_ℕ a b) t
shifted a b t h = test (ltb a b) down up
  where
    down : ltb a b ≡ true → (a + (t - b)) % t ≡ modℤ (sub_ℕ a b) t
    down e =
        let l : a < b = ltb-true a b e in
        rw e (mod-eq_of_lt (omega arith) ∙ rw (mod-eq_of_lt {n = b - suc a} {m = t} (omega arith)) (omega arith))

    up : ltb a b ≡ false → (a + (t - b)) % t ≡ modℤ (sub_ℕ a b) t
    up e =
        let l : b ≤ a = ltb-false a b e in
        let g : a + (t - b) ≡ (a - b) + t = omega arith in
        rw (e, g) (add-mod_right (a - b) t)

pub minus_sum : (z : ℤ) (d t : ℕ) → le_z (pos 0) z ≡ false → nat_abs z < t → (d + (t - nat_abs z)) % t ≡ modℤ (pos d +ℤ z) t
minus_sum (pos n) d t e h = not_below n e
minus_sum (negsuc n) d t e h = shifted d (suc n) t h

-- a less b, as the code computes it
difference : (a b : ℕ) → pos a -ℤ pos b ≡ sub_ℕ a b
difference a zero = rw (le-ltb a 0 zero-le, add-zero a, sub-zero a)
difference a (suc b) = refl

-- if both are below k, so is their difference without its sign
pub difference_below : (a b k : ℕ) → a < k → b < k → nat_abs (pos a -ℤ pos b) < k
difference_below a b k h g = rw (difference a b) (test (ltb a b) down up)
  where
    down : ltb a b ≡ true → nat_abs (sub_ℕ a b) < k
    down e = let l : a < b = ltb-true a b e in rw e (omega arith)

    up : ltb a b ≡ false → nat_abs (sub_ℕ a b) < k
    up e = rw e (omega arith)

pub fits_i32 : (z : ℤ) → nat_abs z < 2 ^ 31 → SFits w32 z
fits_i32 (pos n) h = record { sfits = h }
fits_i32 (negsuc n) h = record { sfits = omega arith }
