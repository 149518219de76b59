-- The highest number with n digits. Assumes nothing.
use mathlib.Core.Path.{◌≡◌}
use mathlib.Core.Bool.{true}
use mathlib.Core.List.{List, [], ◌∷◌}
use Prim.Native.Nat.{ℕ, suc, ◌+◌, ◌*◌, ◌^◌, ◌≤◌, ◌<◌}
use native.Mathlib.Nat.{zero-add, add-zero, pow-zero, pow-suc, pow-le-pow_right, mul-le-mul, suc-mul, lt_of_lt_of_le}
use native.Mathlib.Omega.{arith}
use lib.Dec.{ltb, leb}
use lib.ListN.{length}
use Rattle.cases.specs.Tests.{within}
use Rattle.cases.proofs.Cases.{both}
use borrow.Author.Tests.{ltb-true, leb-true}
use Rattle.text.specs.Grammar.{digit_of, digits, value, value_from, is_number}

-- with one digit more the number is below the next power
pub digit_step : (base n v d : ℕ) → v < base ^ n → d < base → v * base + d < base ^ suc n
digit_step base n v d h k =
    let p : suc v * base ≤ base ^ n * base = mul-le-mul h (omega arith) in
    rw (pow-suc base n) (omega (arith, rw (suc-mul v base) at p))

-- a number is below its base to the power of its digits
from_below : (base k v : ℕ) (w : List ℕ) → digits base w ≡ true → v < base ^ k → value_from base v w < base ^ (k + length w)
from_below base k v [] e h = rw add-zero h
from_below base k v (x ∷ xs) e h =
    let (first, rest) = both (ltb (digit_of x) base) (digits base xs) e in
    let q : k + suc (length xs) ≡ suc k + length xs = omega arith in
    rw q (from_below base (suc k) (v * base + digit_of x) xs rest (digit_step base k v (digit_of x) h (ltb-true _ _ first)))

pub number_below : (base most : ℕ) (w : List ℕ) → 0 < base → is_number base most w ≡ true → value base w < base ^ most
number_below base most w h e =
    let (good, long) = both (digits base w) (within 1 most (length w)) e in
    let n : length w ≤ most = leb-true _ _ (both (leb 1 (length w)) (leb (length w) most) long).1 in
    let z : 0 < base ^ 0 = rw pow-zero (omega arith) in
    lt_of_lt_of_le (rw zero-add at (from_below base 0 0 w good z)) (pow-le-pow_right h n)
