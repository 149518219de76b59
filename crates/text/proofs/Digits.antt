-- The grammar's digits and numbers are those of specs/Forms.antt. Assumes nothing.
use mathlib.Core.Path.{◌≡◌, refl}
use mathlib.Core.Bool.{true}
use mathlib.Core.List.{List, [], ◌∷◌, ◌++◌, append_assoc, append-nil}
use Prim.Native.Nat.{ℕ, suc, ◌+◌, ◌*◌, ◌≤◌, ◌<◌}
use native.Mathlib.Nat.{add-zero, zero-add}
use native.Mathlib.Omega.{arith}
use lib.Dec.{ltb, leb}
use lib.ListN.{length, length-append}
use Rattle.cases.specs.Tests.{within}
use Rattle.cases.proofs.Cases.{by, both}
use borrow.Author.Tests.{lt-ltb, le-leb, lt-leb, ltb-true, ltb-false, leb-true}
use Rattle.text.specs.Grammar.{digit_of, digits, value, value_from}
use Rattle.text.specs.Printed.{hex_of}
use Rattle.text.specs.Forms.{Digit, numeral, capital, small, Number, none, more}

pub digit_is : {b d : ℕ} → Digit b d → digit_of b ≡ d
digit_is {b} {d} (numeral e h) = rw (e, le-leb 48 (48 + d) (omega arith), le-leb (48 + d) 57 (omega arith)) (omega arith)
digit_is {b} {d} (capital e h k) =
    rw (
      e,
      le-leb 48 (55 + d) (omega arith),
      lt-leb (55 + d) 57 (omega arith),
      le-leb 65 (55 + d) (omega arith),
      le-leb (55 + d) 70 (omega arith),
    )
    (omega arith)
digit_is {b} {d} (small e h k) =
    rw (
      e,
      le-leb 48 (87 + d) (omega arith),
      lt-leb (87 + d) 57 (omega arith),
      le-leb 65 (87 + d) (omega arith),
      lt-leb (87 + d) 70 (omega arith),
      le-leb 97 (87 + d) (omega arith),
      le-leb (87 + d) 102 (omega arith),
    )
    (omega arith)

module _ (b : ℕ) where
  abbrev Good : ℕ → Type 0
  Good d = d < 16 → Digit b d

  inside : (low high : ℕ) → within low high b ≡ true → (low ≤ b) × (b ≤ high)
  inside low high e = let (l, h) = both (leb low b) (leb b high) e in (leb-true _ _ l, leb-true _ _ h)

  pub digit_of_law : Good (digit_of b)
  digit_of_law =
      by Good (within 48 57 b)
      (λ e _. let i = inside 48 57 e in numeral (omega arith) (omega arith))
      (λ _.
      by Good (within 65 70 b)
      (λ e _. let i = inside 65 70 e in capital (omega arith) (omega arith) (omega arith))
      (λ _.
      by Good (within 97 102 b)
      (λ e _. let i = inside 97 102 e in small (omega arith) (omega arith) (omega arith))
      (λ _ h. absurd (omega arith))))

-- what is printed of a digit
pub hex_digit : (n : ℕ) → n < 16 → Digit (hex_of n) n
hex_digit n h =
    by (λ (b : ℕ). Digit b n) (ltb n 10)
    (λ e.
    let k : n < 10 = ltb-true _ _ e in
    numeral refl (omega arith))
    (λ e.
    let k : 10 ≤ n = ltb-false _ _ e in
    capital refl (omega arith) (omega arith))

-- a number as the grammar reads it
pub record Read (base n : ℕ) (w : List ℕ) (v : ℕ) : Type 0 where
  pub right : digits base w ≡ true
  pub long : length w ≡ n
  pub number : value base w ≡ v

pub digits_more : (base : ℕ) (w : List ℕ) (x : ℕ) → digits base w ≡ true → ltb (digit_of x) base ≡ true → digits base (w ++ x ∷ []) ≡ true
digits_more base [] x e h = rw h
digits_more base (y ∷ w) x e h =
    let (a, b) = both (ltb (digit_of y) base) (digits base w) e in
    rw (a, digits_more base w x b h)

pub value_more : (base v : ℕ) (w : List ℕ) (x : ℕ) → value_from base v (w ++ x ∷ []) ≡ value_from base v w * base + digit_of x
value_more base v [] x = refl
value_more base v (y ∷ w) x = value_more base (v * base + digit_of y) w x

pub number_is : {base n v : ℕ} {w : List ℕ} → Number base n w v → Read base n w v
number_is none = record { right = refl; long = refl; number = refl }
number_is {base} (more {n} {v} {b} {d} {w} p q h) =
    let r = number_is p in
    let i : digit_of b ≡ d = digit_is q in
    record {
      right = digits_more base w b r.right (rw i (lt-ltb d base h));
      long = omega (arith, length-append w (b ∷ []));
      number = rw (value_more base 0 w b, r.number, i);
    }

module _ (base : ℕ) (few : base ≤ 16) where
  number_from_law : {k v : ℕ} {begun : List ℕ} (w : List ℕ) → Number base k begun v → digits base w ≡ true
      → Number base (k + length w) (begun ++ w) (value_from base v w)
  number_from_law [] p e = rw (add-zero, append-nil) p
  number_from_law {k} {v} {begun} (x ∷ xs) p e =
      let (first, rest) = both (ltb (digit_of x) base) (digits base xs) e in
      let h : digit_of x < base = ltb-true _ _ first in
      let q : k + suc (length xs) ≡ suc k + length xs = omega arith in
      rw q (rw (append_assoc begun (x ∷ []) xs) at (number_from_law {k = suc k} xs (more p (digit_of_law x (omega arith)) h) rest))

  pub number_of : (w : List ℕ) → digits base w ≡ true → Number base (length w) w (value base w)
  number_of w e = rw zero-add at (number_from_law w none e)
