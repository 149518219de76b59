-- Laws for the field of a line and for the loop over its digits. Assumes nothing.
use mathlib.Core.Path.{◌≡◌, refl, sym, ap, ◌∙◌}
use mathlib.Core.Bool.{Bool, true, false, cond, and-false}
use mathlib.Core.List.{List, [], ◌∷◌}
use Prim.Native.Nat.{ℕ, zero, suc, ◌+◌, ◌*◌, ◌^◌, ◌≤◌, ◌<◌}
use Prim.Native.Char.{code}
use native.Mathlib.Nat.{pow-suc, pow-le-pow_left, pow-le-pow_right, mul-le-mul, le_trans}
use native.Mathlib.Numerals.{add-one}
use native.Mathlib.Omega.{arith}
use lib.Dec.{eqb, ltb}
use lib.ListN.{length, take, drop, get_or, length-drop}
use lib.Seq.{take-suc, take_all}
use Rattle.std.specs.Prelude.{Option, None, Some, unwrap_or}
use Rattle.std.proofs.lemmas.Option.{none-some, cond_some}
use Rattle.std.specs.List.{position, position_or_len, slice_range}
use Rattle.cases.proofs.Cases.{test}
use borrow.Author.Tests.{ltb-true, ltb-false}
use Rattle.text.specs.Grammar.{digit_of, digits, value}
use Rattle.text.proofs.Numbers.{digit_step}
use Rattle.text.proofs.Digits.{digits_more, value_more}
use Rattle.numbers.specs.Steps.{word, digit_in, number_at}

word_until : (l : List ℕ) → take (position_or_len (λ b. eqb b (code " ")) l) l ≡ word l
word_until [] = refl
word_until (x ∷ xs) = test (eqb x (code " "))
    (λ e. rw e)
    (λ e.
    let n = position_or_len (λ (b : ℕ). eqb b (code " ")) xs in
    let more : 1 + n ≡ suc n = omega arith in
    rw (e, more, word_until xs))

pub word_before : (l : List ℕ) {p : Option ℕ} → p ≡ position (λ b. eqb b (code " ")) l → take (unwrap_or p (length l)) l ≡ word l
word_before l e =
    let n = position_or_len (λ (b : ℕ). eqb b (code " ")) l in
    rw e
    (test (ltb n (length l))
    (λ t. rw t (word_until l))
    (λ t. rw t (take_all (length l) l (omega arith) ∙ sym (take_all n l (omega (arith, ltb-false))) ∙ word_until l)))

pub word_rest : (l : List ℕ) (at : ℕ) (rest w : List ℕ) → rest ≡ slice_range l at (length l) → w ≡ word rest → w ≡ word (drop at l)
word_rest l at rest w e p = p ∙ ap word (e ∙ take_all _ (drop at l) (omega (arith, length-drop at l)))

-- i digits are read, and have the value v
pub record Reading (base : ℕ) (w : List ℕ) (v i : ℕ) : Type 0 where
  pub good : digits base (take i w) ≡ true
  pub read : v ≡ value base (take i w)
  pub small : v < base ^ i

module _ {base v i : ℕ} {w : List ℕ} (r : Reading base w v i) (h : i < length w) where
  power : base ≤ 16 → length w ≤ 10 → base ^ suc i ≤ 16 ^ 10
  power b n = let m : suc i ≤ 10 = omega arith in le_trans (pow-le-pow_left b (suc i)) (pow-le-pow_right (omega arith) m)

  pub read_room : base ≤ 16 → length w ≤ 10 → v * base < 18446744073709551616
  read_room b n =
      let p : base ^ suc i ≤ 16 ^ 10 = power b n in
      let q : v * base ≤ base ^ i * base = mul-le-mul (omega (arith, r.small)) (omega arith) in
      omega (arith, rw (← pow-suc base i) at q)

  module _ {d : ℕ} (e : Some d ≡ digit_in base (get_or w i 0)) where
    digit_is : (ltb (digit_of (get_or w i 0)) base ≡ true) × (digit_of (get_or w i 0) ≡ d)
    digit_is = cond_some _ _ d (sym e)

    pub read_fits : base ≤ 16 → length w ≤ 10 → v * base + d < 18446744073709551616
    read_fits b n =
        let p : base ^ suc i ≤ 16 ^ 10 = power b n in
        omega (arith, digit_step base i v (digit_of (get_or w i 0)) r.small (ltb-true _ _ digit_is.0), digit_is.1)

    pub read_more : Reading base w (v * base + d) (i + 1)
    read_more =
        rw (add-one i, ← digit_is.1) (record {
          good = rw (take-suc w i 0 h) (digits_more base (take i w) (get_or w i 0) r.good digit_is.0);
          read = rw (take-suc w i 0 h, value_more, ← r.read);
          small = digit_step base i v (digit_of (get_or w i 0)) r.small (ltb-true _ _ digit_is.0);
        })

digits_bad : (base : ℕ) (w : List ℕ) (i : ℕ) → i < length w → ltb (digit_of (get_or w i 0)) base ≡ false → digits base w ≡ false
digits_bad base [] i h e = absurd (omega arith)
digits_bad base (x ∷ w) zero h e = rw e
digits_bad base (x ∷ w) (suc i) h e = rw (digits_bad base w i (omega arith) e) (and-false _)

pub no_value : {A : Type 0} (t : Bool) (a : A) → None ≡ cond t (Some a) None → t ≡ false
no_value true a e = absurd (none-some a e)
no_value false a e = refl

pub read_bad : (base most at i : ℕ) (l w : List ℕ) → w ≡ word (drop at l) → i < length w → None ≡ digit_in base (get_or w i 0)
    → None ≡ number_at base most l at
read_bad base most at i l w e h n = rw (← e, digits_bad base w i h (no_value _ _ n))
