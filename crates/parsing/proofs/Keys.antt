-- Laws for each return of `parse`, by the length of the line, its second byte and its key. Assumes nothing.
use mathlib.Core.Path.{◌≡◌, refl, sym, ap, ◌∙◌}
use mathlib.Core.Bool.{Bool, true, ◌&&◌, cond, and-false}
use mathlib.Core.List.{List, [], ◌∷◌}
use Prim.Native.Nat.{ℕ, ◌-◌, ◌≤◌, ◌<◌}
use Prim.Native.Char.{code}
use native.Mathlib.Omega.{arith}
use lib.Dec.{eqb}
use lib.ListN.{length, get_or}
use lib.Seq.{take_all}
use Rattle.std.specs.List.{slice_range}
use Rattle.cases.proofs.Cases.{test, by, true_false}
use borrow.Author.Tests.{ne_eqb, eq-eqb, eqb-true}
use Rattle.text.specs.Grammar.{Parsed, fields, only, malformed, frame_of, ticks_of, sample_of, parsed}
use Rattle.text.specs.declared.Command.TheVariants.{Slot}
use Rattle.parsing.proofs.Fields.{fields_word}

-- malformed whatever a test says
whatever : (t : Bool) {p : Parsed} → malformed ≡ p → malformed ≡ cond t malformed p
whatever t e = by (λ (p : Parsed). malformed ≡ p) t (λ _. refl) (λ _. e)

pub parse_empty : (l : List ℕ) → length l < 1 → malformed ≡ parsed l
unfolding parsed
parse_empty [] h = refl
parse_empty (x ∷ xs) h = absurd (omega arith)

pub parse_slot : (l : List ℕ) → 1 ≤ length l → length l < 2 → get_or l 0 0 ≡ code "?" → only Slot ≡ parsed l
unfolding parsed
parse_slot [] h k e = absurd (omega arith)
parse_slot (x ∷ []) h k e = rw e
parse_slot (x ∷ y ∷ l) h k e = absurd (omega arith)

pub parse_one : (l : List ℕ) → 1 ≤ length l → length l < 2 → (get_or l 0 0 ≡ code "?" → ⊥) → malformed ≡ parsed l
unfolding parsed
parse_one [] h k e = absurd (omega arith)
parse_one (x ∷ []) h k e =
    test (eqb x (code " "))
    (λ q. rw q)
    (λ q.
    rw (q, ne_eqb x (code "?") e)
    (whatever (eqb x (code "F") && true) (whatever (eqb x (code "T") && true) (whatever (eqb x (code "S") && true) refl))))
parse_one (x ∷ y ∷ l) h k e = absurd (omega arith)

pub parse_close : (l : List ℕ) → 2 ≤ length l → (get_or l 1 0 ≡ code " " → ⊥) → malformed ≡ parsed l
unfolding parsed
parse_close [] h e = absurd (omega arith)
parse_close (x ∷ []) h e = absurd (omega arith)
parse_close (x ∷ y ∷ l) h e =
    rw (ne_eqb _ _ e)
    (test (eqb x (code " "))
    (λ q. rw q)
    (λ q.
    rw (
      q,
      fields_word l,
      and-false (eqb x (code "F")),
      and-false (eqb x (code "T")),
      and-false (eqb x (code "S")),
      and-false (eqb x (code "?")),
    )))

unkeyed : (x : ℕ) (m : List ℕ) → (x ≡ code "F" → ⊥) → (x ≡ code "T" → ⊥) → (x ≡ code "S" → ⊥) → malformed ≡ parsed (x ∷ code " " ∷ m)
unfolding parsed
unkeyed x m f t s =
    test (eqb x (code " "))
    (λ q. rw q)
    (λ q.
    rw (q, ne_eqb x (code "F") f, ne_eqb x (code "T") t, ne_eqb x (code "S") s, fields_word m)
    (whatever (eqb x (code "?") && true) refl))

pub parse_other : (l : List ℕ) → 2 ≤ length l → (get_or l 0 0 ≡ code "F" → ⊥) → (get_or l 0 0 ≡ code "T" → ⊥) → (get_or l 0 0 ≡ code "S" → ⊥) → malformed ≡ parsed l
parse_other [] h f t s = absurd (omega arith)
parse_other (x ∷ []) h f t s = absurd (omega arith)
parse_other (x ∷ y ∷ l) h f t s =
    test (eqb y (code " "))
    (λ e. rw (eqb-true y (code " ") e) (unkeyed x l f t s))
    (λ e. parse_close (x ∷ y ∷ l) h (λ q. true_false (sym (eq-eqb y (code " ") q) ∙ e)))

-- what is lent behind the key and its space
abbrev rest : List ℕ → List ℕ
rest l = slice_range l 2 (length l)

two : (l : List ℕ) → 2 ≤ length l → l ≡ get_or l 0 0 ∷ get_or l 1 0 ∷ rest l
two [] h = absurd (omega arith)
two (x ∷ []) h = absurd (omega arith)
two (x ∷ y ∷ l) h = ap (λ (m : List ℕ). x ∷ y ∷ m) (sym (take_all (length (x ∷ y ∷ l) - 2) l (omega arith)))

module _ (l : List ℕ) (h : 2 ≤ length l) (e : get_or l 1 0 ≡ code " ") where
  keyed : {k : ℕ} → get_or l 0 0 ≡ k → l ≡ k ∷ code " " ∷ rest l
  keyed q = two l h ∙ rw (q, e)

  pub parse_F : {p : Parsed} → get_or l 0 0 ≡ code "F" → p ≡ frame_of (fields (rest l)) → p ≡ parsed l
  unfolding parsed
  parse_F k q = q ∙ sym (ap parsed (keyed k))

  pub parse_T : {p : Parsed} → get_or l 0 0 ≡ code "T" → p ≡ ticks_of (fields (rest l)) → p ≡ parsed l
  unfolding parsed
  parse_T k q = q ∙ sym (ap parsed (keyed k))

  pub parse_S : {p : Parsed} → get_or l 0 0 ≡ code "S" → p ≡ sample_of (fields (rest l)) → p ≡ parsed l
  unfolding parsed
  parse_S k q = q ∙ sym (ap parsed (keyed k))
