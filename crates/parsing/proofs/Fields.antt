-- The fields of a line, one after another, and what a number that was read says about them. Assumes nothing.
use mathlib.Core.Path.{◌≡◌, refl, ap, sym}
use mathlib.Core.Bool.{true, false, cond}
use mathlib.Core.List.{List, [], ◌∷◌}
use Prim.Native.Nat.{ℕ, suc, ◌+◌, ◌^◌, ◌≤◌, ◌<◌, ◌-◌}
use Prim.Native.Char.{code}
use native.Mathlib.Numerals.{add-one}
use native.Mathlib.Omega.{arith}
use lib.Dec.{eqb, ltb}
use lib.ListN.{length, drop, length-drop}
use lib.Seq.{drop-drop}
use Rattle.cases.proofs.Cases.{test}
use borrow.Author.Tests.{lt-ltb, le-ltb, ltb-true, ltb-false}
use Rattle.text.specs.Grammar.{fields, value, is_number}
use Rattle.numbers.specs.Steps.{word, number_at}
use Rattle.parsing.specs.Steps.{behind, next_at}
use Rattle.numbers.specs.declared.Number.{Number}
use Rattle.std.specs.Prelude.{None, Some}
use Rattle.std.proofs.lemmas.Option.{none-some, cond_some}
use Rattle.numbers.proofs.Reading.{no_value}
use Rattle.text.proofs.Numbers.{number_below}

-- the fields behind the first
abbrev pub others : List ℕ → List (List ℕ)
others [] = []
others (x ∷ xs) = cond (eqb x (code " ")) (fields xs) (others xs)

pub fields_word : (l : List ℕ) → fields l ≡ word l ∷ others l
fields_word [] = refl
fields_word (x ∷ xs) = test (eqb x (code " ")) (λ e. rw e) (λ e. rw (e, fields_word xs))

-- the first is all, where there is no other
pub word_all : (l : List ℕ) → others l ≡ [] → word l ≡ l
word_all [] h = refl
word_all (x ∷ xs) h =
    test (eqb x (code " "))
    (λ e. let none : length (fields xs) ≡ 0 = ap length (rw e at h) in absurd (omega (arith, rw fields_word at none)))
    (λ e. rw (e, word_all xs (rw e at h)))

others_none : (l : List ℕ) → length l ≤ length (word l) → others l ≡ []
others_none [] h = refl
others_none (x ∷ xs) h =
    test (eqb x (code " "))
    (λ e. let k : suc (length xs) ≤ 0 = rw e at h in absurd (omega arith))
    (λ e. let k : suc (length xs) ≤ suc (length (word xs)) = rw e at h in rw e (others_none xs (omega arith)))

others_some : (l : List ℕ) → length (word l) < length l → others l ≡ fields (drop (suc (length (word l))) l)
others_some [] h = absurd (omega arith)
others_some (x ∷ xs) h =
    test (eqb x (code " "))
    (λ e. rw e)
    (λ e. let k : suc (length (word xs)) < suc (length xs) = rw e at h in rw e (others_some xs (omega arith)))

-- the field at `at`, and those behind it
pub fields_at : (l : List ℕ) (at : ℕ) → fields (drop at l) ≡ word (drop at l) ∷ behind l (at + length (word (drop at l)))
fields_at l at =
    let w = word (drop at l) in
    let short : length (drop at l) ≡ length l - at = length-drop at l in
    test (ltb (at + length w) (length l))
    (λ e.
    let h : at + length w < length l = ltb-true _ _ e in
    let on : at + suc (length w) ≡ suc (at + length w) = omega arith in
    rw (fields_word (drop at l), e, others_some (drop at l) (omega arith), drop-drop, on))
    (λ e.
    let h : length l ≤ at + length w = ltb-false _ _ e in
    rw (fields_word (drop at l), e, others_none (drop at l) (omega arith)))

-- a number that was read from the first of these fields, which begins at `at`
pub record Numbered (base most : ℕ) (l : List ℕ) (fs : List (List ℕ)) (at : ℕ) (n : Number) : Type 0 where
  pub field : List ℕ
  pub split : fs ≡ field ∷ behind l n.end
  pub good : is_number base most field ≡ true
  pub val : n.value ≡ value base field
  pub end : n.end ≡ at + length field

pub numbered : (base most : ℕ) (l : List ℕ) (at : ℕ) (n : Number) → Some n ≡ number_at base most l at
    → Numbered base most l (fields (drop at l)) at n
numbered base most l at n e =
    let (good, same) = cond_some _ _ n (sym e) in
    rw (← same) (record { field = word (drop at l); split = fields_at l at; good = good; val = refl; end = refl })

pub numbered_next : (base most : ℕ) (l : List ℕ) (p : ℕ) (n : Number) → Some n ≡ next_at base most l p
    → Numbered base most l (behind l p) (p + 1) n
numbered_next base most l p n e =
    test (ltb p (length l))
    (λ t. rw (t, add-one p) (numbered base most l (suc p) n (rw t at e)))
    (λ t. absurd (none-some n (sym (rw t at e))))

pub bounded : {base most at : ℕ} {l : List ℕ} {fs : List (List ℕ)} {n : Number} → Numbered base most l fs at n → 0 < base → n.value < base ^ most
bounded {base} {most} w h = rw w.val (number_below base most w.field h w.good)

-- the first of these fields, if there is one, is no number
abbrev pub Unread : ℕ → ℕ → List (List ℕ) → Type 0
Unread base most [] = Unit {0}
Unread base most (w ∷ ws) = is_number base most w ≡ false

pub unread : (base most : ℕ) (l : List ℕ) (at : ℕ) → None ≡ number_at base most l at → Unread base most (fields (drop at l))
unread base most l at e = rw (fields_word (drop at l)) (no_value _ _ e)

pub unread_next : (base most : ℕ) (l : List ℕ) (p : ℕ) → None ≡ next_at base most l p → Unread base most (behind l p)
unread_next base most l p e =
    test (ltb p (length l))
    (λ t. rw t (unread base most l (suc p) (rw t at e)))
    (λ t. rw t tt)

pub behind_none : (l : List ℕ) (p : ℕ) → length l ≤ p → behind l p ≡ []
behind_none l p h = rw (le-ltb p (length l) h)

pub behind_some : (l : List ℕ) (p : ℕ) → p < length l → behind l p ≡ word (drop (suc p) l) ∷ others (drop (suc p) l)
behind_some l p h = rw (lt-ltb p (length l) h) (fields_word (drop (suc p) l))
