-- Laws for each return of `frame`, `ticks`, `sample` and `lone`. Assumes nothing.
use mathlib.Core.Path.{◌≡◌, refl, sym, ◌∙◌}
use mathlib.Core.Bool.{true, and-false}
use mathlib.Core.List.{List, [], ◌∷◌}
use Prim.Native.Nat.{ℕ, ◌+◌, ◌≤◌, ◌<◌}
use native.Mathlib.Omega.{arith}
use lib.Dec.{eqb}
use lib.ListN.{length}
use Rattle.std.specs.Prelude.{None, Some}
use Rattle.text.specs.Grammar.{hex, decimal, fields, same, framed, frame_of, sample_of}
use Rattle.text.specs.Ascii.{ascii}
use Rattle.cases.proofs.Cases.{test, both, true_false}
use borrow.Author.Tests.{eqb-true}
use Rattle.numbers.specs.Steps.{word}
use Rattle.numbers.proofs.Reading.{no_value}
use Rattle.parsing.specs.Steps.{behind, lone}
use Rattle.numbers.specs.declared.Number.{Number}
use Rattle.parsing.proofs.Fields.{fields_word, others, word_all, Numbered, Unread, bounded, behind_none, behind_some}

module _ (l : List ℕ) (fs : List (List ℕ)) where
  pub frame_not : Unread hex 8 fs → None ≡ frame_of fs
  frame_not u = cases fs u where
    cases : (fs : List (List ℕ)) → Unread hex 8 fs → None ≡ frame_of fs
    cases [] u = refl
    cases (w ∷ []) u = refl
    cases (w ∷ v ∷ ws) u = rw u

  module _ {n : Number} (a : Numbered hex 8 l fs 0 n) where
    pub frame_id : n.value < 4294967296
    frame_id = bounded a (omega arith)

    pub frame_unsized : Unread decimal 1 (behind l n.end) → None ≡ frame_of fs
    frame_unsized u = rw a.split (cases (behind l n.end) u) where
      cases : (fs : List (List ℕ)) → Unread decimal 1 fs → None ≡ frame_of (a.field ∷ fs)
      cases [] u = refl
      cases (w ∷ ws) u = rw (u, and-false)

    module _ {m : Number} (b : Numbered decimal 1 l (behind l n.end) (n.end + 1) m) where
      pub frame_len : m.value < 256
      frame_len = let h : m.value < 10 = bounded b (omega arith) in omega arith

      pub frame_good : framed n.value m.value (behind l m.end) ≡ frame_of fs
      frame_good = rw (a.split, b.split, a.good, b.good, a.val, b.val)

  module _ (most : ℕ) where
    pub lone_not : Unread decimal most fs → None ≡ lone most fs
    lone_not u = cases fs u where
      cases : (fs : List (List ℕ)) → Unread decimal most fs → None ≡ lone most fs
      cases [] u = refl
      cases (w ∷ []) u = rw u
      cases (w ∷ v ∷ ws) u = refl

    module _ {n : Number} (a : Numbered decimal most l fs 0 n) where
      pub lone_more : n.end < length l → None ≡ lone most fs
      lone_more h = rw (a.split, behind_some l n.end h)

      pub lone_good : length l ≤ n.end → Some n.value ≡ lone most fs
      lone_good h = rw (a.split, behind_none l n.end h, a.good, a.val)

same_true : (a b : List ℕ) → same a b ≡ true → a ≡ b
same_true [] [] e = refl
same_true [] (y ∷ ys) e = true_false (sym e)
same_true (x ∷ xs) [] e = true_false (sym e)
same_true (x ∷ xs) (y ∷ ys) e = let (first, rest) = both (eqb x y) (same xs ys) e in rw (eqb-true x y first, same_true xs ys rest)

pub sample_not : (l : List ℕ) → (l ≡ ascii "-" → ⊥) → None ≡ lone 10 (fields l) → None ≡ sample_of (fields l)
sample_not l bar e = rw (fields_word l) (cases (others l) refl (rw (fields_word l) at e)) where
  cases : (fs : List (List ℕ)) → others l ≡ fs → None ≡ lone 10 (word l ∷ fs) → None ≡ sample_of (word l ∷ fs)
  cases [] o u =
      rw (no_value _ _ u)
      (test (same (word l) (ascii "-"))
      (λ t. absurd (bar (sym (word_all l o) ∙ same_true _ _ t)))
      (λ t. rw t))
  cases (f ∷ fs) o u = refl
