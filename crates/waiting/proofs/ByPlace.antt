-- A withdrawal, place by place. Assumes nothing.
use Prim.Native.Nat.{ℕ, zero, suc, ◌+◌, ◌≤◌, ◌<◌}
use native.Mathlib.Numerals.{add-one}
use native.Mathlib.Omega.{arith}
use mathlib.Core.Path.{◌≡◌, refl, sym, ap, ◌∙◌}
use mathlib.Core.Bool.{Bool, true, false, cond}
use mathlib.Core.List.{List, [], ◌∷◌}
use lib.Dec.{eqb}
use lib.ListN.{length, take, drop, get_or, drop_of_length-le}
use lib.Seq.{drop-cons}
use borrow.Author.Tests.{eq-eqb, ne_eqb}
use Rattle.cases.specs.Padded.{pad}
use Rattle.cases.proofs.Cases.{test}
use Rattle.waiting.specs.Line.{places, withdraw}
use Rattle.waiting.specs.Places.{withdraw_in}

-- the places, one by one
abbrev five : List ℕ → List ℕ
five l = get_or l 0 0 ∷ get_or l 1 0 ∷ get_or l 2 0 ∷ get_or l 3 0 ∷ get_or l 4 0 ∷ []

pub five_places : (l : List ℕ) → length l ≡ places → five l ≡ l
five_places [] e = absurd (omega (arith, e))
five_places (a ∷ []) e = absurd (omega (arith, e))
five_places (a ∷ b ∷ []) e = absurd (omega (arith, e))
five_places (a ∷ b ∷ d ∷ []) e = absurd (omega (arith, e))
five_places (a ∷ b ∷ d ∷ f ∷ []) e = absurd (omega (arith, e))
five_places (a ∷ b ∷ d ∷ f ∷ g ∷ []) e = refl
five_places (a ∷ b ∷ d ∷ f ∷ g ∷ i ∷ l) e = absurd (omega (arith, e))

take_pad : (n : ℕ) (l : List ℕ) → take n (pad (suc n) l) ≡ pad n l
take_pad zero l = refl
take_pad (suc n) [] = ap {B = List ℕ} (λ r. 0 ∷ r) (take_pad n [])
take_pad (suc n) (x ∷ l) = ap {B = List ℕ} (λ r. x ∷ r) (take_pad n l)

-- a withdrawal: a kind that stays comes before those that stay behind it
abbrev stays : ℕ → List ℕ → List ℕ
stays k [] = pad places []
stays k (x ∷ xs) = cond (eqb x k) (stays k xs) (x ∷ take 4 (stays k xs))

stays_of : (k : ℕ) (l : List ℕ) → stays k l ≡ pad places (withdraw l k)
stays_of k [] = refl
stays_of k (x ∷ xs) =
    test (eqb x k)
    (λ e. rw e (stays_of k xs))
    (λ e. rw (e, stays_of k xs) (ap {B = List ℕ} (λ r. x ∷ r) (take_pad 4 (withdraw xs k))))

-- the same from the last place to the first, with what stays behind the places that are left
abbrev pub onto : List ℕ → ℕ → List ℕ → List ℕ
onto left k [] = left
onto left k (x ∷ xs) = onto (cond (eqb x k) left (x ∷ take 4 left)) k xs

pub onto_all : (k : ℕ) (l : List ℕ) → length l ≡ places
    → onto (pad places []) k (get_or l 4 0 ∷ get_or l 3 0 ∷ get_or l 2 0 ∷ get_or l 1 0 ∷ get_or l 0 0 ∷ []) ≡ withdraw_in l k
onto_all k l e = stays_of k (five l) ∙ ap (λ r. withdraw_in r k) (five_places l e)

one_more : (left : List ℕ) (k x : ℕ) (xs : List ℕ) (b : Bool) → eqb x k ≡ b
    → onto left k (x ∷ xs) ≡ onto (cond b left (x ∷ take 4 left)) k xs
one_more left k x xs b e = ap (λ c. onto (cond c left (x ∷ take 4 left)) k xs) e

-- A withdrawal of k: the places below i are passed.
module _ (left : List ℕ) (k : ℕ) (l : List ℕ) (i : ℕ) where
  -- this place holds the kind, which goes
  pub goes_at : i < length l → get_or l i 0 ≡ k → onto left k (drop i l) ≡ onto left k (drop (i + 1) l)
  goes_at h e = rw (add-one, drop-cons l i 0) (one_more left k _ (drop (suc i) l) true (eq-eqb _ _ e))

  -- or another, which stays in front of those behind it
  pub stays_at : length left ≡ places → i < length l → (get_or l i 0 ≡ k → ⊥)
      → onto left k (drop i l)
      ≡ onto (get_or l i 0 ∷ get_or left 0 0 ∷ get_or left 1 0 ∷ get_or left 2 0 ∷ get_or left 3 0 ∷ []) k (drop (i + 1) l)
  stays_at n h e =
      rw (add-one, drop-cons l i 0)
      (one_more left k _ (drop (suc i) l) false (ne_eqb _ _ e)
      ∙ ap (λ r. onto (get_or l i 0 ∷ take 4 r) k (drop (suc i) l)) (sym (five_places left n)))

  -- none is left
  pub stays_end : length l ≤ i → onto left k (drop i l) ≡ left
  stays_end h = rw (drop_of_length-le l h) refl
