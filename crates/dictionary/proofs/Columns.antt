-- The columns of a list at a place, by the laws of lists. Assumes nothing.
use Prim.Native.Nat.{ℕ}
use mathlib.Core.Path.{◌≡◌, sym, ◌∙◌, ap}
use mathlib.Core.List.{List, map}
use lib.ListN.{get_or, get_or-map}

-- Columns that are equal are equal at each place.
pub at_place : {A B : Type 0} (f g : A → B) (l : List A) (a : A) (p : ℕ) → f a ≡ g a → map f l ≡ map g l → f (get_or l p a) ≡ g (get_or l p a)
at_place f g l a p e c =
    sym (get_or-map f l p a) ∙ ap (λ x. get_or (map f l) p x) e ∙ ap (λ k. get_or k p (g a)) c ∙ get_or-map g l p a
