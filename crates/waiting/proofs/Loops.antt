-- Laws for a loop over the places, from one place to the next. Assumes nothing.
use mathlib.Core.Path.{◌≡◌}
use mathlib.Core.Bool.{true, false}
use mathlib.Core.List.{List}
use Prim.Native.Nat.{ℕ, ◌+◌, ◌≤◌, ◌<◌}
use native.Mathlib.Numerals.{add-one}
use lib.ListN.{length, drop, get_or, drop_of_length-le}
use lib.Seq.{drop-cons}
use borrow.Author.Tests.{eq-eqb, ne_eqb}
use Rattle.waiting.specs.Line.{has}

-- A search for k: the places below i are passed.
module _ (k : ℕ) (l : List ℕ) (i : ℕ) where
  pub look_found : i < length l → get_or l i 0 ≡ k → true ≡ has k (drop i l)
  look_found h e = rw (drop-cons l i 0) (simp (eq-eqb _ _ e))

  pub look_past : i < length l → (get_or l i 0 ≡ k → ⊥) → has k (drop i l) ≡ has k (drop (i + 1) l)
  look_past h e = rw (add-one, drop-cons l i 0) (simp (ne_eqb _ _ e))

  pub look_end : length l ≤ i → false ≡ has k (drop i l)
  look_end h = rw (drop_of_length-le l h)
