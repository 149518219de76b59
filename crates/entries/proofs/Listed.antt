-- The rows of a list, by their place in it: what holds in columns holds of each row. By induction. Assumes nothing.
use Prim.Native.Nat.{ℕ, zero, suc, ◌<◌}
use native.Mathlib.Omega.{arith}
use mathlib.Core.Path.{◌≡◌, refl, sym, ap, ◌∙◌}
use mathlib.Core.List.{List, [], ◌∷◌, map}
use lib.ListN.{length, get_or}
use Rattle.entries.specs.declared.table.Row.{Row}
use Rattle.entries.specs.Table.{table, no_row}
use Rattle.entries.specs.Laws.{Listed}

-- the list l has the row r
abbrev pub In : List Row → Row → Type 0
In l r = (p : ℕ) × ((p < length l) × (get_or l p no_row ≡ r))

pub here : (r : Row) (l : List Row) → In (r ∷ l) r
here r l = (0, (omega arith, refl))

pub later : (a : Row) (l : List Row) (r : Row) → In l r → In (a ∷ l) r
later a l r h = (suc h.0, (omega arith, h.1.1))

module _ {A : Type 0} where
  at_place : (f : Row → A) (l : List Row) (p : ℕ) (x : A) → p < length l → f (get_or l p no_row) ≡ get_or (map f l) p x
  at_place f [] p x h = absurd (omega arith)
  at_place f (r ∷ l) zero x h = refl
  at_place f (r ∷ l) (suc p) x h = at_place f l p x (omega arith)

  -- Columns that are equal are equal in each row.
  pub agree : (f g : Row → A) → map f table ≡ map g table → (r : Row) → Listed r → f r ≡ g r
  agree f g c r (p, (h, e)) =
      rw (← e) (at_place f table p (f no_row) h ∙ ap (λ m. get_or m p (f no_row)) c ∙ sym (at_place g table p (f no_row) h))
