-- A property of each row that passes a test is a property of a row of the table, if that one passes. By induction on the list. Assumes nothing.
use Prim.Native.Nat.{ℕ, zero, suc, ◌<◌}
use native.Mathlib.Omega.{arith}
use mathlib.Core.Path.{◌≡◌, sym, ap, subst, ◌∙◌}
use mathlib.Core.Bool.{Bool, true, false, cond}
use mathlib.Core.List.{List, [], ◌∷◌}
use lib.ListN.{length, get_or}
use Rattle.cases.proofs.Cases.{true_false, Each, ◌▸◌}
use Rattle.entries.specs.declared.table.Row.{Row}
use Rattle.entries.specs.Table.{table, no_row}
use Rattle.entries.specs.Laws.{Listed}
use Rattle.dictionary.specs.AcceptedLaws.{those}

module _ {A : Type 0} (P : A → Type 0) where
  first : (t : Bool) (a : A) (l : List A) → t ≡ true → Each P (cond t (a ∷ l) l) → P a
  first true a l e (x ▸ y) = x
  first false a l e x = true_false (sym e)

  rest : (t : Bool) (a : A) (l : List A) → Each P (cond t (a ∷ l) l) → Each P l
  rest true a l (x ▸ y) = y
  rest false a l x = x

  at_each : (t : A → Bool) (l : List A) (d : A) (p : ℕ) → Each P (those t l) → p < length l → t (get_or l p d) ≡ true → P (get_or l p d)
  at_each t [] d p x h e = absurd (omega arith)
  at_each t (a ∷ l) d zero x h e = first (t a) a (those t l) e x
  at_each t (a ∷ l) d (suc p) x h e = at_each t l d p (rest (t a) a (those t l) x) (omega arith) e

pub of_each : (P : Row → Type 0) (t : Row → Bool) → Each P (those t table) → (r : Row) → Listed r → t r ≡ true → P r
of_each P t x r (p, (h, e)) f = subst P e (at_each P t table no_row p x h (ap t e ∙ f))
