-- Each type has 1, 2 or 4 bytes, or is a name's, up to 32: a property of these four widths is a property of every entry's width.
use Prim.Native.Nat.{ℕ}
use mathlib.Core.Path.{◌≡◌, refl, sym, subst}
use mathlib.Core.Bool.{Bool, true, false, ◌||◌}
use mathlib.Core.List.{map}
use lib.Dec.{eqb}
use borrow.Author.Tests.{eqb-true}
use Rattle.cases.proofs.Cases.{true_false}
use Rattle.entries.specs.declared.table.Row.{Row}
use Rattle.entries.specs.Table.{table, width}
use Rattle.entries.specs.Laws.{Listed}
use Rattle.entries.proofs.Listed.{agree}

abbrev typed : Row → Bool
typed r = eqb (width r) 1 || eqb (width r) 2 || eqb (width r) 4 || eqb (width r) 32

all_typed : map typed table ≡ map (λ r. true) table
unfolding table
all_typed = refl

module _ {ℓ} (P : ℕ → Type ℓ) (one : P 1) (two : P 2) (four : P 4) (name : P 32) where
  of_four : (w : ℕ) (a b c e : Bool) → eqb w 1 ≡ a → eqb w 2 ≡ b → eqb w 4 ≡ c → eqb w 32 ≡ e → (a || b || c || e) ≡ true → P w
  of_four w true b c e p q r s h = subst P (sym (eqb-true w 1 p)) one
  of_four w false true c e p q r s h = subst P (sym (eqb-true w 2 q)) two
  of_four w false false true e p q r s h = subst P (sym (eqb-true w 4 r)) four
  of_four w false false false true p q r s h = subst P (sym (eqb-true w 32 s)) name
  of_four w false false false false p q r s h = true_false (sym h)

  pub each_width : (r : Row) → Listed r → P (width r)
  each_width r h = of_four (width r) _ _ _ _ refl refl refl refl (agree typed (λ q. true) all_typed r h)
