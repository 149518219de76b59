-- The row of a key: it stands in the list, or no row has the key. Each index of the list has the sub-index 0. Assumes nothing.
use Prim.Native.Nat.{ℕ, zero, suc, ◌<◌}
use native.Mathlib.Omega.{arith}
use mathlib.Core.Path.{◌≡◌, refl, sym, ap, subst, ◌∙◌}
use mathlib.Core.Bool.{Bool, true, false}
use mathlib.Core.List.{List, [], ◌∷◌, map}
use lib.Dec.{eqb}
use borrow.Author.Tests.{eqb-true, eqb-false}
use Rattle.cases.proofs.Cases.{true_false, test}
use Rattle.entries.specs.declared.table.Row.{Row}
use Rattle.std.specs.Prelude.{Option, None, Some}
use Rattle.entries.specs.Table.{table, key, index, key_of, with_key, row_of_key}
use Rattle.entries.specs.Laws.{HasIndex, Stands}
use Rattle.entries.proofs.Listed.{In, here, later, agree}

-- what is known of what was sought for the key k in l
abbrev Sought : List Row → ℕ → Option Row → Type 0
Sought l k (Some r) = In l r × (key r ≡ k)
Sought l k None = (q : Row) → In l q → key q ≡ k → ⊥

behind : (a : Row) (l : List Row) (k : ℕ) (x : Option Row) → (key a ≡ k → ⊥) → Sought l k x → Sought (a ∷ l) k x
behind a l k (Some r) n (h, e) = (later a l r h, e)
behind a l k None n f = none
  where
    none : (q : Row) → In (a ∷ l) q → key q ≡ k → ⊥
    none q (zero, (h, x)) y = n (rw x y)
    none q (suc p, (h, x)) y = f q (p, (omega arith, x)) y

sought : (l : List Row) (k : ℕ) → Sought l k (with_key l k)
sought [] k = λ q h. absurd (omega arith)
sought (a ∷ l) k =
    test (eqb (key a) k)
    (λ e. rw e (here a l, eqb-true _ _ e))
    (λ e. rw e (behind a l k (with_key l k) (eqb-false _ _ e) (sought l k)))

found : (k : ℕ) → Sought table k (row_of_key k)
unfolding row_of_key
found k = sought table k

-- Each index has the sub-index 0.
abbrev is_none : Option Row → Bool
is_none None = true
is_none (Some r) = false

first : map (λ r. is_none (row_of_key (key_of (index r) 0))) table ≡ map (λ r. false) table
unfolding table row_of_key
first = refl

module _ (i j : ℕ) where
  pub there : (r : Row) → j < 256 → row_of_key (key_of i j) ≡ Some r → Stands r i j
  there r b e = let h = subst (Sought table (key_of i j)) e (found (key_of i j)) in ((h.0, omega (arith, h.1)), omega (arith, h.1))

  pub not_there : row_of_key (key_of i j) ≡ None → (r : Row) → Stands r i j → ⊥
  not_there e r s =
      let h = subst (Sought table (key_of i j)) e (found (key_of i j)) in
      h r s.0.0 (let x = s.0.1 in let y = s.1 in omega arith)

pub no_first : (i : ℕ) → row_of_key (key_of i 0) ≡ None → (r : Row) → HasIndex r i → ⊥
no_first i e r h =
    let f = agree (λ q. is_none (row_of_key (key_of (index q) 0))) (λ q. false) first r h.0 in
    true_false (ap is_none (sym e) ∙ (rw h.1 at f))
