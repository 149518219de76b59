-- What `lookup` finds, by induction on any list of rows; it finds each row of a list whose keys rise. Assumes nothing.
use Prim.Native.Nat.{ℕ, zero, suc, ◌<◌}
use native.Mathlib.Omega.{arith}
use mathlib.Core.Path.{◌≡◌, refl, ap}
use mathlib.Core.Bool.{true}
use mathlib.Core.List.{List, [], ◌∷◌, map}
use lib.Dec.{eqb, ltb}
use borrow.Author.Tests.{eqb-true, eqb-false, eq-eqb, ne_eqb, ltb-true}
use Rattle.cases.proofs.Cases.{by, test, both}
use Rattle.entries.specs.declared.table.Row.{Row}
use Rattle.entries.specs.Table.{Found, table, key, index, sub, no_sub, lookup_in, lookup}
use Rattle.std.specs.Prelude.{Ok as At, Err}
use Rattle.entries.specs.declared.table.NotFound.TheVariants.{NoSubIndex, NoIndex}
use Rattle.entries.specs.Laws.{rises_from, Stands, Finds}
use Rattle.entries.proofs.Listed.{In, here, later}

-- a row of l that has the index i
abbrev Has : List Row → ℕ → Row → Type 0
Has l i r = In l r × (index r ≡ i)

-- what an answer says about the rows l
abbrev Tells : List Row → ℕ → ℕ → Found → Type 0
Tells l i j (At r) = Has l i r × (sub r ≡ j)
Tells l i j (Err NoSubIndex) = (r : Row) × Has l i r
Tells l i j (Err NoIndex) = (r : Row) → Has l i r → ⊥

module _ (a : Row) (l : List Row) (i j : ℕ) where
  -- behind a row of that index, and behind one of another
  same_index : index a ≡ i → (f : Found) → Tells l i j f → Tells (a ∷ l) i j (no_sub f)
  same_index e (At r) t = ((later a l r t.0.0, t.0.1), t.1)
  same_index e (Err NoSubIndex) t = (a, (here a l, e))
  same_index e (Err NoIndex) t = (a, (here a l, e))

  other_index : (index a ≡ i → ⊥) → (f : Found) → Tells l i j f → Tells (a ∷ l) i j f
  other_index e (At r) t = ((later a l r t.0.0, t.0.1), t.1)
  other_index e (Err NoSubIndex) t = (t.0, (later a l t.0 t.1.0, t.1.1))
  other_index e (Err NoIndex) t = none
    where
      none : (r : Row) → Has (a ∷ l) i r → ⊥
      none r ((zero, (h, x)), y) = e (rw x y)
      none r ((suc k, (h, x)), y) = t r ((k, (omega arith, x)), y)

tells : (l : List Row) (i j : ℕ) → Tells l i j (lookup_in l i j)
tells [] i j = λ r h. omega arith
tells (a ∷ l) i j =
    let next = lookup_in l i j in
    let known = tells l i j in
    by (Tells (a ∷ l) i j) (eqb (index a) i)
    (λ e. by (Tells (a ∷ l) i j) (eqb (sub a) j)
    (λ f. ((here a l, eqb-true _ _ e), eqb-true _ _ f))
    (λ f. same_index a l i j (eqb-true _ _ e) next known))
    (λ e. other_index a l i j (eqb-false _ _ e) next known)

-- In rising keys, each row behind b has a higher one,
above : (b : ℕ) (l : List Row) (r : Row) → rises_from b (map key l) ≡ true → In l r → b < key r
above b [] r e h = absurd (omega arith)
above b (a ∷ l) r e (zero, (h, x)) = rw (← x) (ltb-true b (key a) (both _ _ e).0)
above b (a ∷ l) r e (suc k, (h, x)) =
    let t = both (ltb b (key a)) (rises_from (key a) (map key l)) e in
    let low = ltb-true b (key a) t.0 in
    let high = above (key a) l r t.1 (k, (omega arith, x)) in
    omega arith

-- so that no other row is found for it.
finds_row : (b : ℕ) (l : List Row) (r : Row) → rises_from b (map key l) ≡ true → In l r → lookup_in l (index r) (sub r) ≡ At r
finds_row b [] r e h = absurd (omega arith)
finds_row b (a ∷ l) r e (zero, (h, x)) = rw (x, eq-eqb (index r) (index r) refl, eq-eqb (sub r) (sub r) refl)
finds_row b (a ∷ l) r e (suc k, (h, x)) =
    let t = both (ltb b (key a)) (rises_from (key a) (map key l)) e in
    let behind : In l r = (k, (omega arith, x)) in
    let next = finds_row (key a) l r t.1 behind in
    let low = above (key a) l r t.1 behind in
    test (eqb (index a) (index r))
    (λ f. let same : index a ≡ index r = eqb-true (index a) (index r) f in rw (f, ne_eqb (sub a) (sub r) (λ g. omega arith)) (ap no_sub next))
    (λ f. rw f next)

pub rising : rises_from 0 (map key table) ≡ true
unfolding table
rising = refl

only_sub : (f : Found) → ((r : Row) → f ≡ At r → ⊥) → (f ≡ Err NoIndex → ⊥) → f ≡ Err NoSubIndex
only_sub (At r) a n = absurd (a r refl)
only_sub (Err NoSubIndex) a n = refl
only_sub (Err NoIndex) a n = absurd (n refl)

only_none : (f : Found) → ((r : Row) → f ≡ At r → ⊥) → (f ≡ Err NoSubIndex → ⊥) → f ≡ Err NoIndex
only_none (At r) a n = absurd (a r refl)
only_none (Err NoSubIndex) a n = absurd (n refl)
only_none (Err NoIndex) a n = refl

module _ (i j : ℕ) where
  told : Tells table i j (lookup i j)
  unfolding lookup
  told = tells table i j

  stands : (r : Row) → lookup i j ≡ At r → Stands r i j
  stands r e = rw e at told

  stood : (r : Row) → Stands r i j → lookup i j ≡ At r
  unfolding lookup
  stood r s = rw (← s.0.1, ← s.1) (finds_row 0 table r rising s.0.0)

  not_both : (r : Row) → lookup i j ≡ Err NoSubIndex → lookup i j ≡ At r → ⊥
  not_both r e f = let z : ◌≡◌ {A = ℕ} 0 1 = cc in omega arith

  pub finds : Finds i j
  finds =
      record {
        at = λ r. (stands r, stood r);
        no_sub_index = (
          λ e. (rw e at told, λ r s. not_both r e (stood r s)),
          λ h. only_sub (lookup i j) (λ r e. h.1 r (stands r e)) (λ e. (rw e at told) h.0.0 h.0.1),
        );
        no_index = (
          λ e. rw e at told,
          λ h. only_none (lookup i j) (λ r e. h r (stands r e).0) (λ e. let t = rw e at told in h t.0 t.1),
        );
      }
