-- The kinds of a list that are due: which they are, their order, and how they join. Assumes nothing.
use Prim.Native.Nat.{ℕ}
use mathlib.Core.Path.{◌≡◌, sym}
use mathlib.Core.Bool.{Bool, ◌&&◌, and-false}
use mathlib.Core.List.{List, [], ◌∷◌}
use lib.Dec.{eqb}
use borrow.Author.Rules.{rules}
use borrow.Author.Tests.{eqb-true}
use Rattle.cases.proofs.Cases.{by, test}
use Rattle.waiting.specs.Line.{places, order, has}
use Rattle.waiting.specs.Calls.{joins_in, if_due, those_due, Named, none, more}
use Rattle.waiting.specs.Laws.{Among, end, skip, keep}

pub among_due : (due : ℕ → Bool) (ks : List ℕ) → Among (those_due due ks) ks
among_due due [] = end
among_due due (k ∷ ks) =
    by (λ (r : List ℕ). Among r (k ∷ ks)) (due k) (λ e. keep (among_due due ks)) (λ e. skip (among_due due ks))

pub has_due : (due : ℕ → Bool) (ks : List ℕ) (k : ℕ) → has k (those_due due ks) ≡ (due k && has k ks)
has_due due [] k = sym (and-false (due k))
has_due due (x ∷ xs) k =
    by (λ (r : List ℕ). has k r ≡ (due k && has k (x ∷ xs))) (due x)
    (λ d. test (eqb x k) (λ e. rw (e, ← eqb-true x k e, d)) (λ e. rw (e, has_due due xs k)))
    (λ d. test (eqb x k) (λ e. rw (has_due due xs k, ← eqb-true x k e, d)) (λ e. rw (e, has_due due xs k)))

pub named_due : {n : ℕ} {ks : List ℕ} (due : ℕ → Bool) → Named n ks → Named n (those_due due ks)
named_due due none = none
named_due {n} due (more {k = k} pos top m) =
    by (Named n) (due k) (λ e. more pos top (named_due due m)) (λ e. named_due due m)

pub named_order : Named places order
named_order = search (none, more, rules) depth 9

pub join_due : (due : ℕ → Bool) (l : List ℕ) (k : ℕ) (ks : List ℕ)
    → joins_in l (those_due due (k ∷ ks)) ≡ joins_in (joins_in l (if_due (due k) k)) (those_due due ks)
join_due due l k ks = test (due k) (λ e. rw e) (λ e. rw e)
