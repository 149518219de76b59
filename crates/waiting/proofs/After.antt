-- Whether a kind waits after a call, in closed form. Assumes nothing.
use Prim.Native.Nat.{ℕ}
use mathlib.Core.Path.{◌≡◌, refl, sym, ◌∙◌}
use mathlib.Core.Bool.{Bool, true, false, not, ◌&&◌, ◌||◌, and-false, or_assoc, or_self_left}
use mathlib.Core.List.{List, [], ◌∷◌, ◌++◌}
use lib.Dec.{eqb}
use lib.ListN.{drop}
use borrow.Author.Tests.{eqb-true, eqb-false, ne_eqb}
use Rattle.cases.proofs.Cases.{by, test}
use Rattle.waiting.specs.Line.{has, Kinds, join, withdraw, first}
use Rattle.waiting.specs.Calls.{withdraws, joins, after}

either_first : (t u v : Bool) → (t || (u || v)) ≡ (u || (t || v))
either_first true true v = refl
either_first true false v = refl
either_first false u v = refl

neither_first : (t u v : Bool) → (not u && (not t && v)) ≡ (not (t || u) && v)
neither_first true true v = refl
neither_first true false v = refl
neither_first false u v = refl

pub has_append : (k : ℕ) (a b : List ℕ) → has k (a ++ b) ≡ (has k a || has k b)
has_append k [] b = refl
has_append k (x ∷ xs) b = rw (has_append k xs b) (sym (or_assoc (eqb x k) (has k xs) (has k b)))

pub has_join : (k j : ℕ) (ws : List ℕ) → has k (join ws j) ≡ (eqb j k || has k ws)
has_join k j [] = refl
has_join k j (x ∷ xs) =
    by (λ (r : List ℕ). has k r ≡ (eqb j k || has k (x ∷ xs))) (eqb x j)
    (λ e. rw (← eqb-true x j e) (sym (or_self_left (eqb x k) (has k xs))))
    (λ e. rw (has_join k j xs) (either_first (eqb x k) (eqb j k) (has k xs)))

pub has_joins : (k : ℕ) (ws js : List ℕ) → has k (joins ws js) ≡ (has k js || has k ws)
has_joins k ws [] = refl
has_joins k ws (j ∷ js) =
    rw (has_joins k (join ws j) js, has_join k j ws, or_assoc) (either_first (has k js) (eqb j k) (has k ws))

pub has_withdraw : (k j : ℕ) (ws : List ℕ) → has k (withdraw ws j) ≡ (not (eqb j k) && has k ws)
has_withdraw k j [] = sym (and-false (not (eqb j k)))
has_withdraw k j (x ∷ xs) =
    by (λ (r : List ℕ). has k r ≡ (not (eqb j k) && has k (x ∷ xs))) (eqb x j)
    (λ e. rw (has_withdraw k j xs, ← eqb-true x j e) (test (eqb x k) (λ t. rw t) (λ t. rw t)))
    (λ e.
    rw (has_withdraw k j xs)
    (test (eqb x k) (λ t. rw (t, ne_eqb j k (λ q. eqb-false x j e (eqb-true x k t ∙ sym q)))) (λ t. rw t)))

pub has_withdraws : (k : ℕ) (ws js : List ℕ) → has k (withdraws ws js) ≡ (not (has k js) && has k ws)
has_withdraws k ws [] = refl
has_withdraws k ws (j ∷ js) =
    rw (has_withdraws k (withdraw ws j) js, has_withdraw k j ws) (neither_first (eqb j k) (has k js) (has k ws))

pub has_drop : (n k : ℕ) (ws : List ℕ) → Kinds n ws → has k (drop 1 ws) ≡ (not (eqb (first ws) k) && has k ws)
has_drop n k [] h = sym (and-false (not (eqb 0 k)))
has_drop n k (x ∷ xs) h = test (eqb x k) (λ e. rw (e, ← eqb-true x k e) h.2) (λ e. rw e)

pub has_after : (n : ℕ) (slot : Bool) (out into ws : List ℕ) (k : ℕ) → Kinds n ws
    → has k (after slot out into ws) ≡ (has k into || (not (has k out) && (not (slot && eqb (first ws) k) && has k ws)))
has_after n true out into ws k h =
    rw (has_joins k (withdraws (drop 1 ws) out) into, has_withdraws k (drop 1 ws) out, has_drop n k ws h)
has_after n false out into ws k h = rw (has_joins k (withdraws ws out) into, has_withdraws k ws out)
