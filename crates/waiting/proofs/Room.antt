-- A line of kinds 1 to n has at most n of them, so a kind that does not wait finds room in n places. Assumes nothing.
use Prim.Native.Nat.{ℕ, zero, suc, ◌<◌, ◌≤◌}
use mathlib.Core.Path.{◌≡◌, refl, sym, ap}
use mathlib.Core.Bool.{false, not, and-false}
use mathlib.Core.List.{List, [], ◌∷◌}
use native.Mathlib.Omega.{arith}
use lib.Dec.{eqb}
use lib.ListN.{length}
use borrow.Author.Tests.{ne_eqb, eqb-true, eqb-false}
use Rattle.cases.proofs.Cases.{by, neither}
use Rattle.waiting.specs.Line.{has, Kinds, join, withdraw}
use Rattle.waiting.proofs.After.{has_join, has_withdraw}

has_not : (x k : ℕ) (ws : List ℕ) → has x ws ≡ false → has x (withdraw ws k) ≡ false
has_not x k ws h = rw (has_withdraw x k ws, h) (and-false (not (eqb k x)))

pub withdraw_none : (k : ℕ) (ws : List ℕ) → has k ws ≡ false → withdraw ws k ≡ ws
withdraw_none k [] h = refl
withdraw_none k (x ∷ xs) h =
    let u : (eqb x k ≡ false) × (has k xs ≡ false) = neither _ _ h in
    rw u.0 (ap {B = List ℕ} (λ r. x ∷ r) (withdraw_none k xs u.1))

-- A withdrawal and a join leave a line of kinds 1 to n.
pub kinds_withdraw : (n k : ℕ) (ws : List ℕ) → Kinds n ws → Kinds n (withdraw ws k)
kinds_withdraw n k [] h = tt
kinds_withdraw n k (x ∷ xs) h =
    by (Kinds n) (eqb x k)
    (λ e. kinds_withdraw n k xs h.3)
    (λ e. (h.0, h.1, has_not x k xs h.2, kinds_withdraw n k xs h.3))

pub kinds_join : (n k : ℕ) (ws : List ℕ) → 0 < k → k ≤ n → Kinds n ws → Kinds n (join ws k)
kinds_join n k [] pos top h = (pos, top, refl, tt)
kinds_join n k (x ∷ xs) pos top h =
    by (Kinds n) (eqb x k)
    (λ e. h)
    (λ e. (h.0, h.1, rw (has_join x k xs, ne_eqb k x (λ q. eqb-false x k e (sym q))) h.2, kinds_join n k xs pos top h.3))

-- The pigeonhole: without the greatest kind it is a line of kinds 1 to n - 1, and at most one shorter.
without_top : (n : ℕ) (ws : List ℕ) → Kinds (suc n) ws → Kinds n (withdraw ws (suc n))
without_top n [] h = tt
without_top n (x ∷ xs) h =
    by (Kinds n) (eqb x (suc n))
    (λ e. without_top n xs h.3)
    (λ e.
    let ne : x ≡ suc n → ⊥ = eqb-false x (suc n) e in
    let top : x ≤ suc n = h.1 in
    (h.0, omega arith, has_not x (suc n) xs h.2, without_top n xs h.3))

one_shorter : (n k : ℕ) (ws : List ℕ) → Kinds n ws → length ws ≤ suc (length (withdraw ws k))
one_shorter n k [] h = omega arith
one_shorter n k (x ∷ xs) h =
    by (λ (r : List ℕ). suc (length xs) ≤ suc (length r)) (eqb x k)
    (λ e. rw (withdraw_none k xs (rw (← eqb-true x k e) h.2)) (omega arith))
    (λ e. omega (arith, one_shorter n k xs h.3))

pub room : (n : ℕ) (ws : List ℕ) → Kinds n ws → length ws ≤ n
room zero [] h = omega arith
room zero (x ∷ xs) h = omega (arith, h.0, h.1)
room (suc n) ws h = omega (arith, one_shorter (suc n) (suc n) ws h, room n (withdraw ws (suc n)) (without_top n ws h))

-- a kind that does not wait finds room
pub finds_room : (n k : ℕ) (ws : List ℕ) → Kinds n ws → 0 < k → k ≤ n → has k ws ≡ false → length ws < n
finds_room n k ws h pos top new = room n (k ∷ ws) (pos, top, new, h)
