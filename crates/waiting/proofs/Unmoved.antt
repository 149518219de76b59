-- When the places stay as they are, and when each kind moves up one place. Assumes nothing.
use Prim.Native.Nat.{ℕ, zero, suc, ◌<◌, ◌≤◌}
use mathlib.Core.Path.{◌≡◌, refl, sym, ap, ◌∙◌}
use mathlib.Core.Bool.{Bool, true, false, not, ◌||◌, cond, or-true}
use mathlib.Core.List.{List, [], ◌∷◌}
use native.Mathlib.Omega.{arith}
use lib.Dec.{eqb}
use lib.ListN.{length, drop, get_or}
use Rattle.cases.specs.Padded.{pad}
use borrow.Author.Tests.{eq-eqb, ne_eqb, eqb-true, eqb-false, not-true}
use Rattle.cases.proofs.Cases.{both, either, test, true_false}
use Rattle.waiting.specs.Line.{places, has, Kinds, withdraw}
use Rattle.waiting.specs.Places.{join_in, withdraw_in, taken_in, Holds}
use Rattle.waiting.specs.Calls.{withdraws, withdraws_in, joins_in, if_due}
use Rattle.waiting.proofs.After.{has_withdraws}
use Rattle.waiting.proofs.Lines.{lines}
use Rattle.waiting.proofs.Room.{room, withdraw_none}
use Rattle.waiting.proofs.Holds.{holds_has, holds_join, holds_withdraw, holds_withdraws, holds_taken}

module _ {n : ℕ} {l ws : List ℕ} (h : Holds n l ws) (k : ℕ) where
  -- one that waits keeps its place
  pub keeps_place : 0 < k → k ≤ n → has k ws ≡ true → join_in l k ≡ l
  keeps_place pos top e = (holds_join h k pos top).shape ∙ ap (pad n) (lines.keeps_its_place k ws e) ∙ sym h.shape

  -- one that does not wait cannot be withdrawn
  pub takes_none : has k ws ≡ false → withdraw_in l k ≡ l
  takes_none e = (holds_withdraw h k).shape ∙ ap (pad n) (withdraw_none k ws e) ∙ sym h.shape

-- of an empty line none can be withdrawn
pub none_taken : {n : ℕ} {l : List ℕ} → Holds n l [] → (ks : List ℕ) → withdraws_in l ks ≡ l
none_taken h [] = refl
none_taken h (k ∷ ks) = rw (takes_none h k refl) (none_taken h ks)

-- what a withdrawal of several does to the first
withdraws_first : (x : ℕ) (xs ks : List ℕ) → withdraws (x ∷ xs) ks ≡ cond (has x ks) (withdraws xs ks) (x ∷ withdraws xs ks)
withdraws_first x xs [] = refl
withdraws_first x xs (k ∷ ks) =
    test (eqb x k)
    (λ e. rw (e, ← eqb-true x k e, eq-eqb x x refl))
    (λ e. rw (e, ne_eqb k x (λ q. eqb-false x k e (sym q))) (withdraws_first x (withdraw xs k) ks))

-- two withdrawals do the same if they agree on the kinds that wait
withdraws_same : (ws ks js : List ℕ) → ((k : ℕ) → has k ws ≡ true → has k ks ≡ has k js) → withdraws ws ks ≡ withdraws ws js
withdraws_same [] ks js f = none ks ∙ sym (none js)
  where
    none : (out : List ℕ) → withdraws [] out ≡ []
    none [] = refl
    none (k ∷ out) = none out
withdraws_same (x ∷ xs) ks js f =
    rw (
      withdraws_first x xs ks,
      withdraws_first x xs js,
      f x (rw (eq-eqb x x refl)),
      withdraws_same xs ks js (λ k e. f k (rw (e, or-true (eqb x k)))),
    )

pub same_taken : {n : ℕ} {l ws : List ℕ} → Holds n l ws → (ks js : List ℕ) → ((k : ℕ) → has k ws ≡ true → has k ks ≡ has k js)
    → withdraws_in l ks ≡ withdraws_in l js
same_taken {n} {l} {ws} h ks js f =
    (holds_withdraws ks h).shape ∙ ap (pad n) (withdraws_same ws ks js f) ∙ sym (holds_withdraws js h).shape

-- one that waits is a kind
pub waiting_kind : (n k : ℕ) (ws : List ℕ) → Kinds n ws → has k ws ≡ true → (0 < k) × (k ≤ n)
waiting_kind n k [] h e = true_false (sym e)
waiting_kind n k (x ∷ xs) h e =
    either (eqb x k) (has k xs) e
    (λ t. rw (← eqb-true x k t) (h.0, h.1))
    (λ t. waiting_kind n k xs h.3 t)

only_one : (n k : ℕ) (ws : List ℕ) → Kinds n ws → ((j : ℕ) → has j ws ≡ true → j ≡ k) → ws ≡ if_due (has k ws) k
only_one n k [] h f = refl
only_one n k (x ∷ []) h f = let e : x ≡ k = f x (rw (eq-eqb x x refl)) in rw (e, eq-eqb k k refl)
only_one n k (x ∷ y ∷ ws) h f =
    let e : x ≡ k = f x (rw (eq-eqb x x refl)) in
    let g : y ≡ k = f y (rw (eq-eqb y y refl, or-true (eqb x y))) in
    let m : (eqb y x || has x ws) ≡ true = rw (e, g, eq-eqb k k refl) in
    true_false (sym m ∙ h.2)

-- if all kinds but one go, that one stands alone, if it waited
pub stays_alone : {n : ℕ} {l ws : List ℕ} → Holds n l ws → (k : ℕ) (ks : List ℕ) → 0 < k → has k ks ≡ false
    → ((j : ℕ) → 0 < j → j ≤ n → has j ks ≡ false → j ≡ k) → withdraws_in l ks ≡ joins_in (pad n []) (if_due (has k l) k)
stays_alone {n} {l} {ws} h k ks pos stays others =
    let held = holds_withdraws ks h in
    let left = withdraws ws ks in
    let waits : has k left ≡ has k l = rw (has_withdraws k ws ks, stays, holds_has h k pos) in
    let alone : left ≡ if_due (has k left) k =
    only_one n k left held.kinds (λ j e.
    let m = both (not (has j ks)) (has j ws) (sym (has_withdraws j ws ks) ∙ e) in
    let b = waiting_kind n j ws h.kinds m.1 in
    others j b.0 b.1 (not-true (has j ks) m.0)) in
    held.shape ∙ ap (pad n) alone ∙ rw waits (joined (has k l))
  where
    joined : (t : Bool) → pad n (if_due t k) ≡ joins_in (pad n []) (if_due t k)
    joined true = joined_first n
      where
        joined_first : (m : ℕ) → pad m (k ∷ []) ≡ join_in (pad m []) k
        joined_first zero = refl
        joined_first (suc m) = refl
    joined false = refl

abbrev pub shifted : List ℕ → List ℕ
shifted l = get_or l 1 0 ∷ get_or l 2 0 ∷ get_or l 3 0 ∷ get_or l 4 0 ∷ 0 ∷ []

shift_pad : (ws : List ℕ) → length ws ≤ places → shifted (pad places ws) ≡ pad places (drop 1 ws)
shift_pad [] h = refl
shift_pad (a ∷ []) h = refl
shift_pad (a ∷ b ∷ []) h = refl
shift_pad (a ∷ b ∷ d ∷ []) h = refl
shift_pad (a ∷ b ∷ d ∷ e ∷ []) h = refl
shift_pad (a ∷ b ∷ d ∷ e ∷ f ∷ []) h = refl
shift_pad (a ∷ b ∷ d ∷ e ∷ f ∷ g ∷ ws) h = absurd (omega arith)

-- once the first is sent, each moves up one place
pub shifts : {l ws : List ℕ} → Holds places l ws → shifted l ≡ taken_in l
shifts {l} {ws} h = ap shifted h.shape ∙ shift_pad ws (room places ws h.kinds) ∙ sym (holds_taken h).shape
