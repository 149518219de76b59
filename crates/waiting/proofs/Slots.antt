-- A kind's place never rises, and falls by one at each slot that does not
-- send it, so it leaves in its turn, in every machine. Assumes nothing.
use Prim.Native.Nat.{ℕ, zero, suc, ◌+◌, ◌<◌, ◌≤◌}
use mathlib.Core.Path.{◌≡◌, refl, sym, ap, ◌∙◌}
use mathlib.Core.Bool.{true, false, cond}
use mathlib.Core.List.{List, [], ◌∷◌, ◌++◌}
use mathlib.Core.Logic.{inl, inr, ⊎_map}
use native.Mathlib.Nat.{zero-add}
use native.Mathlib.Numerals.{one-add}
use native.Mathlib.Omega.{arith}
use lib.Dec.{eqb}
use lib.ListN.{length, drop, get_or}
use borrow.Author.Tests.{eqb-true, eqb-false}
use Rattle.cases.proofs.Cases.{by, neither, test, true_false}
use Rattle.waiting.specs.Line.{has, Kinds, join, withdraw, first}
use Rattle.waiting.specs.Calls.{withdraws, joins}
use Rattle.waiting.specs.Trace.{Machine, Sound, runs, slots, sent, Withdrawn, LeavesBy, Leaves, Demand3, Recorded}
use Rattle.waiting.proofs.After.{has_after}
use Rattle.waiting.proofs.Room.{room}

-- k waits at place p or before it
record Within (k p : ℕ) (ws : List ℕ) : Type 0 where
  at : ℕ
  soon : at ≤ p
  is : get_or ws at 0 ≡ k

module _ (k : ℕ) (pos : 0 < k) where
  at_join : (j : ℕ) (ws : List ℕ) (p : ℕ) → get_or ws p 0 ≡ k → get_or (join ws j) p 0 ≡ k
  at_join j [] p h = omega arith
  at_join j (x ∷ xs) zero h = by (λ (r : List ℕ). get_or r 0 0 ≡ k) (eqb x j) (λ e. h) (λ e. h)
  at_join j (x ∷ xs) (suc p) h = by (λ (r : List ℕ). get_or r (suc p) 0 ≡ k) (eqb x j) (λ e. h) (λ e. at_join j xs p h)

  at_joins : (js ws : List ℕ) (p : ℕ) → get_or ws p 0 ≡ k → get_or (joins ws js) p 0 ≡ k
  at_joins [] ws p h = h
  at_joins (j ∷ js) ws p h = at_joins js (join ws j) p (at_join j ws p h)

  at_withdraw : (j : ℕ) (ws : List ℕ) (p : ℕ) → (j ≡ k → ⊥) → get_or ws p 0 ≡ k → Within k p (withdraw ws j)
  at_withdraw j [] p ne h = absurd (omega arith)
  at_withdraw j (x ∷ xs) zero ne h =
      by (Within k 0) (eqb x j) (λ e. absurd (ne (sym (eqb-true x j e) ∙ h))) (λ e. record { at = 0; soon = omega arith; is = h })
  at_withdraw j (x ∷ xs) (suc p) ne h =
      let w : Within k p (withdraw xs j) = at_withdraw j xs p ne h in
      by (Within k (suc p)) (eqb x j)
      (λ e. record { at = w.at; soon = omega arith; is = w.is })
      (λ e. record { at = suc w.at; soon = omega arith; is = w.is })

  at_withdraws : (js ws : List ℕ) (p : ℕ) → has k js ≡ false → get_or ws p 0 ≡ k → Within k p (withdraws ws js)
  at_withdraws [] ws p none h = record { at = p; soon = omega arith; is = h }
  at_withdraws (j ∷ js) ws p none h =
      let u : (eqb j k ≡ false) × (has k js ≡ false) = neither _ _ none in
      let w : Within k p (withdraw ws j) = at_withdraw j ws p (eqb-false j k u.0) h in
      let v : Within k w.at (withdraws (withdraw ws j) js) = at_withdraws js (withdraw ws j) w.at u.1 w.is in
      record { at = v.at; soon = omega arith; is = v.is }

  at_drop : (ws : List ℕ) (p : ℕ) → get_or ws (suc p) 0 ≡ k → get_or (drop 1 ws) p 0 ≡ k
  at_drop [] p h = h
  at_drop (x ∷ xs) p h = h

-- a kind that waits has a place
record Place (k : ℕ) (ws : List ℕ) : Type 0 where
  at : ℕ
  inside : at < length ws
  is : get_or ws at 0 ≡ k

place : (k : ℕ) (ws : List ℕ) → has k ws ≡ true → Place k ws
place k [] h = true_false (sym h)
place k (x ∷ xs) h =
    test (eqb x k)
    (λ e. record { at = 0; inside = omega arith; is = eqb-true x k e })
    (λ e. let w : Place k xs = place k xs (simp e at h) in record { at = suc w.at; inside = omega arith; is = w.is })

-- a kind that waits is no 0
pub waits_pos : (n k : ℕ) (ws : List ℕ) → Kinds n ws → has k ws ≡ true → 0 < k
waits_pos n k [] h w = true_false (sym w)
waits_pos n k (x ∷ xs) h w =
    test (eqb x k) (λ e. rw (← eqb-true x k e) h.0) (λ e. waits_pos n k xs h.3 (simp e at w))

module _ {S I : Type 0} (M : Machine S I) where
  later : {b c k : ℕ} {i : I} {is : List I} {s : S} → cond (M.slot i) 1 0 + b ≤ c → LeavesBy M b k (M.step s i) is
      → LeavesBy M c k s (i ∷ is)
  later {i = i} le w =
      record {
        before = i ∷ w.before;
        call = w.call;
        rest = w.rest;
        split = ap {B = List I} (λ r. i ∷ r) w.split;
        early = omega (arith, w.early);
        how = w.how;
      }

  module _ {n : ℕ} (sound : Sound M n) (k : ℕ) (pos : 0 < k) where
    -- from each place, after this call
    abbrev Then : S → List I → Type 0
    Then s is = (r : ℕ) → get_or (M.line s) r 0 ≡ k → r < slots M is → LeavesBy M (suc r) k s is

    gone : (i : I) (s : S) → M.Good s → has k (M.out s i) ≡ true → Withdrawn M k s i
    gone i s g e = (
      e,
      rw (sound.acts s i g, has_after n (M.slot i) (M.out s i) (M.into s i) (M.line s) k (sound.kinds s g), sound.apart s i k g e, e),
    )

    -- k, at place q once the slot has sent: the call withdraws it, or it waits at q or before q after the call
    moves : (i : I) (is : List I) (s : S) (p q : ℕ) → M.Good s
        → Then (M.step s i) is
        → get_or (cond (M.slot i) (drop 1 (M.line s)) (M.line s)) q 0 ≡ k
        → cond (M.slot i) 1 0 + q ≤ p
        → q < slots M is
        → LeavesBy M (suc p) k s (i ∷ is)
    moves i is s p q g ih h le lt =
        test (has k (M.out s i))
        (λ e. record { before = []; call = i; rest = is; split = refl; early = omega arith; how = inr (gone i s g e) })
        (λ e.
        let w : Within k q (withdraws (cond (M.slot i) (drop 1 (M.line s)) (M.line s)) (M.out s i)) =
        at_withdraws k pos (M.out s i) _ q e h in
        let v : get_or (M.line (M.step s i)) w.at 0 ≡ k = rw (sound.acts s i g) (at_joins k pos (M.into s i) _ w.at w.is) in
        later (omega arith) (ih w.at v (omega arith)))

    turn : (i : I) (is : List I) (s : S) (p : ℕ) → M.Good s
        → Then (M.step s i) is
        → get_or (M.line s) p 0 ≡ k
        → p < slots M (i ∷ is)
        → LeavesBy M (suc p) k s (i ∷ is)
    turn i is s zero g ih h lt =
        test (M.slot i)
        (λ e. record { before = []; call = i; rest = is; split = refl; early = omega arith; how = inl (e, h) })
        (λ e. moves i is s 0 0 g ih (simp e h) (simp e (omega arith)) (omega (arith, simp e at lt)))
    turn i is s (suc p) g ih h lt =
        test (M.slot i)
        (λ e. moves i is s (suc p) p g ih (simp e (at_drop k pos (M.line s) p h)) (simp e (omega arith)) (omega (arith, simp e at lt)))
        (λ e. moves i is s (suc p) (suc p) g ih (simp e h) (simp e (omega arith)) (omega (arith, simp e at lt)))

  pub leaves : {n : ℕ} → Sound M n → Leaves M
  leaves sound k pos [] s p g h lt = absurd (omega arith)
  leaves sound k pos (i ∷ is) s p g h lt =
      turn sound k pos i is s p g (λ r v q. leaves sound k pos is (M.step s i) r (sound.keeps s i g) v q) h lt

  pub demand3 : {n : ℕ} → Sound M n → Demand3 M n
  demand3 {n} sound s k is g w enough =
      let c : Place k (M.line s) = place k (M.line s) w in
      let short : length (M.line s) ≤ n = room n (M.line s) (sound.kinds s g) in
      let v : LeavesBy M (suc c.at) k s is =
      leaves sound k (waits_pos n k (M.line s) (sound.kinds s g) w) is s c.at g c.is (omega arith) in
      record { before = v.before; call = v.call; rest = v.rest; split = v.split; early = omega arith; how = v.how }

  -- what is recorded of a slot: the first of the line at that slot
  pub sent_at : (before : List I) (call : I) (rest : List I) (s : S) → M.slot call ≡ true
      → get_or (sent M s (before ++ call ∷ rest)) (slots M before) 0 ≡ first (M.line (runs M s before))
  sent_at [] call rest s e = simp e
  sent_at (i ∷ before) call rest s e =
      test (M.slot i)
      (λ t. simp (t, one-add) (sent_at before call rest (M.step s i) e))
      (λ t. simp (t, zero-add) (sent_at before call rest (M.step s i) e))

  pub recorded : {b k : ℕ} {s : S} {is : List I} → LeavesBy M b k s is → Recorded M b k s is
  recorded {s = s} w =
      ⊎_map
      (λ u. (slots M w.before, w.early, rw w.split (sent_at w.before w.call w.rest s u.0 ∙ u.1)))
      (λ u. (w.before, w.call, w.rest, w.split, u))
      w.how
