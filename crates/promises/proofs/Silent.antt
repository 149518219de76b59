-- While the reading is missing no position frame stands behind the emergency; so none waits once the emergency has told it.
use Prim.Native.Nat.{ℕ}
use native.Mathlib.Omega.{arith}
use lib.Dec.{eqb}
use lib.ListN.{get_or}
use mathlib.Core.Path.{◌≡◌, refl, sym, ap, ◌∙◌}
use mathlib.Core.Bool.{Bool, true, false, not, ◌&&◌, beq, cond, or-true}
use mathlib.Core.List.{List, [], ◌∷◌, ◌++◌}
use borrow.Author.Tests.{eqb-true, eq-eqb, ne_eqb}
use Rattle.cases.proofs.Cases.{by, both, either, test, true_false}
use Rattle.can.specs.declared.Frame.{Frame}
use Rattle.entries.specs.declared.Device.{Device}
use Rattle.entries.specs.declared.Reading.{Reading}
use Rattle.waiting.specs.Line as line
use Rattle.waiting.specs.Line.{places, has, first, Kinds}
use Rattle.waiting.specs.Places.{waiting}
use Rattle.waiting.specs.Laws.{Among, end, skip, keep}
use Rattle.waiting.proofs.After.{has_append}
use Rattle.parts.specs.declared.Core.{Core}
use Rattle.parts.specs.declared.Head.{Head}
use Rattle.parts.specs.declared.Sensor.{Sensor}
use Rattle.parts.specs.declared.Sensor.TheVariants.{Missing, Raw}
use Rattle.promises.specs.States.{good, node, PdoNumber, one, two}
use Rattle.promises.specs.WaitingLine.{emergency, tpdo, number, may_join}
use Rattle.promises.specs.Acts.{moments_of, acted}
use Rattle.promises.specs.Calls.{Call, sample, slot, meant, step, slot_answer, is_frame, frame_in}
use Rattle.promises.specs.Valid.{waits, Valid}
use Rattle.promises.specs.Histories.{after, frames, sent, PowerUp, powered}
use Rattle.promises.specs.Gap.{node_of, among, is_position, says_missing, is_good_sample}
use Rattle.promises.specs.Readings.{last_sample, reading_of}
use Rattle.promises.specs.Service.{reply_due}
use Rattle.promises.specs.Emergency.{Alerts, emergency_frame}
use Rattle.promises.proofs.KindNumbers.{has_those}
use Rattle.promises.proofs.Valid.{valid_step}
use Rattle.promises.proofs.Meant.{core_step}
use Rattle.promises.proofs.Conditions.{shows, alerts}
use Rattle.promises.proofs.Altered.{Altered, heard, timed, sent as sent-on, refused, took, lost, restarted, served, altered, carried}
use Rattle.promises.proofs.Histories.{at_power_up, valid_after, valid_powered}
use Rattle.promises.proofs.SameNode.{node_after, node_powered}
use Rattle.promises.proofs.Lined.{turns}
use Rattle.promises.proofs.Turns.{sound}
use Rattle.promises.proofs.Readings.{tells, stays_missing}
use Rattle.promises.proofs.Emergency.{is_first, says}
use Rattle.promises.proofs.Unshown.{none_joins, hidden, none_among}

-- those that stand behind a kind
abbrev behind : ℕ → List ℕ → List ℕ
behind k [] = []
behind k (x ∷ xs) = cond (eqb x k) xs (behind k xs)

behind_append : (k : ℕ) (xs ys : List ℕ) → behind k (xs ++ ys) ≡ cond (has k xs) (behind k xs ++ ys) (behind k ys)
behind_append k [] ys = refl
behind_append k (x ∷ xs) ys = test (eqb x k) (λ e. rw e) (λ e. rw e (behind_append k xs ys))

behind_has : (k t : ℕ) (xs : List ℕ) → has t (behind k xs) ≡ true → has t xs ≡ true
behind_has k t [] e = e
behind_has k t (x ∷ xs) e =
    test (eqb x k)
    (λ z. rw (rw z at e) (or-true (eqb x t)))
    (λ z. rw (behind_has k t xs (rw z at e)) (or-true (eqb x t)))

among_has : {xs ys : List ℕ} → Among xs ys → (k : ℕ) → has k xs ≡ true → has k ys ≡ true
among_has end k e = e
among_has (skip {x} {xs} {ys} a) k e = rw (among_has a k e) (or-true (eqb x k))
among_has (keep {x} {xs} {ys} a) k e =
    either (eqb x k) (has k xs) e (λ y. rw y) (λ y. rw (among_has a k y) (or-true (eqb x k)))

-- what stands behind k among some of them stood behind k
behind_among : {xs ys : List ℕ} → Among xs ys → Kinds places ys → (k t : ℕ) → has k xs ≡ true → has t (behind k xs) ≡ true
    → has t (behind k ys) ≡ true
behind_among end d k t e y = y
behind_among (skip {x} {xs} {ys} a) d k t e y =
    test (eqb x k)
    (λ z. true_false (sym (among_has a k e) ∙ ap (λ m. has m ys) (sym (eqb-true x k z)) ∙ d.2))
    (λ z. rw z (behind_among a d.3 k t e y))
behind_among (keep {x} {xs} {ys} a) d k t e y =
    test (eqb x k)
    (λ z. rw z (among_has a t (rw z at y)))
    (λ z. rw z (behind_among a d.3 k t (rw z at e) (rw z at y)))

-- While the reading is missing no position frame stands behind the emergency.
abbrev Ahead : Head → Type 0
Ahead h = good h.core ≡ false → (w : PdoNumber) → has (number (tpdo w)) (behind line.emergency (waiting h.line)) ≡ false

never : {A : Type 0} {b : Bool} → b ≡ true → b ≡ false → A
never y e = true_false (sym y ∙ e)

-- only a missing sample ends a good reading
ended_by : (h : Head) (x : Call) (d : Device) → Altered h x d → good h.core ≡ true → d.reading.good ≡ false → x ≡ sample Missing
ended_by h _ _ (heard f) g e = never g e
ended_by h _ _ timed g e = never g e
ended_by h _ _ sent-on g e = never g e
ended_by h _ _ (refused r b) g e = never g e
ended_by h _ _ (took r b) g e = true_false e
ended_by h _ _ lost g e = refl
ended_by h _ _ (restarted f r x) g e = never g e
ended_by h _ _ (served f x) g e = never g (ap (λ (r : Reading). r.good) (sym (carried h.core.device (reply_due h f).effect).1) ∙ e)

module _ (h : Head) (v : Valid h) (x : Call) (gone : good (step h x).core ≡ false) where
  later : Valid (step h x)
  later = valid_step h x v

  -- an emergency that waits before and after says the same
  was_gone : waits h emergency ≡ true → waits (step h x) emergency ≡ true → good h.core ≡ false
  was_gone y z =
      test (good h.core)
      (λ g.
      let lost_now = ended_by h x (step h x).core.device (altered h v x) g gone in
      let before = (alerts h.core (v.only emergency y)).differs in
      let after = (alerts (step h x).core (later.only emergency z)).differs in
      let same : (step h x).core.announced ≡ h.core.announced =
      ap (λ (c : Core). c.announced) (core_step h x ∙ ap (λ u. acted h.core (meant h u)) lost_now) in
      clash h.core.announced (rw g at before) (rw (gone, same) at after))
      (λ g. g)
    where
      clash : {A : Type 0} (a : Bool) → not (beq true a) ≡ true → not (beq false a) ≡ true → A
      clash true b c = true_false (sym b)
      clash false b c = true_false (sym c)

  -- none joins
  none_came : (w : PdoNumber) → has (number (tpdo w)) (turns h v x).came ≡ false
  none_came w =
      test (has (number (tpdo w)) (turns h v x).came)
      (λ y.
      let c = h.core in
      let now = acted c (meant h x) in
      let moment = moments_of c (meant h x) (tpdo w) in
      let due = sym (has_those (λ k. moments_of c (meant h x) k && may_join now k) (tpdo w)) ∙ among_has (turns h v x).joined (number (tpdo w)) y in
      never (ap good (core_step h x) ∙ (shows now w (both moment (may_join now (tpdo w)) due).1).is_good_law) gone)
      (λ y. y)

  ahead_step : Ahead h → (w : PdoNumber) → has (number (tpdo w)) (behind line.emergency (waiting (step h x).line)) ≡ false
  ahead_step a w =
      let t = number (tpdo w) in
      let stayed = (turns h v x).stayed in
      let came = (turns h v x).came in
      let now : waiting (step h x).line ≡ stayed ++ came = sound.acts h x v ∙ (turns h v x).line in
      rw (now, behind_append line.emergency stayed came)
      (by (λ (l : List ℕ). has t l ≡ false) (has line.emergency stayed)
      (λ y.
      let still : waits (step h x) emergency ≡ true = rw (now, has_append line.emergency stayed came, y) in
      let g = was_gone (among_has (turns h v x).waited line.emergency y) still in
      rw (has_append t (behind line.emergency stayed) came, none_came w)
      (test (has t (behind line.emergency stayed))
      (λ z. never (behind_among (turns h v x).waited v.line.kinds line.emergency t y z) (a g w))
      (λ z. rw z)))
      (λ y.
      test (has t (behind line.emergency came))
      (λ z. never (behind_has line.emergency t came z) (none_came w))
      (λ z. z)))

ahead_after : (cs : List Call) (h : Head) → Valid h → Ahead h → Ahead (after h cs)
ahead_after [] h v a = a
ahead_after (x ∷ cs) h v a = ahead_after cs (step h x) (valid_step h x v) (λ g. ahead_step h v x g a)

-- the first in a line stands before all others
before_all : (k t : ℕ) (ws : List ℕ) → first ws ≡ k → (t ≡ k → ⊥) → has t (behind k ws) ≡ false → has t ws ≡ false
before_all k t [] e n y = refl
before_all k t (x ∷ xs) e n y =
    rw (ne_eqb x t (λ q. n (sym q ∙ e))) (rw (eq-eqb x k e) at y)

pub silent_once_told : (p : PowerUp) (before cs : List Call) → let h = after (powered p) before in
    frames h slot ≡ says_missing (node_of p) ∷ [] → among is_good_sample cs ≡ false → among is_position (sent (step h slot) cs) ≡ false
silent_once_told p before cs e n =
    none_among is_position (sent (step h slot) cs) (rw (none one, none two) at (hidden cs (step h slot) (valid_step h slot v) still n))
  where
    h : Head
    h = after (powered p) before

    v : Valid h
    v = valid_after (powered p) before (valid_powered p)

    its_node : node h.core ≡ node_of p
    its_node = node_after (powered p) (valid_powered p) before ∙ node_powered p

    s : Sensor
    s = last_sample Missing before

    waited : is_frame (slot_answer h) ≡ true
    waited = test (is_frame (slot_answer h)) (λ w. w) (λ w. let z : ◌≡◌ {A = ℕ} 0 1 = cc (rw w at e) in absurd (omega arith))

    says_missing_law : frame_in (slot_answer h) ≡ says_missing (node_of p)
    says_missing_law = cc (rw waited at e)

    told : Alerts (node_of p) h
    told = record { waited = waited; identifier = ap (λ (x : Frame). x.identifier) says_missing_law }

    missing : good h.core ≡ false
    missing =
        ap (λ (r : Reading). r.good) (tells p before).reading_is
        ∙ by_sample s (says (node_of p) h its_node v s (tells p before).reading_is told)
      where
        by_sample : (s : Sensor) → frame_in (slot_answer h) ≡ emergency_frame (node_of p) s → (reading_of s).good ≡ false
        by_sample Missing f = refl
        by_sample (Raw r) f = absurd (omega (arith, ap (λ (x : Frame). get_or x.bytes 1 0) (sym f ∙ says_missing_law)))

    still : good (step h slot).core ≡ false
    still = stays_missing h v slot refl missing

    other : (w : PdoNumber) → number (tpdo w) ≡ line.emergency → ⊥
    other one q = omega (arith, q)
    other two q = omega (arith, q)

    none : (w : PdoNumber) → waits (step h slot) (tpdo w) ≡ false
    none w =
        none_joins h v slot still w
        (before_all line.emergency (number (tpdo w)) (waiting h.line) (is_first (node_of p) h its_node v s (tells p before).reading_is told)
        (other w) (ahead_after before (powered p) (valid_powered p) (at_power_up Ahead (λ _ _ _ _. refl) p) missing w))
