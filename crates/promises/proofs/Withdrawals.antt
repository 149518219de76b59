-- Only 01's withdrawals end a kind's condition, and the slot that sends the emergency.
use lib.Dec.{eqb, ltb}
use mathlib.Core.Path.{◌≡◌, refl, sym, ap, ap₂, ◌∙◌}
use mathlib.Core.Logic.{◌⊎◌, inl, inr}
use mathlib.Core.Bool.{Bool, true, false, not, or-true}
use borrow.Author.Tests.{eqb-true, not-true, ltb-false}
use Rattle.cases.proofs.Cases.{by, both, test, true_false}
use Rattle.can.specs.declared.Received.{Received}
use Rattle.position.specs.Profile.{highest_raw}
use Rattle.entries.specs.Keys.{heartbeat_key, emergency_key}
use Rattle.dictionary.specs.Accepted.{on}
use Rattle.sdo.specs.Service.{Due, none, value, confirmation, abort, upload, answer}
use Rattle.waiting.specs.Line.{first}
use Rattle.waiting.specs.Places.{waiting}
use Rattle.parts.specs.declared.Core.{Core}
use Rattle.parts.specs.declared.Head.{Head}
use Rattle.parts.specs.declared.Sensor.{Sensor}
use Rattle.parts.specs.declared.Sensor.TheVariants.{Missing, Raw}
use Rattle.promises.specs.States.{operational, stopped, pre_operational, is_initialising, communication, PdoNumber, pdo}
use Rattle.promises.specs.Timers.{synchronous}
use Rattle.promises.specs.WaitingLine.{Kind, emergency, sdo_reply, heartbeat, tpdo, number, may_stay}
use Rattle.promises.specs.Acts.{Act, nothing, enter, reset, boot, idle, send, take, lose, time, sync, serve, acted}
use Rattle.promises.specs.Calls.{Call, receive, tick, sample, slot, meant, step}
use Rattle.promises.specs.Meant.{Requests, due_to}
use Rattle.promises.specs.Valid.{Valid}
use Rattle.promises.specs.Withdrawals.{identifier_key, Withdrawal, resets, stops, leaves, loses}
use Rattle.promises.specs.Withdrawals.{switches_off_law, beats_no_more, silenced, found, lost}
use Rattle.promises.proofs.Slots.{no_stay}
use Rattle.promises.proofs.Meant.{core_step}
use Rattle.promises.proofs.Causes.{Cause, cause}
use Rattle.promises.proofs.Answers.{AtSlot, booting, idling, sending, at_slot}
use Rattle.promises.proofs.Conditions.{alerts, beats, keeps, ends}
use Rattle.promises.proofs.Types.{events, valid_pdo}
use Rattle.promises.proofs.Counts.{unbarred}
use Rattle.promises.proofs.Effects.{told}

-- the one kind that entering Stopped does not take
abbrev beating : Kind → Bool
beating emergency = false
beating sdo_reply = false
beating heartbeat = true
beating (tpdo w) = false

pub other : (k : Kind) → beating k ≡ false → k ≡ heartbeat → ⊥
other k n e = true_false (sym (ap beating e) ∙ n)

-- a condition that held and did not end
goes_on : {t : Bool} {A : Type 0} → t ≡ true → t ≡ false → A
goes_on y n = true_false (sym y ∙ n)

module _ (h : Head) (f : Received) where
  abbrev c : Core
  c = h.core

  abbrev Ends : Kind → Act → Type 0
  Ends k a = may_stay c k ≡ true → may_stay (acted c a) k ≡ false → Withdrawal h (receive f) k

  -- by a request, and what is due to it
  beat_served : (x : Due) → Requests h f → due_to h f ≡ x → Ends heartbeat (serve (answer f.bytes x))
  beat_served none r e y n = goes_on y n
  beat_served (value w m) r e y n = goes_on y n
  beat_served (abort m) r e y n = goes_on y n
  beat_served (upload b t) r e y n = goes_on y n
  beat_served (confirmation k v) r e y n =
      let t = both (eqb k heartbeat_key) (eqb v 0) (sym (ends c f.bytes k v (unbarred (told h f e)) heartbeat y) ∙ ap not n) in
      beats_no_more (record { requests = r; accepted = e ∙ ap₂ confirmation (eqb-true k heartbeat_key t.0) (eqb-true v 0 t.1) })

  alert_served : (x : Due) → Requests h f → due_to h f ≡ x → Ends emergency (serve (answer f.bytes x))
  alert_served none r e y n = goes_on y n
  alert_served (value w m) r e y n = goes_on y n
  alert_served (abort m) r e y n = goes_on y n
  alert_served (upload b t) r e y n = goes_on y n
  alert_served (confirmation k v) r e y n =
      let t = both (eqb k emergency_key) (not (on v)) (sym (ends c f.bytes k v (unbarred (told h f e)) emergency y) ∙ ap not n) in
      silenced (record { requests = r; accepted = e ∙ ap (λ j. confirmation j v) (eqb-true k emergency_key t.0) }) (not-true _ t.1)

  tpdo_served : (w : PdoNumber) (x : Due) → Requests h f → due_to h f ≡ x → Ends (tpdo w) (serve (answer f.bytes x))
  tpdo_served w none r e y n = goes_on y n
  tpdo_served w (value u m) r e y n = goes_on y n
  tpdo_served w (abort m) r e y n = goes_on y n
  tpdo_served w (upload b t) r e y n = goes_on y n
  tpdo_served w (confirmation k v) r e y n =
      let t = both (eqb k (identifier_key w)) (not (on v)) (sym (ends c f.bytes k v (unbarred (told h f e)) (tpdo w) y) ∙ ap not n) in
      switches_off_law (record { requests = r; accepted = e ∙ ap (λ j. confirmation j v) (eqb-true k (identifier_key w) t.0) })
      (not-true _ t.1)

  -- by a frame
  by_frame : (a : Act) (k : Kind) → Cause h f a → Ends k a
  by_frame nothing k x y n = goes_on y n
  by_frame (enter stopped) emergency x y n = stops x.0 (other emergency refl)
  by_frame (enter operational) emergency x y n = let s = alerts c y in goes_on (rw (s.is_on_law, s.rested) s.differs) n
  by_frame (enter pre_operational) emergency x y n = let s = alerts c y in goes_on (rw (s.is_on_law, s.rested) s.differs) n
  by_frame (enter stopped) sdo_reply x y n = stops x.0 (other sdo_reply refl)
  by_frame (enter operational) sdo_reply x y n = true_false n
  by_frame (enter pre_operational) sdo_reply x y n = true_false n
  by_frame (enter stopped) heartbeat x y n = goes_on (beats c y).1 n
  by_frame (enter operational) heartbeat x y n = goes_on (beats c y).1 n
  by_frame (enter pre_operational) heartbeat x y n = goes_on (beats c y).1 n
  by_frame (enter g) (tpdo w) x y n = leaves x.0 (keeps c w y).operates x.1
  by_frame (reset r) k x y n = resets x
  by_frame boot k x y n = absurd x
  by_frame idle k x y n = absurd x
  by_frame (send j) k x y n = absurd x
  by_frame (take r) k x y n = absurd x
  by_frame lose k x y n = absurd x
  by_frame time k x y n = absurd x
  by_frame sync emergency x y n = goes_on y n
  by_frame sync sdo_reply x y n = goes_on y n
  by_frame sync heartbeat x y n = goes_on y n
  by_frame sync (tpdo w) x y n = goes_on y n
  by_frame (serve s) emergency x y n = alert_served (due_to h f) x.0 refl y (rw (← x.1) n)
  by_frame (serve s) sdo_reply x y n = goes_on y n
  by_frame (serve s) heartbeat x y n = beat_served (due_to h f) x.0 refl y (rw (← x.1) n)
  by_frame (serve s) (tpdo w) x y n = tpdo_served w (due_to h f) x.0 refl y (rw (← x.1) n)

module _ (h : Head) (v : Valid h) where
  abbrev Same : Kind → Act → Type 0
  Same k a = may_stay (acted h.core a) k ≡ may_stay h.core k

  -- a tick ends none
  by_tick : (k : Kind) → may_stay h.core k ≡ true → Same k (meant h tick)
  by_tick emergency y =
      by (Same emergency) (is_initialising h.core) (λ _. refl)
      (λ _. rw (eqb-true h.core.timers.inhibit 0 (alerts h.core y).rested))
  by_tick sdo_reply y = by (Same sdo_reply) (is_initialising h.core) (λ _. refl) (λ _. refl)
  by_tick heartbeat y = by (Same heartbeat) (is_initialising h.core) (λ _. refl) (λ _. refl)
  by_tick (tpdo w) y = by (Same (tpdo w)) (is_initialising h.core) (λ _. refl) (λ _. refl)

  by_sample : (s : Sensor) (k : Kind) → may_stay h.core k ≡ true → may_stay (acted h.core (meant h (sample s))) k ≡ false
      → Withdrawal h (sample s) k
  by_sample Missing emergency y n =
      let s = alerts h.core y in
      test h.core.announced (λ a. true_false (rw (s.lives, s.is_on_law, s.rested, a) at n)) (λ a. lost a)
  by_sample Missing sdo_reply y n = goes_on y n
  by_sample Missing heartbeat y n = goes_on y n
  by_sample Missing (tpdo w) y n =
      let p = pdo (communication h.core) w in
      let s = keeps h.core w y in
      test (synchronous p)
      (λ t. true_false (rw (s.operates, s.is_on_law, t) at n))
      (λ t. loses (events p (valid_pdo h.core v.device w) t))
  by_sample (Raw r) emergency y n =
      let s = alerts h.core y in
      test (ltb highest_raw r) (λ t. goes_on y (rw t at n))
      (λ t. test h.core.announced (λ a. found (ltb-false highest_raw r t) a)
      (λ a. true_false (rw (t, s.lives, s.is_on_law, s.rested, a) at n)))
  by_sample (Raw r) sdo_reply y n = goes_on y (sym (by (Same sdo_reply) (ltb highest_raw r) (λ _. refl) (λ _. refl)) ∙ n)
  by_sample (Raw r) heartbeat y n = goes_on y (sym (by (Same heartbeat) (ltb highest_raw r) (λ _. refl) (λ _. refl)) ∙ n)
  by_sample (Raw r) (tpdo w) y n =
      let s = keeps h.core w y in
      goes_on y (sym (by (Same (tpdo w)) (ltb highest_raw r) (λ _. refl)
      (λ _. rw (s.operates, s.is_on_law, s.lasts) (or-true (synchronous (pdo (communication h.core) w))))) ∙ n)

  -- a slot ends only the emergency's, by sending it
  by_slot : (a : Act) → AtSlot h a → (k : Kind) → may_stay h.core k ≡ true → may_stay (acted h.core a) k ≡ false
      → first (waiting h.line) ≡ number k
  by_slot nothing x3 k y n = elim x3 [ ]
  by_slot (enter _) x5 k y n = elim x5 [ ]
  by_slot (reset _) x6 k y n = elim x6 [ ]
  by_slot (take _) x7 k y n = elim x7 [ ]
  by_slot lose x7 k y n = elim x7 [ ]
  by_slot time x8 k y n = elim x8 [ ]
  by_slot sync x9 k y n = elim x9 [ ]
  by_slot (serve _) x11 k y n = elim x11 [ ]
  by_slot boot (booting i) k y n = goes_on y (no_stay h.core k i)
  by_slot idle (idling i e) k y n = goes_on y n
  by_slot (send emergency) (sending j i e w) emergency y n = e
  by_slot (send emergency) (sending j i e w) sdo_reply y n = goes_on y n
  by_slot (send emergency) (sending j i e w) heartbeat y n = goes_on y n
  by_slot (send emergency) (sending j i e w) (tpdo x) y n = goes_on y n
  by_slot (send sdo_reply) (sending j i e w) k y n = goes_on y n
  by_slot (send heartbeat) (sending j i e w) k y n = goes_on y n
  by_slot (send (tpdo x)) (sending j i e w) k y n = goes_on y n

  abbrev Ended : Call → Kind → Type 0
  Ended x k = may_stay (step h x).core k ≡ false

  core_ended : (x : Call) (k : Kind) → Ended x k → may_stay (acted h.core (meant h x)) k ≡ false
  core_ended x k n = sym (ap (λ c. may_stay c k) (core_step h x)) ∙ n

  -- A condition that ends, ends by the slot that sends the kind or by a withdrawal of 01's list.
  pub listed : (x : Call) (k : Kind) → may_stay h.core k ≡ true → Ended x k
      → ((x ≡ slot) × (first (waiting h.line) ≡ number k)) ⊎ Withdrawal h x k
  listed (receive f) k y n = inr (by_frame h f (meant h (receive f)) k (cause h f v) y (core_ended (receive f) k n))
  listed tick k y n = goes_on y (sym (by_tick k y) ∙ core_ended tick k n)
  listed (sample s) k y n = inr (by_sample s k y (core_ended (sample s) k n))
  listed slot k y n = inl (refl, by_slot (meant h slot) (at_slot h v) k y (core_ended slot k n))
