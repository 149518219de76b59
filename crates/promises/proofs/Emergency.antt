-- Proves `Emergency` of specs/Emergency.antt.
use Prim.Native.Nat.{ℕ, ◌+◌}
use lib.Dec.{ltb}
use mathlib.Core.Path.{◌≡◌, refl, sym, ap, ◌∙◌}
use mathlib.Core.Bool.{true, false, cond}
use mathlib.Core.List.{List}
use borrow.Author.Tests.{eq-eqb}
use Rattle.cases.proofs.Cases.{by, test, true_false}
use Rattle.can.specs.declared.Frame.{Frame}
use Rattle.can.specs.declared.Received.{Received}
use Rattle.position.specs.Profile.{highest_raw}
use Rattle.entries.specs.declared.Reading.{Reading}
use Rattle.parts.specs.declared.Core.{Core}
use Rattle.parts.specs.declared.Head.{Head}
use Rattle.parts.specs.declared.Sensor.{Sensor}
use Rattle.parts.specs.declared.Sensor.TheVariants.{Missing, Raw}
use Rattle.promises.specs.States.{is_initialising, node, communication, good}
use Rattle.promises.specs.WaitingLine.{Kind, emergency, sdo_reply, heartbeat, tpdo, may_stay, emergency_bytes, frame}
use Rattle.promises.specs.Timers.{inhibit_ticks}
use Rattle.promises.specs.Acts.{Act, nothing, enter, reset, boot, idle, send, take, lose, time, sync, serve, announcing, acted, frame_by}
use Rattle.promises.specs.Calls.{Call, receive, tick, sample, slot, meant, step, slot_answer, is_frame, frame_in}
use Rattle.promises.specs.Valid.{Valid}
use Rattle.promises.specs.Meant.{not_booted}
use Rattle.promises.specs.Histories.{after, PowerUp, powered}
use Rattle.promises.specs.Readings.{last_sample, reading_of}
use Rattle.promises.specs.Gap.{node_of, among, is_emergency, alerts, is_command, resets}
use Rattle.promises.specs.Codes.{IsFirst}
use Rattle.promises.specs.Emergency.{emergency_frame, is_good, Alerts, Inhibits, announced_by, Emergency}
use Rattle.promises.proofs.Slots.{answers, awake, sends_first}
use Rattle.promises.proofs.Answers.{AtSlot, booting, idling, sending, at_slot}
use Rattle.promises.proofs.Meant.{core_step, resets as resets-to}
use Rattle.promises.proofs.Causes.{Cause, cause}
use Rattle.promises.proofs.Unmeant.{not_meant}
use Rattle.promises.proofs.Histories.{at_power_up, valid_after, valid_powered}
use Rattle.promises.proofs.Known.{framed, frames_by, known, known_boot_up}
use Rattle.promises.proofs.SameNode.{node_after, node_powered}
use Rattle.promises.proofs.Spoken.{resets_so, resets_heard}
use Rattle.promises.proofs.Readings.{tells}
use Rattle.promises.proofs.Inhibit.{rounded_up}
use Rattle.promises.proofs.Parameters.{parameters_read}

-- by the sample whose reading it is
frame_by_law : (n : ℕ) (s : Sensor) → frame (0x80 + n) 8 (emergency_bytes (reading_of s).good) ≡ emergency_frame n s
frame_by_law n Missing = refl
frame_by_law n (Raw r) = refl

good_by : (s : Sensor) → (reading_of s).good ≡ is_good s
good_by Missing = refl
good_by (Raw r) = refl

only_emergency : (k : Kind) → alerts k ≡ true → k ≡ emergency
only_emergency emergency e = refl
only_emergency sdo_reply e = true_false (sym e)
only_emergency heartbeat e = true_false (sym e)
only_emergency (tpdo w) e = true_false (sym e)

runs_for : (v : ℕ) → Inhibits v (inhibit_ticks v)
runs_for v = record { none = λ e. rw e; some = rounded_up v }

module _ (n : ℕ) (h : Head) (q : node h.core ≡ n) (v : Valid h) (s : Sensor) (e : h.core.device.reading ≡ reading_of s) where
  abbrev c : Core
  c = h.core

  reads_good : good c ≡ is_good s
  reads_good = ap (λ (r : Reading). r.good) e ∙ good_by s

  first_sent : IsFirst emergency h → meant h slot ≡ send emergency
  first_sent f = sends_first h v (awake h v emergency f) emergency f

  alerts_so : IsFirst emergency h → Alerts n h
  alerts_so f =
      let a = answers h (first_sent f) in
      record { waited = a.0; identifier = ap (λ (x : Frame). x.identifier) a.1 ∙ ap (λ m. 0x80 + m) q }

  -- an emergency frame is the emergency's
  by_act : (a : Act) → AtSlot h a → is_frame (frame_by c a) ≡ true → (frame_in (frame_by c a)).identifier ≡ 0x80 + n → IsFirst emergency h
  by_act nothing x4 w x = elim x4 [ ]
  by_act (enter _) x6 w x = elim x6 [ ]
  by_act (reset _) x7 w x = elim x7 [ ]
  by_act (take _) x8 w x = elim x8 [ ]
  by_act lose x8 w x = elim x8 [ ]
  by_act time x9 w x = elim x9 [ ]
  by_act sync x10 w x = elim x10 [ ]
  by_act (serve _) x12 w x = elim x12 [ ]
  by_act boot (booting i) w x = true_false (sym (eq-eqb _ _ x) ∙ (known_boot_up n c q v.device).emergency)
  by_act idle (idling i z) w x = true_false (sym w)
  by_act (send k) (sending _ i f z) w x =
      let alerting = sym (known n c q v.device k (v.only k z)).emergency ∙ eq-eqb _ _ x in
      rw (only_emergency k alerting) at f

  pub is_first : Alerts n h → IsFirst emergency h
  is_first a = by_act (meant h slot) (at_slot h v) a.waited a.identifier

  then : Alerts n h → (step h slot).core ≡ announcing c
  then a = core_step h slot ∙ ap (acted c) (first_sent (is_first a))

  pub says : Alerts n h → frame_in (slot_answer h) ≡ emergency_frame n s
  says a =
      (answers h (first_sent (is_first a))).1
      ∙ ap (λ m. frame (0x80 + m) 8 (emergency_bytes (good c))) q
      ∙ ap (λ (r : Reading). frame (0x80 + n) 8 (emergency_bytes r.good)) e
      ∙ frame_by_law n s

  -- a frame that is no reset leaves what was announced
  kept : (f : Received) (a : Act) → is_command n resets (receive f) ≡ false → Cause h f a → (acted c a).announced ≡ c.announced
  kept f nothing o x = refl
  kept f (enter g) o x = refl
  kept f (reset r) o x = true_false (sym (resets_so n h f q r x) ∙ o)
  kept f boot o x = absurd x
  kept f idle o x = absurd x
  kept f (send k) o x = absurd x
  kept f (take r) o x = absurd x
  kept f lose o x = absurd x
  kept f time o x = absurd x
  kept f sync o x = refl
  kept f (serve t) o x = refl

  -- and a reset forgets it; in Initialising "good" counts as announced
  forgotten : (f : Received) → is_command n resets (receive f) ≡ true → (step h (receive f)).core.announced ≡ true
  forgotten f o =
      test (is_initialising c)
      (λ i. ap (λ (m : Head). m.core.announced) (not_meant h f v (not_booted i)) ∙ (v.fresh i).0)
      (λ i. let r = resets_heard n h f q i o in (resets-to h f r.0 r.1).announced)

  abbrev Told : Act → Type 0
  Told a = (acted c a).announced ≡ cond (among (is_emergency n) (framed (frame_by c a))) (is_good s) c.announced

  told_sent : (k : Kind) → may_stay c k ≡ true → Told (send k)
  told_sent emergency m = rw (known n c q v.device emergency m).emergency reads_good
  told_sent sdo_reply m = rw (known n c q v.device sdo_reply m).emergency
  told_sent heartbeat m = rw (known n c q v.device heartbeat m).emergency
  told_sent (tpdo w) m = rw (known n c q v.device (tpdo w) m).emergency

  told_slot : (a : Act) → AtSlot h a → Told a
  told_slot nothing x' = elim x' [ ]
  told_slot (enter _) x3 = elim x3 [ ]
  told_slot (reset _) x4 = elim x4 [ ]
  told_slot (take _) x5 = elim x5 [ ]
  told_slot lose x5 = elim x5 [ ]
  told_slot time x6 = elim x6 [ ]
  told_slot sync x7 = elim x7 [ ]
  told_slot (serve _) x9 = elim x9 [ ]
  told_slot boot (booting i) = rw (known_boot_up n c q v.device).emergency
  told_slot idle (idling i z) = refl
  told_slot (send k) (sending _ i f z) = told_sent k (v.only k z)

  announced_step : (x : Call) → (step h x).core.announced ≡ announced_by n h s x c.announced
  announced_step (receive f) =
      test (is_command n resets (receive f))
      (λ o. rw o (forgotten f o))
      (λ o. rw (o, core_step h (receive f)) (kept f (meant h (receive f)) o (cause h f v)))
  announced_step tick =
      rw (core_step h tick) (by (λ a. (acted c a).announced ≡ c.announced) (is_initialising c) (λ _. refl) (λ _. refl))
  announced_step (sample Missing) = ap (λ d. d.announced) (core_step h (sample Missing))
  announced_step (sample (Raw r)) =
      rw (core_step h (sample (Raw r))) (by (λ a. (acted c a).announced ≡ c.announced) (ltb highest_raw r) (λ _. refl) (λ _. refl))
  announced_step slot = rw (core_step h slot, frames_by h v slot) (told_slot (meant h slot) (at_slot h v))

pub emergency_so : (p : PowerUp) (cs : List Call) → Emergency p cs
emergency_so p cs =
    let h : Head = after (powered p) cs in
    let n : ℕ = node_of p in
    let q : node h.core ≡ n = node_after (powered p) (valid_powered p) cs ∙ node_powered p in
    let v : Valid h = valid_after (powered p) cs (valid_powered p) in
    let s : Sensor = last_sample Missing cs in
    let e : h.core.device.reading ≡ reading_of s = (tells p cs).reading_is in
    record {
      leaves = (alerts_so n h q v s e, is_first n h q v s e);
      says = says n h q v s e;
      announces = λ a. ap (λ d. d.announced) (then n h q v s e a) ∙ reads_good n h q v s e;
      inhibits = λ a.
          let u = (communication h.core).inhibit in
          (u, (parameters_read h).inhibit, rw (then n h q v s e a) (runs_for u));
      good_at_first = at_power_up (λ m. m.core.announced ≡ true) (λ _ _. refl) p;
      announced = announced_step n h q v s e;
    }
