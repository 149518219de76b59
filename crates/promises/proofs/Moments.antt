-- Proves `Moments` of specs/Moments.antt: a kind joins at 01's moments, and at no others.
use Prim.Native.Nat.{ℕ}
use native.Mathlib.Omega.{arith}
use lib.Dec.{ltb}
use mathlib.Core.Path.{◌≡◌, refl, sym, ap, ◌∙◌}
use mathlib.Core.Bool.{Bool, true, false, not}
use mathlib.Core.List.{List, [], ◌∷◌}
use borrow.Author.Tests.{eqb-true, ne_eqb, not-true}
use Rattle.cases.proofs.Cases.{by, test, both, true_false}
use Rattle.can.specs.declared.Received.{Received}
use Rattle.position.specs.Profile.{highest_raw}
use Rattle.sdo.specs.Request.{aborting}
use Rattle.sdo.specs.Service.{answer}
use Rattle.sdo.proofs.UploadLaws.{uploads}
use Rattle.waiting.specs.Line.{first}
use Rattle.parts.specs.declared.Core.{Core}
use Rattle.parts.specs.declared.Head.{Head}
use Rattle.parts.specs.declared.Sensor.TheVariants.{Missing, Raw}
use Rattle.promises.specs.States.{operational, stopped, pre_operational, is_in, is_initialising}
use Rattle.promises.specs.States.{communication, PdoNumber, clock}
use Rattle.promises.specs.WaitingLine.{Kind, emergency, sdo_reply, heartbeat, tpdo, may_join}
use Rattle.promises.specs.Timers.{completes, synchronous}
use Rattle.promises.specs.Acts.{Act, nothing, enter, reset, boot, idle, send, take, lose, time}
use Rattle.promises.specs.Acts.{sync, serve, acted, emergency_only, moments_of}
use Rattle.promises.specs.Calls.{Call, receive, tick, sample, slot, is_slot, meant, step}
use Rattle.promises.specs.Valid.{waits, Valid}
use Rattle.promises.specs.Meant.{due_to}
use Rattle.promises.specs.Histories.{after, PowerUp, powered}
use Rattle.promises.specs.Gap.{alerts}
use Rattle.promises.specs.Moments.{count_by, since, Counts, counts_after, Ready, pdo_of}
use Rattle.promises.specs.Moments.{beats_anew, beat_counts, ticks_anew, tick_counts, syncs_anew, synchronises}
use Rattle.promises.specs.Moments.{Begins, alerting, replies, beats, enters, elapses, syncs, Moments}
use Rattle.promises.proofs.KindNumbers.{sent_as_law}
use Rattle.promises.proofs.Waits.{waits_act, waits_new}
use Rattle.promises.proofs.States.{not_operational}
use Rattle.promises.proofs.Valid.{valid_step}
use Rattle.promises.proofs.Unmeant.{aborted}
use Rattle.promises.proofs.Causes.{Cause, cause, requests}
use Rattle.promises.proofs.Conditions.{Alerts, alerts as alerts_so, shows}
use Rattle.promises.proofs.Types.{on_events, events, on_syncs, syncs_on, valid_pdo}
use Rattle.promises.proofs.Histories.{at_power_up, valid_after, valid_powered}
use Rattle.promises.proofs.Remainders.{its_turn, in_turn}
use Rattle.promises.proofs.Tested.{is_written, is_entry_law, is_sync_law, entered, synchronised}
use Rattle.promises.proofs.Beats.{Beats, beats_step}
use Rattle.promises.proofs.Clocked.{Ticks, Syncs, ticks_step, syncs_step}

-- when no kind but the emergency is due
no_moment_law : (k : Kind) → alerts k ≡ false → emergency_only k ≡ false
no_moment_law emergency o = true_false o
no_moment_law sdo_reply o = refl
no_moment_law heartbeat o = refl
no_moment_law (tpdo w) o = refl

-- what the calls have counted is what the timers have, as far as a kind can join
pub record Kept (c : Core) (n : Counts) : Type 0 where
  pub beats : Beats c n.beats
  pub ticks : (w : PdoNumber) → Ticks w c (n.ticks w)
  pub syncs : (w : PdoNumber) → Syncs w c (n.syncs w)

module _ (h : Head) (n : Counts) (v : Valid h) (kept : Kept h.core n) where
  abbrev c : Core
  c = h.core

  joined : (x : Call) {a : Act} (k : Kind) → meant h x ≡ a → moments_of c a k ≡ true → may_join (acted c a) k ≡ true
      → waits (step h x) k ≡ true
  joined x {a} k e m y = rw (e, waits_act (is_slot x) h a v k, m, y)

  started : is_in operational c ≡ true → is_initialising c ≡ false
  started o = test (is_initialising c) (λ i. true_false (sym o ∙ not_operational c i)) (λ i. i)

  ready_may : (w : PdoNumber) → is_in operational c ≡ true → Ready h w → may_join c (tpdo w) ≡ true
  ready_may w o r = rw (o, r.is_on_law, r.is_good_law)

  joins : (x : Call) (k : Kind) → Begins h n x k → waits (step h x) k ≡ true
  joins x emergency (alerting a) = (valid_step h x v).urgent (rw (a.live, a.is_on_law, a.uninhibited, a.differs))
  joins tick sdo_reply x3 = elim x3 [ ]
  joins (sample _) sdo_reply x5 = elim x5 [ ]
  joins slot sdo_reply x5 = elim x5 [ ]
  joins (receive f) heartbeat x4 = elim x4 [ ]
  joins (sample _) heartbeat x6 = elim x6 [ ]
  joins slot heartbeat x6 = elim x6 [ ]
  joins (sample _) (tpdo w) x6 = elim x6 [ ]
  joins slot (tpdo w) x6 = elim x6 [ ]
  joins (receive f) sdo_reply (replies r a) =
      let m : meant h (receive f) ≡ serve (answer f.bytes (due_to h f)) =
      requests h f v r ∙ rw ((uploads c.device (is_in operational c) h.transfer f.bytes).replied, a) in
      joined (receive f) sdo_reply m refl r.live
  joins tick heartbeat (beats i e) =
      let m : meant h tick ≡ time = rw i in
      joined tick heartbeat m (in_turn _ _ _ (kept.beats i) e)
      (rw (i, ne_eqb (communication c).heartbeat 0 (λ z. omega (arith, z, e.some))))
  joins (receive f) (tpdo w) (enters m o r t) =
      joined (receive f) (tpdo w) (entered h f (m, o)) (rw (on_events (pdo_of h w) t)) (rw (r.is_on_law, r.is_good_law))
  joins tick (tpdo w) (elapses o r t e) =
      let m : meant h tick ≡ time = rw (started o) in
      joined tick (tpdo w) m (rw (on_events (pdo_of h w) t) (in_turn _ _ _ (kept.ticks w o) e)) (ready_may w o r)
  joins (receive f) (tpdo w) (syncs s r t e) =
      let y = on_syncs (pdo_of h w) t in
      let o = s.operational in
      joined (receive f) (tpdo w) (synchronised h f s)
      (rw y (in_turn _ _ _ (kept.syncs w o r.is_on_law y) e))
      (ready_may w o r)

  -- and the other way
  has_joined : (x : Call) (k : Kind) → waits h k ≡ false → waits (step h x) k ≡ true
      → (moments_of c (meant h x) k ≡ true) × (may_join (acted c (meant h x)) k ≡ true)
  has_joined x k = waits_new (is_slot x) h (meant h x) v k

  abbrev Joins : Call → Kind → Act → Type 0
  Joins x k a = moments_of c a k ≡ true → may_join (acted c a) k ≡ true → Begins h n x k

  never : {A : Type 0} {b : Bool} → b ≡ true → b ≡ false → A
  never y e = true_false (sym y ∙ e)

  by_frame : (f : Received) (a : Act) → Cause h f a → meant h (receive f) ≡ a → (k : Kind) → alerts k ≡ false → Joins (receive f) k a
  by_frame f nothing x e k o m y = true_false (sym m)
  by_frame f (enter g) x e emergency o m y = true_false o
  by_frame f (enter g) x e sdo_reply o m y = true_false (sym m)
  by_frame f (enter g) x e heartbeat o m y = true_false (sym m)
  by_frame f (enter operational) x e (tpdo w) o m y =
      let s = shows (acted c (enter operational)) w y in
      let t = not-true (synchronous (pdo_of h w)) m in
      enters x.0 x.1 (record { is_on_law = s.is_on_law; is_good_law = s.is_good_law }) (events (pdo_of h w) (valid_pdo c v.device w) t)
  by_frame f (enter stopped) x e (tpdo w) o m y = true_false (sym m)
  by_frame f (enter pre_operational) x e (tpdo w) o m y = true_false (sym m)
  by_frame f (reset r) x e k o m y = never m (no_moment_law k o)
  by_frame f boot x e k o m y = absurd x
  by_frame f idle x e k o m y = absurd x
  by_frame f (send j) x e k o m y = absurd x
  by_frame f (take r) x e k o m y = absurd x
  by_frame f lose x e k o m y = absurd x
  by_frame f time x e k o m y = absurd x
  by_frame f sync x e emergency o m y = true_false o
  by_frame f sync x e sdo_reply o m y = true_false (sym m)
  by_frame f sync x e heartbeat o m y = true_false (sym m)
  by_frame f sync x e (tpdo w) o m y =
      let p = pdo_of h w in
      let k = clock c.timers w in
      let s = shows c w y in
      let d = both (synchronous p) (completes p.transmission k.syncs) m in
      syncs x (record { is_on_law = s.is_on_law; is_good_law = s.is_good_law }) (syncs_on p d.0)
      (its_turn _ _ _ (kept.syncs w s.operates s.is_on_law d.0) d.1)
  by_frame f (serve s) x e emergency o m y = true_false o
  by_frame f (serve s) x e sdo_reply o m y =
      replies x.0 (test (aborting f.bytes)
      (λ t. never (ap replying e) (ap replying (aborted h f x.0.identifier t))) (λ t. t))
    where
      replying : Act → Bool
      replying a = moments_of c a sdo_reply
  by_frame f (serve s) x e heartbeat o m y = true_false (sym m)
  by_frame f (serve s) x e (tpdo w) o m y = true_false (sym m)

  by_tick : is_initialising c ≡ false → (k : Kind) → alerts k ≡ false → Joins tick k time
  by_tick i emergency o m y = true_false o
  by_tick i sdo_reply o m y = true_false (sym m)
  by_tick i heartbeat o m y = beats i (its_turn _ _ _ (kept.beats i) m)
  by_tick i (tpdo w) o m y =
      let p = pdo_of h w in
      let k = clock c.timers w in
      let s = shows c w y in
      let d = both (not (synchronous p)) (completes p.event k.ticks) m in
      elapses s.operates (record { is_on_law = s.is_on_law; is_good_law = s.is_good_law }) (events p (valid_pdo c v.device w) (not-true _ d.0))
      (its_turn _ _ _ (kept.ticks w s.operates) d.1)

  -- any but the emergency
  by_call : (x : Call) (k : Kind) → alerts k ≡ false → Joins x k (meant h x)
  by_call (receive f) k o = by_frame f (meant h (receive f)) (cause h f v) refl k o
  by_call tick k o = by (Joins tick k) (is_initialising c) (λ _ m _. true_false (sym m)) (λ i. by_tick i k o)
  by_call (sample Missing) k o = λ m _. never m (no_moment_law k o)
  by_call (sample (Raw r)) k o =
      by (Joins (sample (Raw r)) k) (ltb highest_raw r) (λ _ m _. true_false (sym m)) (λ _ m _. never m (no_moment_law k o))
  by_call slot k o =
      by (Joins slot k) (is_initialising c) (λ _ m _. never m (no_moment_law k o))
      (λ _. sent_as_law (Joins slot k) (first h.line) (λ m _. never m (no_moment_law k o)) (λ _ m _. never m (no_moment_law k o)))

  only_then : (x : Call) (k : Kind) → waits h k ≡ false → waits (step h x) k ≡ true → Begins h n x k
  only_then x emergency w y = begins_alert (alerts_so (step h x).core ((valid_step h x v).only emergency y))
    where
      begins_alert : Alerts (step h x).core → Begins h n x emergency
      begins_alert s =
          alerting (record {
            live = s.lives;
            is_on_law = s.is_on_law;
            uninhibited = eqb-true (step h x).core.timers.inhibit 0 s.rested;
            differs = not-true _ s.differs;
          })
  only_then x sdo_reply w y = let m = has_joined x sdo_reply w y in by_call x sdo_reply refl m.0 m.1
  only_then x heartbeat w y = let m = has_joined x heartbeat w y in by_call x heartbeat refl m.0 m.1
  only_then x (tpdo u) w y = let m = has_joined x (tpdo u) w y in by_call x (tpdo u) refl m.0 m.1

-- over lists of calls
kept_since : (anew counts : Head → Call → Bool) (P : Core → ℕ → Type 0)
    → ((h : Head) (n : ℕ) → Valid h → (x : Call) → P h.core n → P (step h x).core (count_by anew counts h x n))
    → (cs : List Call) (h : Head) (n : ℕ) → Valid h → P h.core n → P (after h cs).core (since anew counts h cs n)
kept_since anew counts P next [] h n v r = r
kept_since anew counts P next (x ∷ cs) h n v r =
    kept_since anew counts P next cs (step h x) (count_by anew counts h x n) (valid_step h x v) (next h n v x r)

starts : (p : PowerUp) → is_initialising (powered p).core ≡ true
starts p = at_power_up (λ (h : Head). is_initialising h.core ≡ true) (λ n i. refl) p

pub counts_kept : (p : PowerUp) (cs : List Call) → Kept (after (powered p) cs).core (counts_after p cs)
counts_kept p cs =
    let v = valid_powered p in
    let idle-yet = not_operational (powered p).core (starts p) in
    record {
      beats =
          kept_since beats_anew beat_counts Beats (λ h n w x. beats_step h n w x) cs (powered p) 0 v (λ i. true_false (sym (starts p) ∙ i));
      ticks =
          λ w. kept_since (ticks_anew w) tick_counts (Ticks w) (λ h n u x. ticks_step w h n u x) cs (powered p) 0 v
          (λ o. true_false (sym o ∙ idle-yet));
      syncs =
          λ w. kept_since (syncs_anew w) synchronises (Syncs w) (λ h n u x. syncs_step w h n u x) cs (powered p) 0 v
          (λ o. true_false (sym o ∙ idle-yet));
    }

pub moments_so : (p : PowerUp) (cs : List Call) → Moments p cs
moments_so p cs =
    let h = after (powered p) cs in
    let v = valid_after (powered p) cs (valid_powered p) in
    record {
      joins = joins h (counts_after p cs) v (counts_kept p cs);
      only_then = only_then h (counts_after p cs) v (counts_kept p cs);
      written = is_written h;
      entered = is_entry_law h;
      synchronised = is_sync_law h;
      its_settings = λ w. refl;
    }
