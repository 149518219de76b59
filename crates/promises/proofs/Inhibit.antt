-- What is left of an inhibit time: sending the emergency starts it, ticks run it down, a reset ends it, and no other call changes it.
use Prim.Native.Nat.{ℕ, ◌+◌, ◌-◌, ◌*◌, ◌/◌, ◌<◌, ◌≤◌}
use native.Mathlib.Omega.{arith}
use lib.Dec.{ltb}
use mathlib.Core.Path.{◌≡◌, refl, sym, ap, ◌∙◌}
use mathlib.Core.Bool.{true, false, cond}
use mathlib.Core.List.{List, [], ◌∷◌}
use borrow.Author.Tests.{ne_eqb}
use Rattle.cases.proofs.Cases.{by, test, true_false}
use Rattle.can.specs.declared.Received.{Received}
use Rattle.parts.specs.declared.Core.{Core}
use Rattle.parts.specs.declared.Head.{Head}
use Rattle.parts.specs.declared.Sensor.TheVariants.{Missing, Raw}
use Rattle.position.specs.Profile.{highest_raw}
use Rattle.promises.specs.States.{is_initialising, node, communication}
use Rattle.promises.specs.WaitingLine.{Kind, emergency, sdo_reply, heartbeat, tpdo, may_stay}
use Rattle.promises.specs.Timers.{inhibit_ticks}
use Rattle.promises.specs.Acts.{Act, nothing, enter, reset, boot, idle, send, take, lose, time, sync, serve, acted, frame_by}
use Rattle.promises.specs.Calls.{Call, receive, tick, sample, slot, meant, step}
use Rattle.promises.specs.Valid.{Valid}
use Rattle.promises.specs.Meant.{not_booted}
use Rattle.promises.specs.Histories.{after, PowerUp, powered}
use Rattle.promises.specs.Gap.{node_of, among, is_emergency, is_command, resets, left_by, left}
use Rattle.promises.proofs.Valid.{valid_step}
use Rattle.promises.proofs.Answers.{AtSlot, booting, idling, sending, at_slot}
use Rattle.promises.proofs.Meant.{core_step, inhibit_after, resets as resets-to}
use Rattle.promises.proofs.Causes.{Cause, cause}
use Rattle.promises.proofs.Unmeant.{not_meant}
use Rattle.promises.proofs.Histories.{at_power_up, valid_powered}
use Rattle.promises.proofs.Known.{framed, frames_by, known, known_boot_up}
use Rattle.promises.proofs.SameNode.{node_step, node_powered}
use Rattle.promises.proofs.Spoken.{resets_so, resets_heard}

module _ (n : ℕ) (h : Head) (q : node h.core ≡ n) (v : Valid h) where
  abbrev c : Core
  c = h.core

  none_runs : is_initialising c ≡ true → c.timers.inhibit ≡ 0
  none_runs i = ap (λ t. t.inhibit) (v.fresh i).1

  -- a frame that is no reset leaves it
  kept : (f : Received) (a : Act) → is_command n resets (receive f) ≡ false → Cause h f a → (acted c a).timers.inhibit ≡ c.timers.inhibit
  kept f nothing e x = refl
  kept f (enter g) e x = refl
  kept f (reset r) e x = true_false (sym (resets_so n h f q r x) ∙ e)
  kept f boot e x = absurd x
  kept f idle e x = refl
  kept f (send k) e x = absurd x
  kept f (take r) e x = refl
  kept f lose e x = refl
  kept f time e x = absurd x
  kept f sync e x = refl
  kept f (serve s) e x = inhibit_after c s.effect

  -- and a reset ends it; in Initialising none runs
  ended : (f : Received) → is_command n resets (receive f) ≡ true → (step h (receive f)).core.timers.inhibit ≡ 0
  ended f e =
      test (is_initialising c)
      (λ i. ap (λ (m : Head). m.core.timers.inhibit) (not_meant h f v (not_booted i)) ∙ none_runs i)
      (λ i. let r = resets_heard n h f q i e in ap (λ t. t.inhibit) (resets-to h f r.0 r.1).timers)

  abbrev Left : Act → Type 0
  Left a =
      (acted c a).timers.inhibit
      ≡ cond (among (is_emergency n) (framed (frame_by c a))) (inhibit_ticks (communication c).inhibit) c.timers.inhibit

  left_sent : (k : Kind) → may_stay c k ≡ true → Left (send k)
  left_sent emergency m = rw (known n c q v.device emergency m).emergency
  left_sent sdo_reply m = rw (known n c q v.device sdo_reply m).emergency
  left_sent heartbeat m = rw (known n c q v.device heartbeat m).emergency
  left_sent (tpdo w) m = rw (known n c q v.device (tpdo w) m).emergency

  left_slot : (a : Act) → AtSlot h a → Left a
  left_slot nothing x' = elim x' [ ]
  left_slot (enter _) x3 = elim x3 [ ]
  left_slot (reset _) x4 = elim x4 [ ]
  left_slot (take _) x5 = elim x5 [ ]
  left_slot lose x5 = elim x5 [ ]
  left_slot time x6 = elim x6 [ ]
  left_slot sync x7 = elim x7 [ ]
  left_slot (serve _) x9 = elim x9 [ ]
  left_slot boot (booting i) = rw (known_boot_up n c q v.device).emergency (sym (none_runs i))
  left_slot idle (idling i e) = refl
  left_slot (send k) (sending j i e w) = left_sent k (v.only k w)

  left_step : (x : Call) → (step h x).core.timers.inhibit ≡ left_by n h x c.timers.inhibit
  left_step (receive f) =
      test (is_command n resets (receive f))
      (λ e. rw e (ended f e))
      (λ e. rw (e, core_step h (receive f)) (kept f (meant h (receive f)) e (cause h f v)))
  left_step tick =
      rw (core_step h tick) (by (λ a. (acted c a).timers.inhibit ≡ c.timers.inhibit - 1) (is_initialising c) (λ i. rw (none_runs i))
      (λ _. refl))
  left_step (sample Missing) = ap (λ d. d.timers.inhibit) (core_step h (sample Missing))
  left_step (sample (Raw r)) =
      rw (core_step h (sample (Raw r)))
      (by (λ a. (acted c a).timers.inhibit ≡ c.timers.inhibit) (ltb highest_raw r) (λ _. refl) (λ _. refl))
  left_step slot = rw (core_step h slot, frames_by h v slot) (left_slot (meant h slot) (at_slot h v))

left_after : (n : ℕ) (cs : List Call) (h : Head) (t : ℕ) → node h.core ≡ n → Valid h → h.core.timers.inhibit ≡ t
    → (after h cs).core.timers.inhibit ≡ left n h cs t
left_after n [] h t q v e = e
left_after n (x ∷ cs) h t q v e =
    left_after n cs (step h x) (left_by n h x t) (node_step h v x ∙ q) (valid_step h x v) (left_step n h q v x ∙ ap (left_by n h x) e)

pub inhibit_left : (p : PowerUp) (cs : List Call) → (after (powered p) cs).core.timers.inhibit ≡ left (node_of p) (powered p) cs 0
inhibit_left p cs =
    left_after (node_of p) cs (powered p) 0 (node_powered p) (valid_powered p)
    (at_power_up (λ h. h.core.timers.inhibit ≡ 0) (λ _ _. refl) p)

pub rounded_up : (v : ℕ) → 0 < v → (t : ℕ) × (inhibit_ticks v ≡ t + 1) × (v ≤ t * 10) × (t * 10 < v + 10)
rounded_up v some = ((v + 9) / 10, rw (ne_eqb v 0 (λ e. omega arith)), omega arith, omega arith)
