-- Proves `NetworkStates` of specs/NetworkStates.antt.
use mathlib.Core.Path.{◌≡◌, refl, ap, ◌∙◌}
use mathlib.Core.Logic.{◌⊎◌, inl, inr}
use lib.Dec.{ltb}
use Rattle.cases.proofs.Cases.{by}
use Rattle.can.specs.declared.Received.{Received}
use Rattle.parts.specs.declared.Nmt.{Nmt}
use Rattle.parts.specs.declared.Head.{Head}
use Rattle.parts.specs.declared.Sensor.TheVariants.{Missing, Raw}
use Rattle.position.specs.Profile.{highest_raw}
use Rattle.promises.specs.States.{initialising, is_initialising}
use Rattle.promises.specs.WaitingLine.{Kind, emergency, sdo_reply, heartbeat, tpdo}
use Rattle.promises.specs.Acts.{Act, nothing, enter, reset, boot, idle, send, take, lose, time, sync, serve, acted}
use Rattle.promises.specs.Calls.{Call, receive, tick, sample, slot, meant, step}
use Rattle.promises.specs.Valid.{Valid}
use Rattle.promises.specs.NetworkStates.{Enters, by_command, by_reset, by_boot_up, NetworkStates}
use Rattle.promises.proofs.Nothing.{step_nothing}
use Rattle.promises.proofs.Slots.{boots}
use Rattle.promises.proofs.Answers.{AtSlot, booting, idling, sending, at_slot}
use Rattle.promises.proofs.Meant.{core_step, commands, enters}
use Rattle.promises.proofs.Causes.{Cause, cause}
use Rattle.promises.proofs.Histories.{at_power_up, valid_reachable}

module _ (h : Head) (v : Valid h) where
  abbrev After : Act → Nmt
  After a = (acted h.core a).nmt

  -- what holds for the act holds for the call
  of_act : (c : Call) → (After (meant h c) ≡ h.core.nmt) → Enters h c (step h c).core.nmt ⊎ ((step h c).core.nmt ≡ h.core.nmt)
  of_act c e = inr (ap (λ x. x.nmt) (core_step h c) ∙ e)

  by_frame : (f : Received) (a : Act) → Cause h f a → Enters h (receive f) (After a) ⊎ (After a ≡ h.core.nmt)
  by_frame f nothing x = inr refl
  by_frame f (enter g) x = inl (by_command g x.0)
  by_frame f (reset r) x = inl (by_reset x)
  by_frame f boot x = absurd x
  by_frame f idle x = absurd x
  by_frame f (send k) x = absurd x
  by_frame f (take r) x = absurd x
  by_frame f lose x = absurd x
  by_frame f time x = absurd x
  by_frame f sync x = inr refl
  by_frame f (serve s) x = inr refl

  sent : (k : Kind) → After (send k) ≡ h.core.nmt
  sent emergency = refl
  sent sdo_reply = refl
  sent heartbeat = refl
  sent (tpdo w) = refl

  by_slot : (a : Act) → AtSlot h a → Enters h slot (After a) ⊎ (After a ≡ h.core.nmt)
  by_slot nothing x' = elim x' [ ]
  by_slot (enter _) x3 = elim x3 [ ]
  by_slot (reset _) x4 = elim x4 [ ]
  by_slot (take _) x5 = elim x5 [ ]
  by_slot lose x5 = elim x5 [ ]
  by_slot time x6 = elim x6 [ ]
  by_slot sync x7 = elim x7 [ ]
  by_slot (serve _) x9 = elim x9 [ ]
  by_slot boot (booting i) = inl (by_boot_up i)
  by_slot idle (idling i e) = inr refl
  by_slot (send k) (sending j i e w) = inr (sent k)

  only_so : (c : Call) → Enters h c (step h c).core.nmt ⊎ ((step h c).core.nmt ≡ h.core.nmt)
  only_so (receive f) = rw (core_step h (receive f)) (by_frame f (meant h (receive f)) (cause h f v))
  only_so tick = of_act tick (by (λ a. After a ≡ h.core.nmt) (is_initialising h.core) (λ _. refl) (λ _. refl))
  only_so (sample Missing) = of_act (sample Missing) refl
  only_so (sample (Raw r)) = of_act (sample (Raw r)) (by (λ a. After a ≡ h.core.nmt) (ltb highest_raw r) (λ _. refl) (λ _. refl))
  only_so slot = rw (core_step h slot) (by_slot (meant h slot) (at_slot h v))

  entered : (c : Call) (s : Nmt) → Enters h c s → (step h c).core.nmt ≡ s
  entered tick s x' = elim x' [ ]
  entered (sample _) s x3 = elim x3 [ ]
  entered (receive f) s (by_command g x) = enters h f g x
  entered (receive f) s (by_reset x) = ap (λ y. y.nmt) (core_step h (receive f) ∙ ap (acted h.core) (commands h f x))
  entered slot s (by_boot_up i) = ap (λ x. x.nmt) (core_step h slot ∙ ap (acted h.core) (boots h i))

pub network_states : NetworkStates
network_states =
    record {
      starts = at_power_up (λ h. h.core.nmt ≡ initialising) (λ _ _. refl);
      enters = λ h r. entered h (valid_reachable h r);
      only_so = λ h r. only_so h (valid_reachable h r);
      timers_stand = λ h i. step_nothing h tick refl (rw i) refl;
    }
