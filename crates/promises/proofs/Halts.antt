-- Only a stop and a reset leave Pre-operational and Operational, and only their commands mean them.
use lib.Dec.{ltb}
use mathlib.Core.Path.{◌≡◌, refl}
use mathlib.Core.Bool.{true}
use Rattle.cases.proofs.Cases.{by}
use Rattle.can.specs.declared.Received.{Received}
use Rattle.waiting.specs.Line.{first}
use Rattle.parts.specs.declared.Core.{Core}
use Rattle.parts.specs.declared.Head.{Head}
use Rattle.parts.specs.declared.Sensor.TheVariants.{Missing, Raw}
use Rattle.position.specs.Profile.{highest_raw}
use Rattle.promises.specs.States.{operational, stopped, pre_operational, is_initialising, is_live, Reset, Command, to_enter, to_reset}
use Rattle.promises.specs.WaitingLine.{emergency, sdo_reply, heartbeat, tpdo}
use Rattle.promises.specs.Acts.{Act, nothing, enter, reset, boot, idle, send, take, lose, time, sync, serve, acted}
use Rattle.promises.specs.Calls.{Call, receive, tick, sample, slot, meant}
use Rattle.promises.specs.Valid.{Valid}
use Rattle.promises.specs.Meant.{Commands}
use Rattle.promises.specs.Service.{takes_reply}
use Rattle.promises.proofs.KindNumbers.{sent_as_law}
use Rattle.promises.proofs.Causes.{Cause, cause}

pub data Halts : Act → Type 0 where
  stopping : Halts (enter stopped)
  resetting : (r : Reset) → Halts (reset r)

pub stays_live : (c : Core) (a : Act) → (Halts a → ⊥) → is_live c ≡ true → is_live (acted c a) ≡ true
stays_live c nothing n l = l
stays_live c (enter operational) n l = refl
stays_live c (enter stopped) n l = absurd (n stopping)
stays_live c (enter pre_operational) n l = refl
stays_live c (reset r) n l = absurd (n (resetting r))
stays_live c boot n l = refl
stays_live c idle n l = l
stays_live c (send emergency) n l = l
stays_live c (send sdo_reply) n l = l
stays_live c (send heartbeat) n l = l
stays_live c (send (tpdo w)) n l = l
stays_live c (take r) n l = l
stays_live c lose n l = l
stays_live c time n l = l
stays_live c sync n l = l
stays_live c (serve s) n l = l

-- a command to the head, to stop or to reset
abbrev pub HaltedBy : Head → Call → Type 0
HaltedBy h (receive f) = (k : Command) × Commands h f k × (takes_reply k ≡ true)
HaltedBy h tick = ⊥
HaltedBy h (sample s) = ⊥
HaltedBy h slot = ⊥

module _ (h : Head) (v : Valid h) where
  by_frame : (f : Received) (a : Act) → Cause h f a → Halts a → HaltedBy h (receive f)
  by_frame f _ x stopping = (to_enter stopped, x.0, refl)
  by_frame f _ x (resetting r) = (to_reset r, x, refl)

  pub halted : (c : Call) → Halts (meant h c) → HaltedBy h c
  halted (receive f) = by_frame f (meant h (receive f)) (cause h f v)
  halted tick = by (λ a. Halts a → ⊥) (is_initialising h.core) (λ _ s. elim s [ ]) (λ _ s. elim s [ ])
  halted (sample Missing) = λ s. elim s [ ]
  halted (sample (Raw r)) = by (λ a. Halts a → ⊥) (ltb highest_raw r) (λ _ s. elim s [ ]) (λ _ s. elim s [ ])
  halted slot =
      by (λ a. Halts a → ⊥) (is_initialising h.core) (λ _ s. elim s [ ])
      (λ _. sent_as_law (λ a. Halts a → ⊥) (first h.line) (λ s. elim s [ ]) (λ _ s. elim s [ ]))
