-- Only a sample, a reset and a served request change the device.
use Prim.Native.Nat.{ℕ}
use lib.Dec.{ltb}
use mathlib.Core.Path.{◌≡◌, refl}
use mathlib.Core.Bool.{true, false}
use Rattle.cases.proofs.Cases.{by}
use Rattle.can.specs.declared.Received.{Received}
use Rattle.position.specs.Profile.{highest_raw}
use Rattle.entries.specs.declared.Device.{Device}
use Rattle.dictionary.specs.Writes.{put}
use Rattle.sdo.specs.declared.reply.Effect.{Effect}
use Rattle.sdo.specs.declared.reply.Effect.TheVariants.{Nothing, Reply, Write}
use Rattle.sdo.specs.Reply.{carried_out}
use Rattle.waiting.specs.Line.{first}
use Rattle.parts.specs.declared.Head.{Head}
use Rattle.parts.specs.declared.Sensor.TheVariants.{Missing, Raw}
use Rattle.promises.specs.States.{is_initialising, Reset, restored, missing_reading, to_reset}
use Rattle.promises.specs.WaitingLine.{Kind, emergency, sdo_reply, heartbeat, tpdo}
use Rattle.promises.specs.Acts.{Act, nothing, enter, reset, boot, idle, send, take, lose, time}
use Rattle.promises.specs.Acts.{sync, serve, sensed, reset_to, errors_after, acted}
use Rattle.promises.specs.Calls.{Call, receive, tick, sample, slot, meant, step}
use Rattle.promises.specs.Valid.{Valid}
use Rattle.promises.specs.Meant.{Commands, Requests}
use Rattle.promises.specs.Service.{reply_due}
use Rattle.promises.proofs.KindNumbers.{sent_as_law}
use Rattle.promises.proofs.Meant.{core_step}
use Rattle.promises.proofs.Causes.{Cause, cause}

-- a request alters neither the node number nor the reading
pub carried : (d : Device) (e : Effect) → ((carried_out d e).node ≡ d.node) × ((carried_out d e).reading ≡ d.reading)
unfolding put
carried d Nothing = (refl, refl)
carried d Reply = (refl, refl)
carried d (Write k v) = (refl, refl)

-- the device after the call
pub data Altered (h : Head) : Call → Device → Type 0 where
  heard : (f : Received) → Altered h (receive f) h.core.device
  timed : Altered h tick h.core.device
  sent : Altered h slot h.core.device
  refused : (r : ℕ) → ltb highest_raw r ≡ true → Altered h (sample (Raw r)) h.core.device
  took : (r : ℕ) → ltb highest_raw r ≡ false
      → Altered h (sample (Raw r)) (sensed h.core.device (record { good = true; raw = r }) h.core.device.errors)
  lost : Altered h (sample Missing) (sensed h.core.device missing_reading (errors_after h.core.device))
  restarted : (f : Received) (r : Reset) → Commands h f (to_reset r)
      → Altered h (receive f) (reset_to h.core.device (restored r h.core.device.settings h.core.device.saved))
  served : (f : Received) → Requests h f → Altered h (receive f) (carried_out h.core.device (reply_due h f).effect)

module _ (h : Head) (v : Valid h) where
  abbrev By : Call → Act → Type 0
  By c a = Altered h c (acted h.core a).device

  by_frame : (f : Received) (a : Act) → Cause h f a → By (receive f) a
  by_frame f nothing x = heard f
  by_frame f (enter g) x = heard f
  by_frame f (reset r) x = restarted f r x
  by_frame f boot x = absurd x
  by_frame f idle x = absurd x
  by_frame f (send k) x = absurd x
  by_frame f (take r) x = absurd x
  by_frame f lose x = absurd x
  by_frame f time x = absurd x
  by_frame f sync x = heard f
  by_frame f (serve s) x = rw x.1 (served f x.0)

  by_sending : (k : Kind) → By slot (send k)
  by_sending emergency = sent
  by_sending sdo_reply = sent
  by_sending heartbeat = sent
  by_sending (tpdo w) = sent

  by_call : (c : Call) → By c (meant h c)
  by_call (receive f) = by_frame f (meant h (receive f)) (cause h f v)
  by_call tick = by (By tick) (is_initialising h.core) (λ _. timed) (λ _. timed)
  by_call (sample Missing) = lost
  by_call (sample (Raw r)) = by (By (sample (Raw r))) (ltb highest_raw r) (refused r) (took r)
  by_call slot =
      by (By slot) (is_initialising h.core) (λ _. sent)
      (λ _. sent_as_law (By slot) (first h.line) sent by_sending)

  pub altered : (c : Call) → Altered h c (step h c).core.device
  altered c = rw (core_step h c) (by_call c)
