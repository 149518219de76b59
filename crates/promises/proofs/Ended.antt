-- Each withdrawal ends the condition of the kind that it takes.
use Prim.Native.Nat.{ℕ}
use mathlib.Core.Path.{◌≡◌, refl, ap, ◌∙◌}
use mathlib.Core.Bool.{false, not, ◌&&◌, ◌||◌, and-false}
use borrow.Author.Tests.{eq-eqb, le-ltb}
use Rattle.can.specs.declared.Received.{Received}
use Rattle.position.specs.Profile.{highest_raw}
use Rattle.entries.specs.Keys.{heartbeat_key, emergency_key}
use Rattle.dictionary.specs.Accepted.{on}
use Rattle.dictionary.specs.Writes.{own_key}
use Rattle.sdo.specs.Reply.{confirmed}
use Rattle.parts.specs.declared.Core.{Core}
use Rattle.parts.specs.declared.Head.{Head}
use Rattle.parts.specs.declared.Sensor.TheVariants.{Missing, Raw}
use Rattle.promises.specs.States.{operational, stopped, state, is_in}
use Rattle.promises.specs.States.{is_initialising, is_live, good, communication, pdo}
use Rattle.promises.specs.Timers.{synchronous}
use Rattle.promises.specs.WaitingLine.{Kind, emergency, sdo_reply, heartbeat, tpdo, may_stay}
use Rattle.promises.specs.Acts.{take, serve, acted}
use Rattle.promises.specs.Calls.{Call, receive, sample, meant, step}
use Rattle.promises.specs.Meant.{Writes}
use Rattle.promises.specs.Valid.{Valid}
use Rattle.promises.specs.Withdrawals.{identifier_key, Withdrawal, resets, stops, leaves, loses}
use Rattle.promises.specs.Withdrawals.{switches_off_law, beats_no_more, silenced, found, lost}
use Rattle.promises.proofs.States.{elsewhere}
use Rattle.promises.proofs.Slots.{no_stay}
use Rattle.promises.proofs.Meant.{core_step, enters, resets as reset-law}
use Rattle.promises.proofs.Causes.{writes}
use Rattle.promises.proofs.Conditions.{alerting, alert_written, beat_written, show_written, identifier_written}
use Rattle.promises.proofs.Types.{on_events}

module _ (h : Head) (v : Valid h) where
  written_so : {f : Received} {j n : ℕ} → Writes h f j n → (k : Kind)
      → may_stay (step h (receive f)).core k ≡ may_stay (acted h.core (serve (confirmed f.bytes (own_key j) n))) k
  written_so {f} x k = ap (λ c. may_stay c k) (writes h f v x)

  stopped_stay : (c : Core) (k : Kind) → c.nmt ≡ state stopped → (k ≡ heartbeat → ⊥) → may_stay c k ≡ false
  stopped_stay c emergency e o = rw e
  stopped_stay c sdo_reply e o = rw e
  stopped_stay c heartbeat e o = absurd (o refl)
  stopped_stay c (tpdo w) e o = rw e

  pub ended : {x : Call} {k : Kind} → Withdrawal h x k → may_stay (step h x).core k ≡ false
  ended (resets {f} {r} {k} m) = no_stay (step h (receive f)).core k (reset-law h f r m).initialising
  ended (stops {f} {k} m o) = stopped_stay (step h (receive f)).core k (enters h f stopped m) o
  ended (leaves {f} {g} {w} m y n) =
      let p = pdo (communication d) w in
      ap (λ t. t && on p.identifier && (synchronous p || good d)) (elsewhere h.core d g y n (enters h f g m))
    where
      d : Core
      d = (step h (receive f)).core
  ended (loses {w} t) =
      let p = pdo (communication h.core) w in
      ap (λ c. may_stay c (tpdo w)) (core_step h (sample Missing))
      ∙ rw (on_events p t) (and-false (is_in operational h.core && on p.identifier))
  ended (switches_off_law {f} {v = j} {w} x o) =
      written_so x (tpdo w) ∙ show_written h.core f.bytes (identifier_key w) j w
      ∙ rw (
        identifier_written (communication h.core) (identifier_key w) j w,
        eq-eqb (identifier_key w) (identifier_key w) refl,
        o,
        and-false (is_in operational h.core),
      )
  ended (beats_no_more {f} x) =
      written_so x heartbeat ∙ beat_written h.core f.bytes heartbeat_key 0 ∙ and-false (not (is_initialising h.core))
  ended (silenced {f} {v = j} x o) =
      written_so x emergency ∙ alert_written h.core f.bytes emergency_key j ∙ rw (o, and-false (is_live h.core))
  ended (found {r} b a) =
      let m : meant h (sample (Raw r)) ≡ take r = rw (le-ltb highest_raw r b) in
      ap (λ c. may_stay c emergency) (core_step h (sample (Raw r)) ∙ ap (acted h.core) m) ∙ rw a (and-false (alerting h.core))
  ended (lost a) = ap (λ c. may_stay c emergency) (core_step h (sample Missing)) ∙ rw a (and-false (alerting h.core))
