-- The act that a call means fits the head's state.
use Prim.Native.Nat.{ℕ, ◌≤◌}
use lib.Dec.{eqb, leb}
use mathlib.Core.Path.{◌≡◌, refl}
use mathlib.Core.Bool.{Bool, true, false, not, ◌&&◌}
use mathlib.Core.List.{List}
use borrow.Author.Tests.{ltb-false}
use Rattle.cases.proofs.Cases.{by, both}
use Rattle.can.specs.declared.Received.{Received}
use Rattle.sdo.specs.Reply.{replies}
use Rattle.names.specs.declared.Transfer.{Transfer}
use Rattle.sdo.specs.Service.{answer}
use Rattle.sdo.specs.Upload.{due_in}
use Rattle.waiting.specs.Line as line
use Rattle.waiting.specs.Line.{has, first}
use Rattle.parts.specs.declared.Core.{Core}
use Rattle.parts.specs.declared.Head.{Head}
use Rattle.parts.specs.declared.Sensor.{Sensor}
use Rattle.parts.specs.declared.Sensor.TheVariants.{Missing, Raw}
use Rattle.position.specs.Profile.{highest_raw}
use Rattle.promises.specs.States.{operational, is_in, is_initialising, is_live, node, Command, no_command, to_enter, to_reset, command_of}
use Rattle.promises.specs.Acts.{Act, nothing, enter, reset, boot, idle, send, take, lose, time, sync, serve}
use Rattle.promises.specs.Calls.{Call, receive, tick, sample, slot, is_slot, commanded, synchronised, requested, meant}
use Rattle.promises.proofs.KindNumbers.{sent_as_law}
use Rattle.promises.proofs.Hearing.{heard_by_law, booted}

abbrev pub Fits : Bool → Core → Act → Type 0
Fits atSlot c nothing = atSlot ≡ false
Fits atSlot c (enter g) = is_initialising c ≡ false
Fits atSlot c (reset r) = is_initialising c ≡ false
Fits atSlot c boot = is_initialising c ≡ true
Fits atSlot c idle = is_initialising c ≡ false
Fits atSlot c (send k) = is_initialising c ≡ false
Fits atSlot c (take r) = r ≤ highest_raw
Fits atSlot c lose = Unit {0}
Fits atSlot c time = is_initialising c ≡ false
Fits atSlot c sync = is_in operational c ≡ true
-- the answer to some bytes, in some transfer
Fits atSlot c (serve s) = (is_live c ≡ true) × ((t : Transfer) × ((f : List ℕ) × (s ≡ answer f (due_in c.device (is_in operational c) t f))))

module _ (h : Head) where
  abbrev c : Core
  c = h.core

  abbrev Here : Act → Type 0
  Here = Fits false c

  fits_command : (x : Command) → is_initialising c ≡ false → Here (commanded c x)
  fits_command no_command i = refl
  fits_command (to_enter g) i = by Here (is_in g c) (λ _. refl) (λ _. i)
  fits_command (to_reset r) i = i

  fits_sync : (length : ℕ) → Here (synchronised c length)
  fits_sync length = by Here (leb length 1 && is_in operational c) (λ t. (both (leb length 1) (is_in operational c) t).1) (λ _. refl)

  fits_request : (f : Received) → Here (requested h f)
  fits_request f =
      let free = not (has line.sdo_reply h.line) in
      by Here (eqb f.length 8 && is_live c && free)
      (λ t. by Here (replies (answer f.bytes (due_in c.device (is_in operational c) h.transfer f.bytes)).effect)
      (λ _. ((both (eqb f.length 8) (is_live c) (both (eqb f.length 8 && is_live c) free t).0).1, (h.transfer, (f.bytes, refl))))
      (λ _. refl))
      (λ _. refl)

  fits_sample : (s : Sensor) → Here (meant h (sample s))
  fits_sample Missing = tt
  fits_sample (Raw r) = by Here _ (λ _. refl) (λ e. ltb-false highest_raw r e)

  pub fits : (x : Call) → Fits (is_slot x) c (meant h x)
  fits (receive f) =
      heard_by_law h f Here refl (λ x _. fits_command (command_of (node c) f) (booted x)) (λ _ _. fits_sync f.length) (λ _ _. fits_request f)
  fits tick = by Here (is_initialising c) (λ _. refl) (λ i. i)
  fits (sample s) = fits_sample s
  fits slot = by (Fits true c) (is_initialising c) (λ i. i) (λ i. sent_as_law (Fits true c) (first h.line) i (λ _. i))
