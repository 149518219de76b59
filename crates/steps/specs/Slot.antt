-- What a slot answers, which way it goes, and what sending changes in the parts of a head, as the code computes it: 01, chapter "The
-- waiting line". Reviewers can skip this file: proofs/Slots.antt proves that the head with these parts is what `promises` says.
use Rattle.std.specs.Prelude.{ℕ, ◌+◌, eqb, Bool, not, ◌&&◌, cond, List, [], ◌∷◌, Option, None, Some}
use Rattle.cases.specs.Padded.{pad}
use Rattle.can.specs.declared.Frame.{Frame}
use Rattle.can.specs.Number.{low_first}
use Rattle.position.specs.Position.{position}
use Rattle.entries.specs.declared.Pdo.{Pdo}
use Rattle.entries.specs.declared.Reading.{Reading}
use Rattle.entries.specs.declared.Settings.{Settings}
use Rattle.dictionary.specs.Accepted.{on}
use Rattle.waiting.specs.Line as line
use Rattle.waiting.specs.Line.{places, first}
use Rattle.waiting.specs.Places.{taken_in}
use Rattle.waiting.specs.Calls.{joins_in, if_due}
use Rattle.parts.specs.declared.Fixed.{Fixed}
use Rattle.parts.specs.declared.Nmt.{Nmt}
use Rattle.promises.specs.States.{initialising_code, pre_operational, state}
use Rattle.promises.specs.WaitingLine.{emergency_bytes, carried, frame}
use Rattle.promises.specs.Timers.{inhibit_ticks}
use Rattle.promises.specs.Calls.{no_frame}
use Rattle.server.specs.Replies.{reply_frame}
use Rattle.steps.specs.declared.slot.Announced.{Announced}
use Rattle.steps.specs.declared.slot.Booted.{Booted}
use Rattle.steps.specs.declared.slot.Slotted.{Slotted}
use Rattle.steps.specs.declared.slot.Way.{Way}
use Rattle.steps.specs.declared.slot.Way.TheVariants.{Boots, Announces, Sends}

-- the boot-up frame is sent, or none, the emergency, another kind
abbrev pub slot_way : Nmt → ℕ → Option Way
slot_way s k =
    cond (eqb s.code initialising_code) (Some Boots)
    (cond (eqb k 0) None
    (cond (eqb k line.emergency) (Some Announces) (Some Sends)))

abbrev pub state_frame : ℕ → Nmt → Frame
state_frame node s = frame (0x700 + node) 1 (s.code ∷ [])

-- a position frame
abbrev pub pdo_frame : Pdo → (atSlot fixed : ℕ) → Frame
pdo_frame p atSlot fixed = frame p.identifier 4 (low_first 4 (carried p atSlot fixed))

-- the frame of the kind that stands first
abbrev pub kind_frame : ℕ → Nmt → Settings → Reading → List ℕ → Fixed → ℕ → Frame
kind_frame node s settings r reply x k =
    let present = position settings.profile r.raw in
    cond (eqb k line.emergency) (frame (0x80 + node) 8 (emergency_bytes r.good))
    (cond (eqb k line.sdo_reply) (reply_frame node reply)
    (cond (eqb k line.heartbeat) (state_frame node s)
    (cond (eqb k line.tpdo1) (pdo_frame settings.communication.pdo1 present x.pdo1)
    (cond (eqb k line.tpdo2) (pdo_frame settings.communication.pdo2 present x.pdo2)
    no_frame))))

abbrev pub slot_frame : ℕ → Nmt → Settings → Reading → List ℕ → Fixed → ℕ → Frame
slot_frame node s settings r reply x k = cond (eqb s.code initialising_code) (state_frame node s) (kind_frame node s settings r reply x k)

-- this frame in this way, or none
abbrev pub in_way : Frame → Option Way → Option Slotted
in_way f None = None
in_way f (Some w) = Some (record { frame = f; way = w })

abbrev pub slotted_of : ℕ → Nmt → Settings → Reading → List ℕ → Fixed → List ℕ → Option Slotted
slotted_of node s settings r reply x l = in_way (slot_frame node s settings r reply x (first l)) (slot_way s (first l))

-- nothing else waits with the boot-up frame
abbrev pub booted_of : ℕ → Bool → Booted
booted_of identifier good =
    record { nmt = state pre_operational; line = joins_in (pad places []) (if_due (on identifier && not good) line.emergency) }

abbrev pub announced_of : ℕ → Bool → List ℕ → Announced
announced_of inhibit good l = record { announced = good; inhibit = inhibit_ticks inhibit; line = taken_in l }
