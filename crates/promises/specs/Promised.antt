-- What each call promises: its answer, and that the head it leaves is valid and is `step h c`. All theorems are
-- about `step`. The contracts of `head` and `lent` are these promises. 01, chapter "Strength of the promises".
use Rattle.std.specs.Prelude.{ℕ, ◌≡◌}
use Rattle.can.specs.declared.Received.{Received}
use Rattle.entries.specs.declared.Identity.{Identity}
use Rattle.parts.specs.declared.Head.{Head}
use Rattle.parts.specs.declared.Answer.{Answer}
use Rattle.parts.specs.declared.Sensor.{Sensor}
use Rattle.promises.specs.Calls.{receive, tick, sample, slot, step, powered_up, refusal_by, SlotAnswer, slot_answer, is_frame, frame_in}
use Rattle.promises.specs.Valid.{Valid}

abbrev pub PowersUp : ℕ → Identity → Answer → Type 0
PowersUp n i r = (r ≡ powered_up n i) × Valid r.head

abbrev pub Receives : Head → Received → Answer → Type 0
Receives h f r = (r ≡ record { refusal = refusal_by (receive f); head = step h (receive f) }) × Valid r.head

abbrev pub Ticks : Head → Head → Type 0
Ticks h r = (r ≡ step h tick) × Valid r

abbrev pub Samples : Head → Sensor → Answer → Type 0
Samples h s r = (r ≡ record { refusal = refusal_by (sample s); head = step h (sample s) }) × Valid r.head

-- one frame, or none
abbrev pub Slots : Head → SlotAnswer → Type 0
Slots h r =
    (r ≡ record { waited = is_frame (slot_answer h); frame = frame_in (slot_answer h); head = step h slot }) × Valid r.head
