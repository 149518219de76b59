-- A position that is set, kept and shown. This run meets the conditions of `Readings` of crate promises. 01, chapter "Position".
use Rattle.std.specs.Prelude.{ℕ, ◌≡◌, true, List, [], ◌∷◌, ◌++◌, None as Blank, Some as Number}
use Rattle.std.proofs.Math.Option.{some}
use Rattle.cases.specs.Tests.{within}
use Rattle.sdo.specs.Worked.{bytes}
use Rattle.parts.specs.declared.Sensor.TheVariants.{Raw}
use Rattle.promises.specs.Calls.{Call, sample, slot, tick, slot_answer, is_frame, frame_in}
use Rattle.promises.specs.Meant.{Writes}
use Rattle.promises.specs.Histories.{after}
use Rattle.promises.specs.Node1.{node1, to_node1, request, command}
use Rattle.promises.specs.Worked.{at}
use Rattle.promises.specs.Readings.{reads_in, Unmoved}

-- Pre-operational, at 100
abbrev pub ready : List Call
ready = slot ∷ slot ∷ at 100

-- 6003h = 40
abbrev pub to40 : List ℕ
to40 = bytes 0x23 0x03 0x60 0x00 0x28 0 0 0

pub record Positioning : Type 0 where
  pub blank_at_first : reads_in node1 0x6004 0 ≡ some Blank
  pub presets : Writes (after node1 ready) (to_node1 to40) 0x6003_00 40
  -- a tick, a sample that is refused, and the slot that sends the reply
  pub unmoved : Unmoved (after node1 (ready ++ request to40 ∷ [])) (tick ∷ sample (Raw 1048576) ∷ slot ∷ [])
  pub reads_preset : reads_in (after node1 (ready ++ request to40 ∷ tick ∷ sample (Raw 1048576) ∷ slot ∷ [])) 0x6004 0 ≡ some (Number 40)
  pub waits : is_frame (slot_answer (after node1 (ready ++ command 0x01 ∷ []))) ≡ true
  pub shows : within 0x181 0x57F (frame_in (slot_answer (after node1 (ready ++ command 0x01 ∷ [])))).identifier ≡ true
