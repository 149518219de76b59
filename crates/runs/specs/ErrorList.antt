-- Five losses, of which 1003h keeps four, and an emptied list. This run meets
-- the conditions of `ErrorList` of crate promises. 01, chapter "Entries".
use Rattle.std.specs.Prelude.{◌≡◌, List, [], ◌∷◌, ◌++◌, None as Blank, Some as Number}
use Rattle.std.proofs.Math.Option.{some}
use Rattle.sdo.specs.Worked.{bytes}
use Rattle.parts.specs.declared.Sensor.TheVariants.{Missing, Raw}
use Rattle.promises.specs.Calls.{Call, sample, slot}
use Rattle.promises.specs.Meant.{Writes}
use Rattle.promises.specs.Histories.{after}
use Rattle.promises.specs.Node1.{node1, to_node1, request, command}
use Rattle.promises.specs.Readings.{reads_in}
use Rattle.promises.specs.ErrorList.{losses}

-- a good-to-missing change
abbrev pub loss : List Call
loss = sample (Raw 7) ∷ sample Missing ∷ []

abbrev pub five : List Call
five = loss ++ loss ++ slot ∷ loss ++ loss ++ loss

-- 1003-0 = 0
abbrev pub emptied : List Call
emptied = request (bytes 0x2F 0x03 0x10 0x00 0 0 0 0) ∷ []

pub record Losing : Type 0 where
  pub five_lost : losses node1 Missing 0 five ≡ 5
  pub four_read : reads_in (after node1 five) 0x1003 0 ≡ some (Number 4)
  pub empties : Writes (after node1 five) (to_node1 (bytes 0x2F 0x03 0x10 0x00 0 0 0 0)) 0x1003_00 0
  pub one_lost : losses node1 Missing 0 (five ++ emptied ++ loss) ≡ 1
  pub one_read : reads_in (after node1 (five ++ emptied ++ loss)) 0x1003 0 ≡ some (Number 1)
  -- a reset keeps the list
  pub kept : reads_in (after node1 (five ++ command 0x81 ∷ [])) 0x1003 0 ≡ some (Number 4)
  pub second_blank : reads_in (after node1 (five ++ emptied ++ loss)) 0x1003 2 ≡ some Blank
