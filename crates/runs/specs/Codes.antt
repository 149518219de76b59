-- The states of node 1, and what its heartbeat and its position frames then say. These runs meet
-- the conditions of `Codes` of crate promises. 01, chapters "States" and "The waiting line".
use Rattle.std.specs.Prelude.{ℕ, ◌≡◌, true, false, List, [], ◌∷◌, ◌++◌}
use Rattle.sdo.specs.Worked.{bytes}
use Rattle.promises.specs.States.{is_initialising, PdoNumber, one, two}
use Rattle.promises.specs.WaitingLine.{heartbeat, tpdo}
use Rattle.promises.specs.Calls.{Call, tick, slot}
use Rattle.promises.specs.Histories.{after}
use Rattle.promises.specs.Node1.{node1, writes, command, sync}
use Rattle.promises.specs.Worked.{answer, sends, missing, at}
use Rattle.promises.specs.Codes.{says, code_after, IsFirst}

-- Node 1, 1017h = 1, so that a heartbeat joins at each tick.
abbrev pub beating : List Call
beating = missing ++ writes (bytes 0x2B 0x17 0x10 0x00 0x01 0x00 0 0)

-- then a tick: the heartbeat is the first in the line, and its byte is the code
pub record Beats (cs : List Call) (code : ℕ) : Type 0 where
  pub is_first : IsFirst heartbeat (after node1 (cs ++ tick ∷ []))
  pub its_code : code_after 1 (cs ++ tick ∷ []) ≡ code
  pub sent : answer (after node1 (cs ++ tick ∷ [])) ≡ sends 0x701 1 (code ∷ [])

-- After the calls the slot sends a TPDO with this identifier and the position 100.
pub record Shows (cs : List Call) (w : PdoNumber) (identifier : ℕ) : Type 0 where
  pub is_first : IsFirst (tpdo w) (after node1 cs)
  pub sent : answer (after node1 cs) ≡ sends identifier 4 (100 ∷ [])

pub record CodesMet : Type 0 where
  pub pre_operational_law : Beats beating 0x7F
  pub operational : Beats (beating ++ command 0x01 ∷ []) 0x05
  pub stopped : Beats (beating ++ command 0x02 ∷ []) 0x04
  pub again : Beats (beating ++ command 0x02 ∷ command 0x80 ∷ []) 0x7F
  -- the node has booted, and gets the command 81h
  pub is_booted : is_initialising (after node1 beating).core ≡ false
  pub is_said : says 1 0x81 (command 0x81) ≡ true
  -- 81h, and 01h has no effect in Initialising; 82h, and the boot-up frame is sent
  pub reset : code_after 1 (beating ++ command 0x81 ∷ command 0x01 ∷ []) ≡ 0x00
  pub booted : code_after 1 (beating ++ command 0x82 ∷ slot ∷ []) ≡ 0x7F
  -- on entering Operational TPDO1 is sent, with 181h; at a SYNC TPDO2, with 281h
  pub tpdo1 : Shows (missing ++ at 100 ++ command 0x01 ∷ []) one 0x181
  pub tpdo2 : Shows (missing ++ at 100 ++ command 0x01 ∷ slot ∷ sync ∷ []) two 0x281
