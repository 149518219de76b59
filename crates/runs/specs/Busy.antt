-- A run of node 1 from power-up: the reading goes missing while several frames wait. It meets the conditions
-- of `Gap` and `Emergency` of crate promises, and shows what is then sent. 01, chapter "The waiting line".
use Rattle.std.specs.Prelude.{replicate, ◌≡◌, true, false, List, [], ◌∷◌, ◌++◌}
use Rattle.std.proofs.Math.Option.{none, some}
use Rattle.sdo.specs.Worked.{bytes}
use Rattle.waiting.specs.Line.{emergency, sdo_reply, heartbeat, tpdo1, tpdo2}
use Rattle.parts.specs.declared.Sensor.TheVariants.{Missing, Raw}
use Rattle.promises.specs.States.{is_live}
use Rattle.promises.specs.WaitingLine.{frame}
use Rattle.promises.specs.Calls.{Call, tick, sample, slot, step}
use Rattle.promises.specs.Histories.{after, slots, frames, sent}
use Rattle.promises.specs.Node1.{node1, request, asks, writes, command, sync}
use Rattle.promises.specs.Gap.{among, how_many, last_emergency, says_missing, says_good, is_position, waiting_positions, Unrelieved}
use Rattle.promises.specs.Emergency.{Alerts}

-- Boot-up, missing told, a good sample told, 1017h = 1, Operational: TPDO1, the heartbeat, a reply and TPDO2 wait.
abbrev pub busy_line : List Call
busy_line =
    slot ∷ slot ∷ sample (Raw 69637) ∷ slot ∷ writes (bytes 0x2B 0x17 0x10 0x00 0x01 0x00 0 0) ++ command 0x01 ∷ tick ∷ asks ∷ sync ∷ []

-- The master floods the head: a tick, a request and a SYNC before each slot, a sample that is refused, the present state commanded.
abbrev pub until_told : List Call
until_told =
    asks ∷ slot ∷ tick ∷ asks ∷ sync ∷ slot ∷ tick ∷ asks ∷ sync ∷ sample (Raw 1048576) ∷ slot ∷ tick ∷ asks ∷ sync ∷ command 0x01 ∷ []

abbrev pub onward : List Call
onward = sample Missing ∷ tick ∷ asks ∷ sync ∷ slot ∷ []

abbrev pub busy_master : List Call
busy_master = until_told ++ slot ∷ onward

-- 1015h = 95, so 11 ticks from the emergency frame that says good; then the reading goes missing.
abbrev pub held : List Call
held = slot ∷ slot ∷ writes (bytes 0x2B 0x15 0x10 0x00 0x5F 0x00 0 0) ++ sample (Raw 7) ∷ slot ∷ sample Missing ∷ []

-- ten ticks with a slot after them, which sends nothing; and the eleventh
abbrev pub wait : List Call
wait = replicate 10 tick ++ slot ∷ tick ∷ []

-- 1015h = 1,000, 100 ms, so 101 ticks from the emergency frame that says missing; then a good sample, and a slot before the last tick
abbrev pub slow : List Call
slow =
    slot ∷ request (bytes 0x2B 0x15 0x10 0x00 0xE8 0x03 0 0) ∷ slot ∷ slot ∷ sample (Raw 7) ∷ replicate 100 tick ++ slot ∷ tick ∷ slot ∷ []

pub record Busy : Type 0 where
  -- what waits when the reading goes missing, and what waits after that
  pub before : (after node1 busy_line).line ≡ tpdo1 ∷ heartbeat ∷ sdo_reply ∷ tpdo2 ∷ 0 ∷ []
  pub then : (step (after node1 busy_line) (sample Missing)).line ≡ heartbeat ∷ sdo_reply ∷ tpdo2 ∷ emergency ∷ 0 ∷ []
  pub live : is_live (after node1 busy_line).core ≡ true
  pub uninhibited : (after node1 busy_line).core.timers.inhibit ≡ 0
  pub unrelieved : Unrelieved 1 (step (after node1 busy_line) (sample Missing)) busy_master
  pub five : slots busy_master ≡ 5
  -- good was said last; by the fifth slot it is missing
  pub good : last_emergency 1 (sent node1 busy_line) ≡ some (says_good 1)
  pub told : last_emergency 1 (sent node1 (busy_line ++ sample Missing ∷ busy_master)) ≡ some (says_missing 1)
  -- The frame of TPDO2, of type 1, waited at the missing sample and leaves, that of TPDO1 does not. Without the missing sample both leave.
  pub one_waits : waiting_positions (step (after node1 busy_line) (sample Missing)) ≡ 1
  pub one_leaves : how_many is_position (sent (step (after node1 busy_line) (sample Missing)) busy_master) ≡ 1
  pub both_leave : how_many is_position (sent (after node1 busy_line) busy_master) ≡ 2
  -- the fourth slot says "missing", and then none is left
  pub says_missing_law : frames (after node1 (busy_line ++ sample Missing ∷ until_told)) slot ≡ says_missing 1 ∷ []
  pub silent : among is_position (sent (step (after node1 (busy_line ++ sample Missing ∷ until_told)) slot) onward) ≡ false
  -- a reset and its boot-up start again
  pub anew : last_emergency 1 (sent node1 (busy_line ++ command 0x81 ∷ slot ∷ [])) ≡ none
  -- While the inhibit time runs the gap is not told; from its end it is.
  pub inhibited : (after node1 held).core.timers.inhibit ≡ 11
  pub good_still : last_emergency 1 (sent node1 (held ++ wait)) ≡ some (says_good 1)
  pub over : (after node1 (held ++ wait)).core.timers.inhibit ≡ 0
  pub unrelieved_still : Unrelieved 1 (after node1 (held ++ wait)) busy_master
  pub told_then : last_emergency 1 (sent node1 ((held ++ wait) ++ busy_master)) ≡ some (says_missing 1)
  -- After boot-up the emergency leaves at the next slot, as `Emergency` asks.
  pub leaves : Alerts 1 (after node1 (slot ∷ []))
  -- "good" is also announced again under a long inhibit time.
  pub good_again : sent node1 slow
      ≡ frame 0x701 1 (0x00 ∷ [])
      ∷ frame 0x081 8 (bytes 0x00 0x50 0x01 0 0 0 0 0)
      ∷ frame 0x581 8 (bytes 0x60 0x15 0x10 0x00 0 0 0 0)
      ∷ frame 0x081 8 (bytes 0 0 0 0 0 0 0 0)
      ∷ []
