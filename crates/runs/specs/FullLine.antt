-- A run from power-up after which all five kinds wait: the last of them leaves at the fifth slot
-- although a busy master floods the head, and each of 01's withdrawals takes what it names and no
-- more. It meets the conditions of `FiveSlots` of crate promises. 01, chapter "The waiting line".
use Rattle.std.specs.Prelude.{ℕ, ◌≡◌, List, [], ◌∷◌, ◌++◌}
use Rattle.sdo.specs.Worked.{bytes}
use Rattle.waiting.specs.Line.{emergency, sdo_reply, heartbeat, tpdo1, tpdo2}
use Rattle.waiting.specs.Places.{waiting}
use Rattle.parts.specs.declared.Head.{Head}
use Rattle.parts.specs.declared.Sensor.TheVariants.{Missing, Raw}
use Rattle.promises.specs.WaitingLine.{frame}
use Rattle.promises.specs.Calls.{Call, tick, sample, slot, step}
use Rattle.promises.specs.Histories.{after, slots, sent, Reachable}
use Rattle.promises.specs.Node1.{node1, request, asks, writes, command, sync}
use Rattle.promises.specs.Worked.{missing, at, inverted}

-- missing is announced, inverted, 1017h = 1; then the reading is good, Operational is entered and a SYNC arrives
abbrev pub begun : List Call
begun = missing ++ inverted ++ writes (bytes 0x2B 0x17 0x10 0x00 0x01 0 0 0) ++ sample (Raw 69637) ∷ command 0x01 ∷ sync ∷ []

abbrev pub unasked : Head
unasked = after node1 (begun ++ tick ∷ [])

abbrev pub almost : Head
almost = after node1 (begun ++ asks ∷ [])

abbrev pub full : Head
full = after node1 (begun ++ asks ∷ tick ∷ [])

abbrev pub busy : List Call
busy = asks ∷ sync ∷ tick ∷ slot ∷ []

abbrev pub flood : List Call
flood = busy ++ busy ++ busy ++ busy ++ busy

-- the kinds that wait, first to last, and after one more call
abbrev pub Waits : Head → List ℕ → Type 0
Waits h ks = waiting h.line ≡ ks

abbrev pub Takes : Head → Call → List ℕ → Type 0
Takes h c ks = Waits (step h c) ks

-- before boot-up frames have no effect, timers stand and samples are taken
abbrev pub unheard : List Call
unheard = asks ∷ command 0x01 ∷ command 0x81 ∷ sync ∷ tick ∷ sample (Raw 69637) ∷ sample Missing ∷ []

pub record FullLine : Type 0 where
  pub no_slot : slots unheard ≡ 0
  pub boots : sent node1 (unheard ++ slot ∷ []) ≡ frame 0x701 1 (0x00 ∷ []) ∷ []
  pub reachable : Reachable full
  -- the heartbeat begins to wait behind four others
  pub before : Waits almost (emergency ∷ tpdo1 ∷ tpdo2 ∷ sdo_reply ∷ [])
  pub begins : Waits full (emergency ∷ tpdo1 ∷ tpdo2 ∷ sdo_reply ∷ heartbeat ∷ [])
  -- and leaves as the fifth; 1,048,575 − 69,637 is 978,938, 0E EFFAh
  pub five : slots flood ≡ 5
  pub leaves : sent full flood
      ≡ frame 0x081 8 (bytes 0 0 0 0 0 0 0 0)
      ∷ frame 0x181 4 (0xFA ∷ 0xEF ∷ 0x0E ∷ 0x00 ∷ [])
      ∷ frame 0x281 4 (0xFA ∷ 0xEF ∷ 0x0E ∷ 0x00 ∷ [])
      ∷ frame 0x581 8 (bytes 0x43 0x04 0x60 0x00 0xFA 0xEF 0x0E 0x00)
      ∷ frame 0x701 1 (0x05 ∷ [])
      ∷ []
  -- the emergency and TPDO1 join in one call: the command that leaves Stopped
  pub several : Waits (after node1 (missing ++ command 0x02 ∷ sample (Raw 69637) ∷ [])) []
      × Waits (after node1 (missing ++ command 0x02 ∷ sample (Raw 69637) ∷ command 0x01 ∷ [])) (emergency ∷ tpdo1 ∷ [])
  -- 81h, 82h; 02h; 80h; a missing sample when missing was announced last, and a good one after power-up
  pub resets : Takes full (command 0x81) [] × Takes full (command 0x82) []
  pub stops : Takes full (command 0x02) (heartbeat ∷ [])
  pub leaves_operational : Takes full (command 0x80) (emergency ∷ sdo_reply ∷ heartbeat ∷ [])
  -- (TPDO2, of type 1, stays)
  pub loses : Takes full (sample Missing) (tpdo2 ∷ sdo_reply ∷ heartbeat ∷ [])
  pub finds : Waits (after node1 (slot ∷ [])) (emergency ∷ []) × Takes (after node1 (slot ∷ [])) (sample (Raw 69637)) []
  -- 1800-1 = 8000 0181h, 1801-1 = 8000 0281h, 1017h = 0, 1014h = 8000 0081h, each with its reply
  pub unasked_line : Waits unasked (emergency ∷ tpdo1 ∷ tpdo2 ∷ heartbeat ∷ [])
  pub switches_off_law : Takes unasked (request (bytes 0x23 0x00 0x18 0x01 0x81 0x01 0x00 0x80)) (emergency ∷ tpdo2 ∷ heartbeat ∷ sdo_reply ∷ [])
      × Takes unasked (request (bytes 0x23 0x01 0x18 0x01 0x81 0x02 0x00 0x80)) (emergency ∷ tpdo1 ∷ heartbeat ∷ sdo_reply ∷ [])
  pub beats_no_more : Takes unasked (request (bytes 0x2B 0x17 0x10 0x00 0 0 0 0)) (emergency ∷ tpdo1 ∷ tpdo2 ∷ sdo_reply ∷ [])
  -- and the emergency joins by a write of 1014h, ahead of its reply: switched off, missing, switched on
  pub speaks : Waits (after node1 (at 7 ++ writes (bytes 0x23 0x14 0x10 0x00 0x81 0x00 0x00 0x80) ++ sample Missing ∷ [])) []
      × Waits (after node1 (at 7 ++ writes (bytes 0x23 0x14 0x10 0x00 0x81 0x00 0x00 0x80) ++ sample Missing ∷ request
      (bytes 0x23 0x14 0x10 0x00 0x81 0 0 0) ∷ []))
      (emergency ∷ sdo_reply ∷ [])
  pub silenced : Takes unasked (request (bytes 0x23 0x14 0x10 0x00 0x81 0x00 0x00 0x80)) (tpdo1 ∷ tpdo2 ∷ heartbeat ∷ sdo_reply ∷ [])
