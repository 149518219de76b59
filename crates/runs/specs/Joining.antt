-- Runs of node 1 from power-up in which the heartbeat and the PDOs join at their moments. They meet the conditions
-- of `Moments` and `PassedOver` of crate promises, and show what then waits. 01, chapter "The waiting line".
use Rattle.std.specs.Prelude.{ℕ, replicate, ◌≡◌, List, [], ◌∷◌, ◌++◌}
use Rattle.sdo.specs.Worked.{bytes}
use Rattle.waiting.specs.Line.{emergency, sdo_reply, heartbeat, tpdo1, tpdo2}
use Rattle.waiting.specs.Places.{waiting}
use Rattle.parts.specs.declared.Head.{Head}
use Rattle.parts.specs.declared.Sensor.TheVariants.{Missing, Raw}
use Rattle.promises.specs.States.{one, two}
use Rattle.promises.specs.WaitingLine.{frame}
use Rattle.promises.specs.Calls.{Call, tick, sample, slot, step}
use Rattle.promises.specs.Histories.{after, sent}
use Rattle.promises.specs.Node1.{node1, request, writes, command, sync}
use Rattle.promises.specs.Worked.{missing}
use Rattle.promises.specs.Moments.{since, beats_anew, beat_counts, ticks_anew, tick_counts, syncs_anew, synchronises, Counts}
use Rattle.promises.specs.PassedOver.{Due}

-- what waits after each of the calls
abbrev pub lines : Head → List Call → List (List ℕ)
lines h [] = []
lines h (c ∷ cs) = waiting (step h c).line ∷ lines (step h c) cs

-- After the first calls, the next calls leave these lines, one for each call.
abbrev pub Leave : List Call → List Call → List (List ℕ) → Type 0
Leave before cs ls = lines (after node1 before) cs ≡ ls

-- 1017h = 3, and its reply sent
abbrev pub every3 : List Call
every3 = writes (bytes 0x2B 0x17 0x10 0x00 3 0 0 0)

-- 1800-5 = e; 6200h = 3
abbrev pub event : ℕ → List Call
event e = writes (bytes 0x2B 0x00 0x18 0x05 e 0 0 0)

abbrev pub event3 : List Call
event3 = event 3

abbrev pub event3_again : List Call
event3_again = writes (bytes 0x2B 0x00 0x62 0x00 3 0 0 0)

-- 1800-1 = 8000 0181h and 181h: TPDO1 off and on
abbrev pub off1 : List Call
off1 = writes (bytes 0x23 0x00 0x18 0x01 0x81 0x01 0x00 0x80)

abbrev pub on1 : List Call
on1 = writes (bytes 0x23 0x00 0x18 0x01 0x81 0x01 0 0)

-- 1801-1 = 8000 0281h and 281h: TPDO2 off and on
abbrev pub off2 : List Call
off2 = writes (bytes 0x23 0x01 0x18 0x01 0x81 0x02 0x00 0x80)

abbrev pub on2 : List Call
on2 = writes (bytes 0x23 0x01 0x18 0x01 0x81 0x02 0 0)

-- 1801-2 = 2, for which it has to be off; 1801-5 = 1
abbrev pub second : List Call
second = off2 ++ writes (bytes 0x2F 0x01 0x18 0x02 2 0 0 0) ++ on2 ++ writes (bytes 0x2B 0x01 0x18 0x05 1 0 0 0)

-- boot-up, a good sample: "good" counts as announced
abbrev pub good : List Call
good = slot ∷ sample (Raw 7) ∷ []

-- entering Operational, where TPDO1 joins and is sent
abbrev pub operating : List Call
operating = command 0x01 ∷ slot ∷ []

-- 1017h = 100, and while TPDO2 is off 1801-2 = 254 and 1801-5 = 100, as TPDO1 has them; entering Operational, where both join and are sent
abbrev pub every100 : List Call
every100 =
    good ++ writes (bytes 0x2B 0x17 0x10 0x00 100 0 0 0) ++ off2 ++ writes (bytes 0x2F 0x01 0x18 0x02 254 0 0 0)
    ++ writes (bytes 0x2B 0x01 0x18 0x05 100 0 0 0) ++ on2 ++ command 0x01 ∷ slot ∷ slot ∷ []

-- TPDO2, of type 2, one SYNC in Operational, and then the reading goes missing
abbrev pub lost_between : List Call
lost_between = good ++ second ++ operating ++ sync ∷ sample Missing ∷ []

pub record Joining : Type 0 where
  -- The heartbeat joins at the third tick and at the sixth, though a slot sends it between: one right away, one a tick later.
  pub beats : Leave (good ++ every3) (tick ∷ tick ∷ tick ∷ slot ∷ tick ∷ tick ∷ tick ∷ [])
      ([] ∷ [] ∷ (heartbeat ∷ []) ∷ [] ∷ [] ∷ [] ∷ (heartbeat ∷ []) ∷ [])
  pub beats_sent_late : Leave (good ++ every3) (tick ∷ tick ∷ tick ∷ tick ∷ slot ∷ tick ∷ tick ∷ [])
      ([] ∷ [] ∷ (heartbeat ∷ []) ∷ (heartbeat ∷ []) ∷ [] ∷ [] ∷ (heartbeat ∷ []) ∷ [])
  -- counted from its write, also of an equal value; a command does not restart the count
  pub beats_anew_law : Leave (good ++ every3 ++ tick ∷ tick ∷ every3) (tick ∷ tick ∷ tick ∷ []) ([] ∷ [] ∷ (heartbeat ∷ []) ∷ [])
  pub beats_on : Leave (good ++ every3) (tick ∷ command 0x02 ∷ tick ∷ command 0x80 ∷ tick ∷ []) ([] ∷ [] ∷ [] ∷ [] ∷ (heartbeat ∷ []) ∷ [])
  pub counted_beats : since beats_anew beat_counts node1 (good ++ every3 ++ tick ∷ tick ∷ tick ∷ slot ∷ tick ∷ tick ∷ []) 0 ≡ 5
  -- TPDO1, of type 254, joins on entering and every three ticks, in Operational only; a write to sub 5, under either index, restarts the count
  pub elapses : Leave (good ++ event3) (command 0x01 ∷ slot ∷ tick ∷ tick ∷ tick ∷ slot ∷ tick ∷ tick ∷ tick ∷ [])
      ((tpdo1 ∷ []) ∷ [] ∷ [] ∷ [] ∷ (tpdo1 ∷ []) ∷ [] ∷ [] ∷ [] ∷ (tpdo1 ∷ []) ∷ [])
  pub enters_again : Leave (good ++ event3 ++ operating) (tick ∷ tick ∷ command 0x80 ∷ tick ∷ command 0x01 ∷ slot ∷ tick ∷ tick ∷ tick ∷ [])
      ([] ∷ [] ∷ [] ∷ [] ∷ (tpdo1 ∷ []) ∷ [] ∷ [] ∷ [] ∷ (tpdo1 ∷ []) ∷ [])
  pub elapses_anew : Leave (good ++ event3 ++ operating ++ tick ∷ tick ∷ event3_again) (tick ∷ tick ∷ tick ∷ [])
      ([] ∷ [] ∷ (tpdo1 ∷ []) ∷ [])
  -- switching on restarts the count; TPDO1 does not join then, nor while it is off
  pub elapses_switched : Leave (good ++ event3 ++ operating ++ tick ∷ off1) (tick ∷ tick ∷ on1 ++ tick ∷ tick ∷ tick ∷ [])
      ([] ∷ [] ∷ (sdo_reply ∷ []) ∷ [] ∷ [] ∷ [] ∷ (tpdo1 ∷ []) ∷ [])
  -- with 1800-5 = 0 at no tick
  pub never_elapses : Leave (good ++ event 0 ++ operating) (tick ∷ tick ∷ []) ([] ∷ [] ∷ [])
  pub counted_ticks : since (ticks_anew one) tick_counts node1 (good ++ tick ∷ event3 ++ operating ++ tick ∷ tick ∷ []) 0 ≡ 2
  -- A due moment with a missing reading is passed over: the third tick; the sixth is the next.
  pub passed_over : Leave (good ++ event3 ++ operating) (tick ∷ tick ∷ sample Missing ∷ tick ∷ sample (Raw 7) ∷ tick ∷ tick ∷ tick ∷ [])
      ([] ∷ [] ∷ (emergency ∷ []) ∷ (emergency ∷ []) ∷ [] ∷ [] ∷ [] ∷ (tpdo1 ∷ []) ∷ [])
  -- the same for the second SYNC: the fourth is the next; and for entry, from which three ticks are counted
  pub sync_passed_over : Leave (good ++ second ++ operating) (sync ∷ sample Missing ∷ sync ∷ sample (Raw 7) ∷ sync ∷ sync ∷ [])
      ([] ∷ (emergency ∷ []) ∷ (emergency ∷ []) ∷ [] ∷ [] ∷ (tpdo2 ∷ []) ∷ [])
  pub due_and_missing : (n : Counts) → n.syncs two ≡ 1 → Due (after node1 lost_between) n sync two
  pub counted_to_it : since (syncs_anew two) synchronises node1 lost_between 0 ≡ 1
  pub entry_passed_over : Leave (missing ++ event3) (command 0x01 ∷ sample (Raw 7) ∷ slot ∷ tick ∷ tick ∷ tick ∷ [])
      ([] ∷ (emergency ∷ []) ∷ [] ∷ [] ∷ [] ∷ (tpdo1 ∷ []) ∷ [])
  -- Several joining in one call join in the order just given: the heartbeat, TPDO1 and TPDO2, at the hundredth tick.
  pub none_yet : waiting (after node1 (every100 ++ replicate 99 tick)).line ≡ []
  pub several : waiting (after node1 (every100 ++ replicate 100 tick)).line ≡ heartbeat ∷ tpdo1 ∷ tpdo2 ∷ []
  pub in_order : sent (after node1 (every100 ++ replicate 100 tick)) (slot ∷ slot ∷ slot ∷ slot ∷ [])
      ≡ frame 0x701 1 (0x05 ∷ [])
      ∷ frame 0x181 4 (0x07 ∷ 0x00 ∷ 0x00 ∷ 0x00 ∷ [])
      ∷ frame 0x281 4 (0x07 ∷ 0x00 ∷ 0x00 ∷ 0x00 ∷ [])
      ∷ []
  -- TPDO2, of type 2, joins at the second SYNC and at the fourth, and at no tick
  pub syncs : Leave (good ++ second ++ operating) (sync ∷ sync ∷ slot ∷ tick ∷ sync ∷ sync ∷ [])
      ([] ∷ (tpdo2 ∷ []) ∷ [] ∷ [] ∷ [] ∷ (tpdo2 ∷ []) ∷ [])
  -- counted from switching on, and from entry: an earlier SYNC does not count
  pub syncs_anew_law : Leave (good ++ second ++ operating ++ sync ∷ off2 ++ sync ∷ on2) (sync ∷ sync ∷ []) ([] ∷ (tpdo2 ∷ []) ∷ [])
  pub syncs_entered : Leave (good ++ second ++ operating ++ sync ∷ command 0x80 ∷ sync ∷ operating) (sync ∷ sync ∷ [])
      ([] ∷ (tpdo2 ∷ []) ∷ [])
  pub counted_syncs : since (syncs_anew two) synchronises node1 (good ++ sync ∷ second ++ operating ++ sync ∷ sync ∷ sync ∷ []) 0 ≡ 3
  -- a request gets its reply, a client's abort none
  pub replies : Leave good (request (bytes 0x80 0x04 0x60 0x00 0 0 0 0) ∷ request (bytes 0x40 0x04 0x60 0x00 0 0 0 0) ∷ [])
      ([] ∷ (sdo_reply ∷ []) ∷ [])
  -- the emergency announces missing, and then good; a reading that returns before the emergency is sent needs none
  pub alerts : Leave good (sample Missing ∷ sample (Raw 7) ∷ sample Missing ∷ slot ∷ sample (Raw 7) ∷ [])
      ((emergency ∷ []) ∷ [] ∷ (emergency ∷ []) ∷ [] ∷ (emergency ∷ []) ∷ [])
