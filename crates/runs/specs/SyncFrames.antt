-- "A SYNC frame belongs to its SYNC" (2/13) in numbers: runs of node 1 from power-up. TPDO2 is of type 1, as at the factory, where nothing
-- else is said. Two of the runs meet the conditions of `SyncFrames` of crate promises.
use Rattle.std.specs.Prelude.{ℕ, ◌≡◌, List, [], ◌∷◌, ◌++◌}
use Rattle.can.specs.declared.Frame.{Frame}
use Rattle.can.specs.Number.{low_first}
use Rattle.sdo.specs.Worked.{bytes}
use Rattle.waiting.specs.Line.{emergency, sdo_reply}
use Rattle.parts.specs.declared.Sensor.TheVariants.{Missing, Raw}
use Rattle.promises.specs.States.{two}
use Rattle.promises.specs.WaitingLine.{frame}
use Rattle.promises.specs.Calls.{Call, sample, slot}
use Rattle.promises.specs.Histories.{after, sent, PowerUp, powered}
use Rattle.promises.specs.Gap.{says_missing}
use Rattle.promises.specs.SyncFrames.{Belongs, samples_and_syncs}
use Rattle.promises.specs.Node1.{node1, request, asks, writes, command, sync}
use Rattle.runs.specs.Joining.{Leave, good, operating, off1, on1, off2, second}

-- frames of TPDO1 and TPDO2 with the position x, and the reply to a write of the entry a b c
abbrev pub shows1 : ℕ → Frame
shows1 x = frame 0x181 4 (low_first 4 x)

abbrev pub shows2 : ℕ → Frame
shows2 x = frame 0x281 4 (low_first 4 x)

abbrev pub written : ℕ → ℕ → ℕ → Frame
written a b c = frame 0x581 8 (bytes 0x60 a b c 0 0 0 0)

-- After the first calls, the slots among the next calls send these frames.
abbrev pub Send : List Call → List Call → List Frame → Type 0
Send before cs fs = sent (after node1 before) cs ≡ fs

-- the position 7, Operational, TPDO1 sent
abbrev pub running : List Call
running = good ++ operating

-- a SYNC, a write before the slot that sends the frame, and a SYNC after it
abbrev pub around : List ℕ → List Call
around b = sync ∷ request b ∷ slot ∷ slot ∷ sync ∷ slot ∷ []

-- 6000h = 4: scaling on
abbrev pub scaled : ℕ → List Call
scaled r = good ++ writes (bytes 0x2B 0x00 0x60 0x00 0x04 0 0 0) ++ sample (Raw r) ∷ operating

-- TPDO1 of type 1 and TPDO2 of type 2
abbrev pub both : List Call
both = good ++ off1 ++ writes (bytes 0x2F 0x00 0x18 0x02 1 0 0 0) ++ on1 ++ second ++ command 0x01 ∷ []

-- one head has a slot after each SYNC, the other one after the next sample
abbrev pub often : List Call
often = sync ∷ slot ∷ sample (Raw 9) ∷ sync ∷ []

abbrev pub seldom : List Call
seldom = sync ∷ sample (Raw 9) ∷ sync ∷ sample (Raw 11) ∷ []

pub record FixedAtSync : Type 0 where
  -- For types 1 to 240 the position is now fixed when the frame joins,
  pub fixed : Send running (sync ∷ sample (Raw 9) ∷ slot ∷ []) (shows2 7 ∷ [])
  -- or anew at the next due SYNC if it still waits, the place being kept: before the reply.
  pub anew : Send running (sync ∷ asks ∷ sample (Raw 9) ∷ sync ∷ sample (Raw 11) ∷ slot ∷ slot ∷ [])
      (shows2 9 ∷ frame 0x581 8 (bytes 0x43 0x04 0x60 0x00 7 0 0 0) ∷ [])
  -- A missing sample no longer takes such a frame back; TPDO1, of type 254, goes.
  pub missing : Send (good ++ command 0x01 ∷ []) (sync ∷ sample Missing ∷ slot ∷ slot ∷ slot ∷ []) (shows2 7 ∷ says_missing 1 ∷ [])
  -- A due SYNC with a missing reading fixes nothing and withdraws nothing, and the frame leaves also after the gap.
  pub passed_over : Send running (sync ∷ sample Missing ∷ sync ∷ slot ∷ []) (shows2 7 ∷ [])
  pub found_again : Send running (sync ∷ sample Missing ∷ sync ∷ sample (Raw 9) ∷ slot ∷ []) (shows2 7 ∷ [])
  -- A SYNC that is not due fixes nothing: TPDO2 of type 2, at the third SYNC; at the fourth it is due again.
  pub not_due : Send (good ++ second ++ operating) (sync ∷ sync ∷ sample (Raw 9) ∷ sync ∷ slot ∷ []) (shows2 7 ∷ [])
  pub due_again : Send (good ++ second ++ operating) (sync ∷ sync ∷ sample (Raw 9) ∷ sync ∷ sync ∷ slot ∷ []) (shows2 9 ∷ [])
  -- Each PDO has its own: TPDO1 of type 1 is fixed anew at the third SYNC, TPDO2 of type 2 is not.
  pub each_its_own : Send both (sync ∷ sync ∷ sample (Raw 9) ∷ sync ∷ slot ∷ slot ∷ []) (shows1 9 ∷ shows2 7 ∷ [])
  -- Later writes do not change it: 6000h = 8 (1,048,575 − 7), 6003h = 40; with scaling on 6002h = 1,000 and 6005h = 10,000.
  pub direction : Send running (around (bytes 0x2B 0x00 0x60 0x00 0x08 0 0 0)) (shows2 7 ∷ written 0x00 0x60 0x00 ∷ shows2 1048568 ∷ [])
  pub preset : Send running (around (bytes 0x23 0x03 0x60 0x00 40 0 0 0)) (shows2 7 ∷ written 0x03 0x60 0x00 ∷ shows2 40 ∷ [])
  pub range : Send (scaled 2007) (around (bytes 0x23 0x02 0x60 0x00 0xE8 0x03 0 0)) (shows2 2007 ∷ written 0x02 0x60 0x00 ∷ shows2 7 ∷ [])
  pub step : Send (scaled 7) (around (bytes 0x23 0x05 0x60 0x01 0x10 0x27 0 0)) (shows2 7 ∷ written 0x05 0x60 0x01 ∷ shows2 4 ∷ [])
  -- Leaving Operational, entering Stopped, a reset and switching off take it back, also in a gap.
  pub taken_back : Leave (running ++ sync ∷ []) (command 0x80 ∷ []) ([] ∷ [])
      × Leave (running ++ sync ∷ []) (command 0x02 ∷ []) ([] ∷ [])
      × Leave (running ++ sync ∷ []) (command 0x81 ∷ []) ([] ∷ [])
      × Leave (running ++ sync ∷ []) (command 0x82 ∷ []) ([] ∷ [])
      × Leave (running ++ sync ∷ []) off2 ((sdo_reply ∷ []) ∷ [] ∷ [])
  pub taken_back_missing : Leave (running ++ sync ∷ sample Missing ∷ []) (command 0x80 ∷ []) ((emergency ∷ []) ∷ [])
      × Leave (running ++ sync ∷ sample Missing ∷ []) (command 0x02 ∷ []) ([] ∷ [])
      × Leave (running ++ sync ∷ sample Missing ∷ []) (command 0x81 ∷ []) ([] ∷ [])
  -- Two heads given the same samples and SYNCs send equal positions for the same SYNC, the second.
  pub given_alike : samples_and_syncs (often ++ slot ∷ sample (Raw 11) ∷ []) ≡ samples_and_syncs (seldom ++ slot ∷ [])
  pub each_slot : Send running (often ++ slot ∷ []) (shows2 7 ∷ shows2 9 ∷ [])
  pub one_slot : Send running (seldom ++ slot ∷ []) (shows2 9 ∷ [])
  pub first_head : (p : PowerUp) → powered p ≡ node1 → Belongs p (running ++ often) two
  pub second_head : (p : PowerUp) → powered p ≡ node1 → Belongs p (running ++ seldom) two
