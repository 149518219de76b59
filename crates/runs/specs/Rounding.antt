-- "Round the scaled count to nearest" (4/13) in numbers: runs of node 1 from power-up. The first meets the conditions of `ByEntries` of crate
-- promises.
use Rattle.std.specs.Prelude.{ℕ, ◌≡◌, List, [], ◌∷◌, ◌++◌}
use Rattle.can.specs.declared.Frame.{Frame}
use Rattle.can.specs.Number.{low_first}
use Rattle.sdo.specs.Worked.{bytes}
use Rattle.parts.specs.declared.Sensor.TheVariants.{Missing, Raw}
use Rattle.promises.specs.WaitingLine.{frame}
use Rattle.promises.specs.Calls.{Call, sample, slot}
use Rattle.promises.specs.Histories.{after}
use Rattle.promises.specs.Meant.{Writes}
use Rattle.promises.specs.Node1.{node1, to_node1, request, asks, writes, sync}
use Rattle.promises.specs.Worked.{missing, at, coarse}
use Rattle.promises.specs.Readings.{last_sample}
use Rattle.promises.specs.ByEntries.{Scale, ReadsScale, ScaledCount}
use Rattle.runs.specs.Joining.{operating}
use Rattle.runs.specs.Readings.{to40}
use Rattle.runs.specs.SyncFrames.{Send, shows1, shows2, written}

-- Pre-operational at the raw position r, scaling on, 6005h = 10,000
abbrev pub scaled_at : ℕ → List Call
scaled_at r = missing ++ at r ++ coarse

-- a read of 6509h
abbrev pub offset : List ℕ
offset = bytes 0x40 0x09 0x65 0x00 0 0 0 0

-- the reply to a read of 6004h
abbrev pub reads : ℕ → Frame
reads x = frame 0x581 8 (0x43 ∷ 0x04 ∷ 0x60 ∷ 0x00 ∷ low_first 4 x)

abbrev pub scale : Scale
scale = record { operating = 4; range = 1000000; step = 10000; offset = 0 }

pub record Rounding : Type 0 where
  -- P9 gives .. 4: r = 7 is 3.5 steps.
  pub scale_read : ReadsScale (after node1 (scaled_at 7)) scale
  pub sampled : last_sample Missing (scaled_at 7) ≡ Raw 7
  pub count : ScaledCount scale 7 4
  pub presets : Writes (after node1 (scaled_at 7)) (to_node1 to40) 0x6003_00 40
  -- Demand 2 reads the new count throughout: in a reply, in a frame of TPDO1 (type 254), in one of TPDO2 (type 1), and in a preset.
  pub in_reply : Send (scaled_at 7) (asks ∷ slot ∷ []) (reads 4 ∷ [])
  pub by_event : Send (scaled_at 7) operating (shows1 4 ∷ [])
  pub at_sync : Send (scaled_at 7 ++ operating) (sync ∷ sample (Raw 6) ∷ slot ∷ sync ∷ slot ∷ []) (shows2 4 ∷ shows2 3 ∷ [])
  -- 6003h = 40: 6509h is 36, and r = 6 reads 39
  pub in_preset : Send (scaled_at 7 ++ writes to40)
      (request offset ∷ slot ∷ sample (Raw 6) ∷ asks ∷ slot ∷ [])
      (frame 0x581 8 (bytes 0x43 0x09 0x65 0x00 36 0 0 0) ∷ reads 39 ∷ [])
  -- before mod T: 999.5 with T = 1,000 gives 0, and the preset 40 there is the offset 40
  pub before_range : Send (scaled_at 1998 ++ writes (bytes 0x23 0x02 0x60 0x00 0xE8 0x03 0 0))
      (asks ∷ slot ∷ sample (Raw 1999) ∷ asks ∷ slot ∷ writes to40 ++ request offset ∷ slot ∷ [])
      (reads 999 ∷ reads 0 ∷ written 0x03 0x60 0x00 ∷ frame 0x581 8 (bytes 0x43 0x09 0x65 0x00 40 0 0 0) ∷ [])
  -- direction 1 turns the rounded count: T − 1 − 4
  pub turned : Send (scaled_at 7 ++ writes (bytes 0x2B 0x00 0x60 0x00 0x0C 0 0 0)) (asks ∷ slot ∷ []) (reads 999995 ∷ [])
  -- with scaling off nothing changes: 6000h = 0, and 6005h is still 10,000
  pub scaling_off : Send (scaled_at 7 ++ writes (bytes 0x2B 0x00 0x60 0x00 0 0 0 0)) (asks ∷ slot ∷ []) (reads 7 ∷ [])
