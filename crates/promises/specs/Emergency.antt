-- The emergency, at every slot that sends it: what its eight bytes say, what then counts as announced, and how long the inhibit
-- time is. Stated from the last sample and the calls, for every list of calls from power-up. 01, chapter "The waiting line".
use Rattle.std.specs.Prelude.{ℕ, ◌+◌, ◌*◌, ◌<◌, ◌≤◌, ◌≡◌, ◌↔◌, Bool, true, false, cond, List}
use Rattle.can.specs.declared.Frame.{Frame}
use Rattle.parts.specs.declared.Head.{Head}
use Rattle.parts.specs.declared.Sensor.{Sensor}
use Rattle.parts.specs.declared.Sensor.TheVariants.{Missing, Raw}
use Rattle.promises.specs.WaitingLine.{emergency}
use Rattle.promises.specs.Calls.{Call, receive, tick, sample, slot, step, slot_answer, is_frame, frame_in}
use Rattle.promises.specs.Histories.{after, frames, PowerUp, powered}
use Rattle.promises.specs.Readings.{last_sample}
use Rattle.promises.specs.Parameters.{Reads}
use Rattle.promises.specs.Gap.{node_of, among, is_emergency, says_missing, says_good, is_command, resets}
use Rattle.promises.specs.Codes.{IsFirst}

-- Frame 80h+N, 8 bytes: 00 50 01 and five zeros for missing (code 5000h), eight zeros for good.
abbrev pub emergency_frame : ℕ → Sensor → Frame
emergency_frame n Missing = says_missing n
emergency_frame n (Raw r) = says_good n

-- the reading of a sample: good or missing
abbrev pub is_good : Sensor → Bool
is_good Missing = false
is_good (Raw r) = true

-- the slot answers a frame 80h+N
pub record Alerts (n : ℕ) (h : Head) : Type 0 where
  pub waited : is_frame (slot_answer h) ≡ true
  pub identifier : (frame_in (slot_answer h)).identifier ≡ 0x80 + n

-- for 1015h = v .. none if v = 0, else v/10 rounded up, plus 1, ticks: t − 1 is the least number whose tenfold is v or more
pub record Inhibits (v t : ℕ) : Type 0 where
  pub none : v ≡ 0 → t ≡ 0
  pub some : 0 < v → (tenths : ℕ) × (t ≡ tenths + 1) × (v ≤ tenths * 10) × (tenths * 10 < v + 10)

-- What counts as announced after a call, true for good; a is what counted before it, s the last sample.
abbrev pub announced_by : ℕ → Head → Sensor → Call → Bool → Bool
-- Both [resets] .. forget what was announced ("good" counts as announced).
announced_by n h s (receive f) a = cond (is_command n resets (receive f)) true a
announced_by n h s tick a = a
announced_by n h s (sample t) a = a
-- Sending it announces the present reading.
announced_by n h s slot a = cond (among (is_emergency n) (frames h slot)) (is_good s) a

pub record Emergency (p : PowerUp) (cs : List Call) : Type 0 where
  -- A slot sends the first: a frame 80h+N leaves exactly when the emergency is first.
  pub leaves : let h = after (powered p) cs in IsFirst emergency h ↔ Alerts (node_of p) h
  -- Its bytes say the present reading,
  pub says : let h = after (powered p) cs in Alerts (node_of p) h
      → frame_in (slot_answer h) ≡ emergency_frame (node_of p) (last_sample Missing cs)
  -- and exactly that then counts as announced, whatever 1015h holds.
  pub announces : let h = after (powered p) cs in Alerts (node_of p) h → (step h slot).core.announced ≡ is_good (last_sample Missing cs)
  -- Sending starts the inhibit time: for 1015h = v ..
  pub inhibits : let h = after (powered p) cs in Alerts (node_of p) h
      → (v : ℕ) × Reads h 0x1015 0 v × Inhibits v (step h slot).core.timers.inhibit
  -- Power-up: "good" counted as announced. Apart from sending, only a reset changes it.
  pub good_at_first : (powered p).core.announced ≡ true
  pub announced : let h = after (powered p) cs in (c : Call)
      → (step h c).core.announced ≡ announced_by (node_of p) h (last_sample Missing cs) c h.core.announced
