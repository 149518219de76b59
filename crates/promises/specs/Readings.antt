-- What 6004h, 1001h, 6503h and the position frames show of the samples, over any sequence of calls: demand 2's "a
-- position is the exact result of scaling, direction, preset and range". 01, chapters "Entries" and "Position".
use Rattle.std.specs.Prelude.{ℕ, eqb, ltb, ◌≡◌, ◌↔◌, Bool, true, false, ◌||◌, cond, List, [], ◌∷◌, None as Blank, Some as Number}
use Rattle.std.proofs.Math.Option.{Option, some}
use Rattle.can.specs.declared.Frame.{Frame}
use Rattle.can.specs.declared.Received.{Received}
use Rattle.can.specs.Number as bytes
use Rattle.can.specs.Number.{low_first}
use Rattle.position.specs.declared.Profile.{Profile}
use Rattle.position.specs.Position as formula
use Rattle.position.specs.Laws.{Positions, Mirrors}
use Rattle.entries.specs.declared.Reading.{Reading}
use Rattle.dictionary.specs.Shown.{Shown}
use Rattle.cases.specs.Tests.{within}
use Rattle.dictionary.specs.Reads.{reads}
use Rattle.dictionary.specs.Writes.{rescales}
use Rattle.sdo.specs.Request.{index_of, sub_of, reading}
use Rattle.sdo.specs.Service.{Due, value, abort}
use Rattle.cases.specs.Padded.{pad}
use Rattle.waiting.specs.Line.{first}
use Rattle.waiting.specs.Places.{waiting}
use Rattle.parts.specs.declared.Head.{Head}
use Rattle.parts.specs.declared.Sensor.{Sensor}
use Rattle.parts.specs.declared.Sensor.TheVariants.{Missing, Raw}
use Rattle.promises.specs.States.{operational, is_in, communication, good, missing_reading, PdoNumber, pdo, of_node, to_reset}
use Rattle.promises.specs.Timers.{OnEvents}
use Rattle.promises.specs.WaitingLine.{tpdo, number}
use Rattle.promises.specs.Calls.{Call, receive, tick, sample, slot, bad_sample, step, slot_answer, is_frame, frame_in}
use Rattle.promises.specs.Meant.{Commands, due_to, Writes}
use Rattle.promises.specs.Histories.{after}

-- What the entry i-j of a head reads; none if there is no such entry.
abbrev pub reads_in : Head → ℕ → ℕ → Option Shown
reads_in h i j = reads h.core.device (is_in operational h.core) i j

abbrev pub profile_of : Head → Profile
profile_of h = h.core.device.settings.profile

-- The last sample that was taken; s before the calls. 3: a raw sample above 1,048,575 is refused, and leaves the head unchanged.
abbrev pub sample_by : Sensor → Call → Sensor
sample_by s (receive f) = s
sample_by s tick = s
sample_by s (sample Missing) = Missing
sample_by s (sample (Raw r)) = cond (ltb 1048575 r) s (Raw r)
sample_by s slot = s

abbrev pub last_sample : Sensor → List Call → Sensor
last_sample s [] = s
last_sample s (c ∷ cs) = last_sample (sample_by s c) cs

abbrev pub reading_of : Sensor → Reading
reading_of Missing = missing_reading
reading_of (Raw r) = record { good = true; raw = r }

-- 6004-0: position; blank while missing
abbrev pub shown_position : Profile → Sensor → Shown
shown_position p Missing = Blank
shown_position p (Raw r) = Number (formula.position p r)

-- 1001-0: 1 while missing, else 0. 6503-0, bit 0: as 1001
abbrev pub shown_register : Sensor → Shown
shown_register Missing = Number 1
shown_register (Raw r) = Number 0

-- what is due to a read of an entry with this number of bytes. 7. read of a blank: 0800 0024h
abbrev pub due_shown : ℕ → Shown → Due
due_shown width Blank = abort 0x08000024
due_shown width (Number n) = value width n

-- For every sequence of calls from power-up; s is its last sample. Before the first it is missing, and 6004h is blank, not 0.
pub record Tells (h : Head) (s : Sensor) : Type 0 where
  pub reading_is : h.core.device.reading ≡ reading_of s
  -- the present reading (good or missing)
  pub is_good_law : (good h.core ≡ true) ↔ ((r : ℕ) × (s ≡ Raw r))
  pub position : reads_in h 0x6004 0 ≡ some (shown_position (profile_of h) s)
  pub blank : (reads_in h 0x6004 0 ≡ some Blank) ↔ (s ≡ Missing)
  pub register : reads_in h 0x1001 0 ≡ some (shown_register s)
  pub status : reads_in h 0x6503 0 ≡ some (shown_register s)
  pub asked : (f : Received) → reading f.bytes ≡ true → index_of f.bytes ≡ 0x6004 → sub_of f.bytes ≡ 0
      → due_to h f ≡ due_shown 4 (shown_position (profile_of h) s)

-- Accepted 6003h, and any accepted write of 6000h, 6002h or 6005h
abbrev pub repositions : ℕ → Bool
repositions k = rescales k || eqb k 0x6003_00

-- What can alter what 6004h reads: a sample that is taken, one of these writes, and 81h, which sets all settings to the saved set.
pub data Moves (h : Head) : Call → Type 0 where
  samples : (s : Sensor) → bad_sample s ≡ false → Moves h (sample s)
  writes : (f : Received) (k v : ℕ) → Writes h f k v → repositions k ≡ true → Moves h (receive f)
  resets : (f : Received) → Commands h f (to_reset of_node) → Moves h (receive f)

-- none of the calls can
abbrev pub Unmoved : Head → List Call → Type 0
Unmoved h [] = Unit {0}
Unmoved h (c ∷ cs) = (Moves h c → ⊥) × Unmoved (step h c) cs

-- TPDO: 4 bytes, the position, low byte first.
pub record Carries (h : Head) (f : Frame) : Type 0 where
  pub which : PdoNumber
  pub is_first : first (waiting h.line) ≡ number (tpdo which)
  pub identifier : f.identifier ≡ (pdo (communication h.core) which).identifier
  pub length : f.length ≡ 4
  pub position : ℕ
  -- Types 254 and 255: the position at the slot, exactly the one that 6004h reads. (Types 1 to 240: specs/SyncFrames.antt.)
  pub reads_it : OnEvents (pdo (communication h.core) which) → reads_in h 0x6004 0 ≡ some (Number position)
  pub its_bytes : f.bytes ≡ pad 8 (low_first 4 position)
  pub whole : bytes.number (low_first 4 position) ≡ position

-- For every reachable head.
pub record Positioned (h : Head) : Type 0 where
  -- Position = (d + offset) mod T, never negative: the one number below T that differs from d + offset by a multiple of T
  pub formula : (r : ℕ) → Positions (profile_of h) r
  -- Direction 0: d = c; 1: d = T − 1 − c
  pub mirrors : (r : ℕ) → Mirrors (profile_of h) r
  -- Accepted 6003h = p: .. so the position reads p,
  pub presets : (f : Received) (v : ℕ) → Writes h f 0x6003_00 v → reads_in (step h (receive f)) 0x6004 0 ≡ some (Number v)
  -- and goes on reading it until a call alters it
  pub stays : (cs : List Call) → Unmoved h cs → reads_in (after h cs) 0x6004 0 ≡ reads_in h 0x6004 0
  -- Every frame with an identifier in 181h..57Fh carries a position.
  pub carries : is_frame (slot_answer h) ≡ true → within 0x181 0x57F (frame_in (slot_answer h)).identifier ≡ true
      → Carries h (frame_in (slot_answer h))
