-- What a head does follows from what its entries read: the position, and what an accepted write makes of 6000h to 6509h, in plain numbers.
-- 01, chapters "Entries" and "Position", and change request 4/13.
use Rattle.std.specs.Prelude.{ℕ, ◌+◌, ◌-◌, ◌*◌, ◌/◌, ◌%◌, ◌≤◌, ◌<◌, eqb, ltb, ◌≡◌, true, cond, List, [], ◌∷◌}
use Rattle.std.proofs.Math.Option.{some}
use Rattle.can.specs.declared.Received.{Received}
use Rattle.position.specs.Laws.{Nearest}
use Rattle.entries.specs.declared.table.Row.{Row}
use Rattle.entries.specs.Table.{width}
use Rattle.entries.specs.Laws.{Stands}
use Rattle.dictionary.specs.Shown.{Shown}
use Rattle.sdo.specs.Request.{index_of, sub_of, reading}
use Rattle.parts.specs.declared.Head.{Head}
use Rattle.parts.specs.declared.Sensor.TheVariants.{Missing, Raw}
use Rattle.promises.specs.Calls.{Call, receive, step}
use Rattle.promises.specs.Meant.{due_to, Writes}
use Rattle.promises.specs.Histories.{after, PowerUp, powered, Reachable}
use Rattle.promises.specs.Readings.{reads_in, last_sample, due_shown}
use Rattle.promises.specs.Codes.{All}
use Rattle.promises.specs.Parameters.{Reads}

-- What 6000-0, 6002-0, 6005-1 and 6509-0 read.
pub record Scale : Type 0 where
  pub operating : ℕ
  pub range : ℕ
  pub step : ℕ
  pub offset : ℕ

pub record ReadsScale (h : Head) (x : Scale) : Type 0 where
  pub operating : Reads h 0x6000 0 x.operating
  pub range : Reads h 0x6002 0 x.range
  pub step : Reads h 0x6005 1 x.step
  pub offset : Reads h 0x6509 0 x.offset

-- Raw r counts 5,000 nm steps. Scaling (6000h bit 2) off: s = r; on: s is the nearest whole number, halves upward, to r × 5,000 divided by 6005h.
pub record ScaledCount (x : Scale) (r s : ℕ) : Type 0 where
  pub off : x.operating / 4 % 2 ≡ 0 → s ≡ r
  pub on : x.operating / 4 % 2 ≡ 1 → Nearest (r * 5000) x.step s

-- T is 6002h. c = s mod T. Direction (bit 3 ..) 0: d = c; 1: d = T − 1 − c.
abbrev pub directed_by : Scale → ℕ → ℕ
directed_by x s = let c = s % x.range in cond (eqb (x.operating / 8 % 2) 1) (x.range - 1 - c) c

-- Position = (d + offset) mod T, never negative. 6509h is signed: from 8000 0000h on it is 2^32 less.
abbrev pub position_by : Scale → ℕ → ℕ
position_by x s =
    let d = directed_by x s in
    cond (ltb x.offset 0x80000000) ((d + x.offset) % x.range) ((d + (x.range - (0x100000000 - x.offset))) % x.range)

-- p − d, as 6509h reads it
abbrev pub offset_by : ℕ → ℕ → ℕ
offset_by p d = cond (ltb p d) (0x100000000 - (d - p)) (p - d)

pub record ByEntries : Type 0 where
  -- A read gets what the entry reads, in its bytes; 7. of a blank 0800 0024h.
  pub asked : (h : Head) (f : Received) (s : Shown) → let i = index_of f.bytes in let j = sub_of f.bytes in
      reading f.bytes ≡ true → reads_in h i j ≡ some s → (r : Row) × Stands r i j × (due_to h f ≡ due_shown (width r) s)
  -- The entries and a raw number give one scaled count, and no other,
  pub scaled_count_law : (h : Head) → Reachable h → (x : Scale) → ReadsScale h x → (r : ℕ)
      → (s : ℕ) × ScaledCount x r s × ((n : ℕ) → ScaledCount x r n → n ≡ s)
  -- and 6004-0 is the position, computed from it and the other entries
  pub position : (p : PowerUp) (cs : List Call) → let h = after (powered p) cs in (x : Scale) → ReadsScale h x → (r s : ℕ)
      → last_sample Missing cs ≡ Raw r → ScaledCount x r s → Reads h 0x6004 0 (position_by x s)
  -- A chart against a laser: with direction 0 and no offset, what 6004h reads times 6005h is at most half a step above r × 5,000 nm and
  -- less than half a step below, up to the last half step before T.
  pub half_a_step : (p : PowerUp) (cs : List Call) → let h = after (powered p) cs in (x : Scale) → ReadsScale h x → (r n : ℕ)
      → last_sample Missing cs ≡ Raw r → x.operating ≡ 4 → x.offset ≡ 0 → 2 * (r * 5000) + x.step < 2 * (x.range * x.step)
      → Reads h 0x6004 0 n → (2 * (n * x.step) ≤ 2 * (r * 5000) + x.step) × (2 * (r * 5000) < 2 * (n * x.step) + x.step)
  -- Accepted 6003h = p: offset becomes p − d at the present sample.
  pub presets : (p : PowerUp) (cs : List Call) → let h = after (powered p) cs in (x : Scale) → ReadsScale h x → (r s : ℕ)
      → last_sample Missing cs ≡ Raw r → ScaledCount x r s → (f : Received) (v : ℕ) → Writes h f 0x6003_00 v
      → Reads (step h (receive f)) 0x6509 0 (offset_by v (directed_by x s))
  -- The chapter "Position" in numbers alone, from what the entries read: s, c and d of the sample r; the position n with the offset z; and
  -- the offset z that an accepted 6003h = v leaves. T is t. 6509h is signed: from 8000 0000h on it is 2^32 less.
  pub plainly : (p : PowerUp) (cs : List Call) → let h = after (powered p) cs in (o t m r : ℕ)
      → Reads h 0x6000 0 o → Reads h 0x6002 0 t → Reads h 0x6005 1 m → last_sample Missing cs ≡ Raw r
      → (s : ℕ) × (c : ℕ) × (d : ℕ)
      × (o / 4 % 2 ≡ 0 → s ≡ r)
      × (o / 4 % 2 ≡ 1 → (2 * (s * m) ≤ 2 * (r * 5000) + m) × (2 * (r * 5000) < 2 * (s * m) + m))
      × (c < t)
      × ((k : ℕ) × (s ≡ c + k * t))
      × (o / 8 % 2 ≡ 0 → d ≡ c)
      × (o / 8 % 2 ≡ 1 → d + c + 1 ≡ t)
      × ((z n : ℕ) → Reads h 0x6509 0 z → Reads h 0x6004 0 n
      → (n < t) × ((k : ℕ) × (z < 0x80000000 → n + k * t ≡ d + z) × (0x80000000 ≤ z → n + k * t + 0x100000000 ≡ d + z + t)))
      × ((f : Received) (v z : ℕ) → Writes h f 0x6003_00 v → Reads (step h (receive f)) 0x6509 0 z
      → (d ≤ v → d + z ≡ v) × (v < d → d + z ≡ v + 0x100000000))
  -- Any accepted write of 6000h, 6002h or 6005h, also of an equal value, sets 6003h and the offset to 0;
  pub rescales : (h : Head) → Reachable h → (f : Received) (v : ℕ)
      → All (λ k. Writes h f k v → Reads (step h (receive f)) 0x6003 0 0 × Reads (step h (receive f)) 0x6509 0 0)
      (0x6000_00 ∷ 0x6002_00 ∷ 0x6005_01 ∷ [])
  -- of 6000h also T, to 1,000,000 with scaling and 1,048,576 without.
  pub ranges : (h : Head) → Reachable h → (f : Received) (v : ℕ) → Writes h f 0x6000_00 v
      → Reads (step h (receive f)) 0x6002 0 (cond (eqb (v / 4 % 2) 1) 1000000 1048576)
