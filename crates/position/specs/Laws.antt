-- Laws for every valid profile and every raw count: the position, the direction, the preset; and which profiles are valid.
-- 01, chapter "Position", and change request 4/13, in plain numbers: bit 2 of v is v / 4 % 2, bit 3 is v / 8 % 2.
use Rattle.std.specs.Prelude.{ℕ, ◌+◌, ◌*◌, ◌-◌, ◌/◌, ◌%◌, ◌≤◌, ◌<◌, ◌^◌, eqb, ℤ, pos, ◌+ℤ◌, ◌*ℤ◌, nat_abs, ◌≡◌, ◌↔◌, true, false, cond}
use Rattle.position.specs.declared.Profile.{Profile}
use Rattle.position.specs.Position.{bit, scaling_bit, direction_bit, scaled_count, count, directed, position, preset_to}
use Rattle.position.specs.Profile.{highest_raw, scaled_range, full_range, ValidProfile}

-- bit k counts 2 to the k; Scaling is 6000h bit 2, Direction bit 3
pub record Bits (v : ℕ) : Type 0 where
  pub set : (k : ℕ) → v / 2 ^ k % 2 ≡ 1 → bit k v ≡ true
  pub clear : (k : ℕ) → v / 2 ^ k % 2 ≡ 0 → bit k v ≡ false
  pub scaling : (v / 4 % 2 ≡ 1 → bit scaling_bit v ≡ true) × (v / 4 % 2 ≡ 0 → bit scaling_bit v ≡ false)
  pub direction : (v / 8 % 2 ≡ 1 → bit direction_bit v ≡ true) × (v / 8 % 2 ≡ 0 → bit direction_bit v ≡ false)

pub record Ranges : Type 0 where
  -- 3: raw sample above 1,048,575
  pub highest : highest_raw ≡ 1048575
  -- T, to 1,000,000 with scaling and 1,048,576 without
  pub with_scaling : scaled_range ≡ 1000000
  pub without : full_range ≡ 1048576
  -- a profile is valid exactly if its numbers are those that the entries 6000h to 6005h and 6509h can have
  pub valid : (p : Profile) → ValidProfile p
      ↔ ((p.operating ≡ p.operating / 4 % 2 * 4 + p.operating / 8 % 2 * 8)
      × (p.operating / 4 % 2 ≡ 0 → p.range ≡ 1048576)
      × (p.operating / 4 % 2 ≡ 1 → (1000 ≤ p.range) × (p.range ≤ 1000000))
      × (p.preset < p.range)
      × (5000 ≤ p.step)
      × (p.step ≤ 1000000)
      × (nat_abs p.offset < p.range))

-- How far apart two numbers are.
abbrev pub apart : ℕ → ℕ → ℕ
apart a b = (a - b) + (b - a)

-- s is the nearest whole number to n / m, halves upward: no whole number k is nearer, and of two that are as near s is the upper one.
pub record Nearest (n m s : ℕ) : Type 0 where
  pub nearest : (k : ℕ) → apart (s * m) n ≤ apart (k * m) n
  pub upper : (k : ℕ) → apart (k * m) n ≡ apart (s * m) n → k ≤ s

-- The same by half steps: |2 m s − 2 n| ≤ m, and a half goes upward.
pub record Rounded (n m s : ℕ) : Type 0 where
  pub half_a_step : apart (2 * m * s) (2 * n) ≤ m
  pub upward : (k : ℕ) → 2 * n ≡ 2 * m * k + m → s ≡ k + 1

-- n differs from d + offset by a multiple of T
abbrev pub Agrees : Profile → ℕ → ℕ → Type 0
Agrees p r n = (k : ℤ) × (pos n ≡ pos (directed p r) +ℤ p.offset +ℤ k *ℤ pos p.range)

pub record Positions (p : Profile) (r : ℕ) : Type 0 where
  -- Scaling off: s = r;
  pub unscaled : p.operating / 4 % 2 ≡ 0 → scaled_count p r ≡ r
  -- on: s is the nearest whole number, halves upward, to r × 5,000 divided by 6005h,
  pub scaled : p.operating / 4 % 2 ≡ 1 → Nearest (r * 5000) p.step (scaled_count p r)
  -- at most half a step away,
  pub rounded : p.operating / 4 % 2 ≡ 1 → Rounded (r * 5000) p.step (scaled_count p r)
  -- (and in plain inequalities: at most half a step above r × 5,000, and less than half a step below)
  pub by_halves : p.operating / 4 % 2 ≡ 1
      → (2 * (scaled_count p r * p.step) ≤ 2 * (r * 5000) + p.step) × (2 * (r * 5000) < 2 * (scaled_count p r * p.step) + p.step)
  -- and the only such number
  pub nearest_only : p.operating / 4 % 2 ≡ 1 → (s : ℕ) → Nearest (r * 5000) p.step s → s ≡ scaled_count p r
  pub rounded_only : p.operating / 4 % 2 ≡ 1 → (s : ℕ) → Rounded (r * 5000) p.step s → s ≡ scaled_count p r
  -- c is below T, and is s minus a multiple of T
  pub count_below : count p r < p.range
  pub counted : (k : ℕ) × (scaled_count p r ≡ count p r + k * p.range)
  -- Direction 0: d = c; 1: d and c add up to T − 1
  pub straight : p.operating / 8 % 2 ≡ 0 → directed p r ≡ count p r
  pub inverted : p.operating / 8 % 2 ≡ 1 → directed p r + count p r + 1 ≡ p.range
  pub directed_below : directed p r < p.range
  pub below : position p r < p.range
  -- the position is the one number below T that differs from d + offset by a multiple of T (`agrees` says it without the word `Agrees`)
  pub agrees : (k : ℤ) × (pos (position p r) ≡ pos (directed p r) +ℤ p.offset +ℤ k *ℤ pos p.range)
  pub only : (n : ℕ) → n < p.range → Agrees p r n → n ≡ position p r
  -- without an offset it is d
  pub plain : p.offset ≡ pos 0 → position p r ≡ directed p r
  -- the position depends on the raw count only through c
  pub by_count : (q : ℕ) → count p q ≡ count p r → position p q ≡ position p r

-- 6000h with bit 3 inverted
abbrev pub turned : Profile → Profile
turned p =
    record {
      operating = cond (eqb (p.operating / 8 % 2) 1) (p.operating - 8) (p.operating + 8);
      range = p.range;
      preset = p.preset;
      step = p.step;
      offset = p.offset;
    }

pub record Mirrors (p : Profile) (r : ℕ) : Type 0 where
  pub over : (turned p).operating / 8 % 2 ≡ 1 - p.operating / 8 % 2
  pub same : (turned p).operating / 4 % 2 ≡ p.operating / 4 % 2
  pub valid : ValidProfile (turned p)
  -- d becomes T − 1 − d
  pub directed_turned : directed (turned p) r ≡ p.range - 1 - directed p r
  -- without scaling: the head reads from the other end, for any offset
  pub other_end : p.operating / 4 % 2 ≡ 0 → r < p.range → position (turned p) r ≡ position p (p.range - 1 - r)

-- Accepted 6003h = v: offset becomes v − d at the present sample, between −(T−1) and T−1, so the position reads v.
pub record Presets (p : Profile) (r v : ℕ) : Type 0 where
  -- d + offset is v itself: the offset is not taken modulo T
  pub exact : pos (directed p r) +ℤ (preset_to p r v).offset ≡ pos v
  pub within : nat_abs (preset_to p r v).offset < p.range
  pub reads : position (preset_to p r v) r ≡ v
  pub valid : ValidProfile (preset_to p r v)
  -- 6003h reads v; 6000h, 6002h and 6005h stay
  pub kept : (preset_to p r v).preset ≡ v
  pub others : ((preset_to p r v).operating ≡ p.operating) × ((preset_to p r v).range ≡ p.range) × ((preset_to p r v).step ≡ p.step)

pub record Laws : Type 0 where
  pub bits : (v : ℕ) → Bits v
  pub ranges : Ranges
  pub positions : (p : Profile) (r : ℕ) → ValidProfile p → Positions p r
  pub mirrors : (p : Profile) (r : ℕ) → ValidProfile p → Mirrors p r
  pub presets : (p : Profile) (r v : ℕ) → ValidProfile p → v < p.range → Presets p r v
