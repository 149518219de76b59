-- The position for a raw count, and what a preset does to the profile.
-- 01, chapter "Position", sentence by sentence: s (rounded as change request 4/13 says), c, d, the position, the preset.
use Rattle.std.specs.Prelude.{ℕ, suc, ◌+◌, ◌-◌, ◌*◌, ◌/◌, ◌%◌, ◌^◌, eqb, ℤ, pos, negsuc, ◌+ℤ◌, ◌-ℤ◌, Bool, cond}
use Rattle.position.specs.declared.Profile.{Profile}

-- bit k of v
abbrev pub bit : ℕ → ℕ → Bool
bit k v = eqb (v / 2 ^ k % 2) 1

-- 6000h: Scaling is bit 2, Direction bit 3 (sources 000 and 003).
abbrev pub scaling_bit : ℕ
scaling_bit = 2

abbrev pub direction_bit : ℕ
direction_bit = 3

-- Raw r counts 5,000 nm steps.
abbrev pub raw_step : ℕ
raw_step = 5000

-- The nearest whole number to r × 5,000 / m, halves upward (4/13): r × 5,000 / m plus one half, rounded down.
abbrev pub measuring_steps : ℕ → ℕ → ℕ
measuring_steps r m = (2 * r * raw_step + m) / (2 * m)

-- Scaling off: s = r; on: s = r × 5,000 divided by 6005h, rounded to the nearest, halves upward.
abbrev pub scaled_count : Profile → ℕ → ℕ
scaled_count p r = cond (bit scaling_bit p.operating) (measuring_steps r p.step) r

-- T is 6002h. c = s mod T.
abbrev pub count : Profile → ℕ → ℕ
count p r = scaled_count p r % p.range

-- Direction 0: d = c; 1: d = T − 1 − c.
abbrev pub directed : Profile → ℕ → ℕ
directed p r = cond (bit direction_bit p.operating) (p.range - 1 - count p r) (count p r)

-- z mod t, never negative
abbrev pub modℤ : ℤ → ℕ → ℕ
modℤ (pos n) t = n % t
modℤ (negsuc n) t = t - suc (n % t)

-- Position = (d + offset) mod T, never negative.
abbrev pub position : Profile → ℕ → ℕ
position p r = modℤ (pos (directed p r) +ℤ p.offset) p.range

-- Accepted 6003h = v: offset becomes v − d at the present sample.
abbrev pub preset_to : Profile → ℕ → ℕ → Profile
preset_to p r v =
    record { operating = p.operating; range = p.range; preset = v; step = p.step; offset = pos v -ℤ pos (directed p r) }
