-- Which values the profile part of the settings can have.
-- 01, chapter "Entries", rows 6000h to 6005h, and the ranges of T and the offset in chapter "Position".
use Rattle.std.specs.Prelude.{ℕ, suc, ◌%◌, ◌≤◌, ◌<◌, nat_abs, ◌≡◌, true, false}
use Rattle.position.specs.declared.Profile.{Profile}
use Rattle.position.specs.Position.{bit, scaling_bit}

-- The highest raw position: a sample above it is refused with 3.
abbrev pub highest_raw : ℕ
highest_raw = 1048575

-- Any accepted write of 6000h sets T, to 1,000,000 with scaling
abbrev pub scaled_range : ℕ
scaled_range = 1000000

-- and 1,048,576 without: as many as there are raw positions.
abbrev pub full_range : ℕ
full_range = suc highest_raw

pub record ValidProfile (p : Profile) : Type 0 where
  -- 6000h: only bits 2 and 3 may be set
  pub bits_low : p.operating % 4 ≡ 0
  pub bits_high : p.operating < 16
  -- 6002h: 1,048,576; 1,000..1,000,000
  pub low : 1000 ≤ p.range
  pub high : p.range ≤ full_range
  -- it cannot be written with scaling off
  pub full : bit scaling_bit p.operating ≡ false → p.range ≡ full_range
  pub scaled : bit scaling_bit p.operating ≡ true → p.range ≤ scaled_range
  -- 6003h: below 6002h
  pub preset : p.preset < p.range
  -- 6005-1: 5,000..1,000,000
  pub step_low : 5000 ≤ p.step
  pub step_high : p.step ≤ 1000000
  -- 6509h: between −(T−1) and T−1
  pub offset : nat_abs p.offset < p.range
