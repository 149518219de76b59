-- Examples worked by hand.
-- 01, chapter "Worked numbers", P7 to P10 (P9 as in 4/13), and others from the sentences of chapter "Position".
use Rattle.std.specs.Prelude.{ℕ, pos, negsuc, ◌≡◌}
use Rattle.position.specs.declared.Profile.{Profile}
use Rattle.position.specs.Position.{position, preset_to}
use Rattle.position.specs.Profile.{ValidProfile}

-- 6000h = m, 6002h = t, 6005h = s, without a preset
abbrev pub profile : ℕ → ℕ → ℕ → Profile
profile m t s = record { operating = m; range = t; preset = 0; step = s; offset = pos 0 }

abbrev pub factory : Profile
factory = profile 0 1048576 5000

-- r = 100, preset 40
abbrev pub preset40 : Profile
preset40 = preset_to factory 100 40

pub record Worked : Type 0 where
  pub p7 : position factory 69637 ≡ 69637
  -- inverted, scaling off
  pub p8 : position (profile 8 1048576 5000) 0 ≡ 1048575
  -- scaling on, 6005h = 10,000
  pub p9 : (position (profile 4 1000000 10000) 6 ≡ 3) × (position (profile 4 1000000 10000) 7 ≡ 4)
  -- a step of 1 mm: 0.495, 0.5, 1.495 and 1.5 steps
  pub halves : (position (profile 4 1000000 1000000) 99 ≡ 0)
      × (position (profile 4 1000000 1000000) 100 ≡ 1)
      × (position (profile 4 1000000 1000000) 299 ≡ 1)
      × (position (profile 4 1000000 1000000) 300 ≡ 2)
  -- an odd step has no halves: 5,000 divided by 10,001 and by 9,999
  pub odd : (position (profile 4 1000000 10001) 1 ≡ 0) × (position (profile 4 1000000 9999) 1 ≡ 1)
  -- rounded before mod T: 999 and 999.5 with T = 1,000
  pub before_range : (position (profile 4 1000 10000) 1998 ≡ 999)
      × (position (profile 4 1000 10000) 1999 ≡ 0)
      × (position (profile 12 1000 10000) 1999 ≡ 999)
      × ((preset_to (profile 4 1000 10000) 1999 40).offset ≡ pos 40)
  -- scaling off, 6005h = 10,000
  pub off : position (profile 0 1048576 10000) 7 ≡ 7
  -- a preset goes by the same d: 3.5 gives 4
  pub preset_at_half : ((preset_to (profile 4 1000000 10000) 7 40).offset ≡ pos 36)
      × ((preset_to (profile 12 1000000 10000) 7 0).offset ≡ negsuc 999994)
  -- r = 100, preset 40: 6509h is −60; then r = 50 reads 1,048,566
  pub p10 : (preset40.offset ≡ negsuc 59) × (position preset40 50 ≡ 1048566)
  pub p10_reads : (position preset40 100 ≡ 40) × (position preset40 60 ≡ 0) × (position preset40 1048575 ≡ 1048515)
  -- T is less than the raw counts: the position wraps
  pub over : (position (profile 4 1000000 5000) 1000000 ≡ 0) × (position (profile 4 1000000 5000) 1048575 ≡ 48575)
  pub over_short : position (profile 4 1000 5000) 69637 ≡ 637
  -- scaling on and inverted
  pub far_end : (position (profile 12 1000000 5000) 0 ≡ 999999) × (position (profile 12 1000000 5000) 1000000 ≡ 999999)
  -- 5,242.875
  pub coarse : position (profile 4 1000000 1000000) 1048575 ≡ 5243
  pub coarse_inverted : position (profile 12 1000 1000000) 1048575 ≡ 756
  -- the largest preset at the smallest d, and the smallest at the largest
  pub most : ((preset_to (profile 4 1000 5000) 0 999).offset ≡ pos 999) × (position (preset_to (profile 4 1000 5000) 0 999) 1 ≡ 0)
  pub least : ((preset_to (profile 4 1000 5000) 999 0).offset ≡ negsuc 998) × (position (preset_to (profile 4 1000 5000) 999 0) 0 ≡ 1)
  -- measured from d, not from the position: a second preset replaces the first
  pub again : ((preset_to preset40 100 140).offset ≡ pos 40) × (position (preset_to preset40 100 140) 50 ≡ 90)
  pub factory_valid : ValidProfile factory
  pub scaled_valid : ValidProfile (profile 12 1000 1000000)
