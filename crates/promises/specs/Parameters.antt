-- Each setting is what its entry reads, in every head. So a theorem about a setting is one about 1014h, 1015h,
-- 1017h, sub 1, 2 or 5 of a PDO, or 6000h to 6509h. 01, chapters "Entries", "The waiting line" and "Position".
use Rattle.std.specs.Prelude.{ℕ, ◌<◌, ◌≤◌, ◌≡◌, ◌↔◌, true, Some as Number}
use Rattle.std.proofs.Math.Option.{some}
use Rattle.can.specs.Signed.{twos}
use Rattle.dictionary.specs.Accepted.{on}
use Rattle.parts.specs.declared.Head.{Head}
use Rattle.promises.specs.States.{communication, PdoNumber, one, two, pdo}
use Rattle.promises.specs.Readings.{reads_in, profile_of}

-- the index of a PDO's parameters, 1800h or 1801h
abbrev pub parameters : PdoNumber → ℕ
parameters one = 0x1800
parameters two = 0x1801

-- The entry i-j of a head reads n.
abbrev pub Reads : Head → ℕ → ℕ → ℕ → Type 0
Reads h i j n = reads_in h i j ≡ some (Number n)

pub record Parameters (h : Head) : Type 0 where
  -- bit 31 of 1014h; 1015h = v; 1017h = H ms
  pub emergency : Reads h 0x1014 0 (communication h.core).emergency
  pub inhibit : Reads h 0x1015 0 (communication h.core).inhibit
  pub heartbeat : Reads h 0x1017 0 (communication h.core).heartbeat
  -- for each PDO: bit 31 of sub 1, its type, and sub 5 = E; 1800-5 under a second index
  pub identifier : (w : PdoNumber) → Reads h (parameters w) 1 (pdo (communication h.core) w).identifier
  pub transmission : (w : PdoNumber) → Reads h (parameters w) 2 (pdo (communication h.core) w).transmission
  pub event : (w : PdoNumber) → Reads h (parameters w) 5 (pdo (communication h.core) w).event
  pub cycle : Reads h 0x6200 0 (pdo (communication h.core) one).event
  pub operating : Reads h 0x6000 0 (profile_of h).operating
  pub range : Reads h 0x6002 0 (profile_of h).range
  pub preset : Reads h 0x6003 0 (profile_of h).preset
  pub step : Reads h 0x6005 1 (profile_of h).step
  -- S32
  pub offset : Reads h 0x6509 0 (twos (profile_of h).offset)
  -- switched on (bit 31 .. is 0), for numbers of 32 bits
  pub switched_on_law : (v : ℕ) → v ≤ 0xFFFFFFFF → (on v ≡ true) ↔ (v < 0x80000000)
