-- What each entry reads, for every device, Operational or not. These laws check
-- specs/Reads and the last columns of the table in crate entries. 01, chapter "Entries".
use Rattle.std.specs.Prelude.{ℕ, suc, ◌+◌, ◌-◌, ◌≤◌, ◌<◌, pos, negsuc, ◌≡◌, Bool, true, false, List, [], ◌∷◌, Ok as At, None as Blank, Some as Number}
use Rattle.position.specs.Position.{position}
use Rattle.entries.specs.declared.Device.{Device}
use Rattle.entries.specs.declared.table.Row.{Row}
use Rattle.entries.specs.Table.{lookup}
use Rattle.dictionary.specs.Reads.{shown}
use Rattle.dictionary.specs.Laws.{Shows}

-- Index, sub-index, and the number of an entry that is never blank.
abbrev pub numbers : Device → List (ℕ × ℕ × ℕ)
numbers d =
    let communication = d.settings.communication in
    let profile = d.settings.profile in
    (0x1000, 0, 0x00080196) ∷
    -- count 0..4
    (0x1003, 0, d.errors) ∷
    (0x1005, 0, 0x80) ∷
    -- the size of each name
    (0x1008, 0, d.identity.name.length) ∷
    (0x1009, 0, d.identity.hardware.length) ∷
    (0x100A, 0, d.identity.software.length) ∷
    (0x1010, 0, 1) ∷
    -- read 1
    (0x1010, 1, 1) ∷
    (0x1011, 0, 1) ∷
    (0x1011, 1, 1) ∷
    (0x1014, 0, communication.emergency) ∷
    (0x1015, 0, communication.inhibit) ∷
    (0x1017, 0, communication.heartbeat) ∷
    -- 4; identity
    (0x1018, 0, 4) ∷
    (0x1018, 1, d.identity.vendor) ∷
    (0x1018, 2, d.identity.product) ∷
    (0x1018, 3, d.identity.revision) ∷
    (0x1018, 4, d.identity.serial) ∷
    (0x1800, 0, 5) ∷
    (0x1800, 1, communication.pdo1.identifier) ∷
    (0x1800, 2, communication.pdo1.transmission) ∷
    (0x1800, 5, communication.pdo1.event) ∷
    (0x1801, 0, 5) ∷
    (0x1801, 1, communication.pdo2.identifier) ∷
    (0x1801, 2, communication.pdo2.transmission) ∷
    (0x1801, 5, communication.pdo2.event) ∷
    (0x1A00, 0, 1) ∷
    (0x1A00, 1, 0x60040020) ∷
    (0x1A01, 0, 1) ∷
    (0x1A01, 1, 0x60040020) ∷
    (0x6000, 0, profile.operating) ∷
    (0x6002, 0, profile.range) ∷
    (0x6003, 0, profile.preset) ∷
    (0x6005, 0, 1) ∷
    (0x6005, 1, profile.step) ∷
    -- 1800-5 under a second index
    (0x6200, 0, communication.pdo1.event) ∷
    -- 5,000 (nm)
    (0x6501, 0, 5000) ∷
    (0x6504, 0, 1) ∷
    []

-- Each of these entries reads its number.
abbrev pub ShowEach : Device → Bool → List (ℕ × ℕ × ℕ) → Type 0
ShowEach d o [] = Unit {0}
ShowEach d o (l ∷ ls) = Shows d o l.0 l.1 (Number l.2) × ShowEach d o ls

pub record EachReads (d : Device) (o : Bool) : Type 0 where
  -- what the row of an entry shows is what the entry reads
  pub stands : (i j : ℕ) (r : Row) → lookup i j ≡ At r → Shows d o i j (shown d o r)
  pub plain : ShowEach d o (numbers d)
  -- 1001-0: 1 while missing, else 0; 6503-0: bit 0: as 1001; 6004-0: position; blank while missing
  pub missing : d.reading.good ≡ false → Shows d o 0x1001 0 (Number 1) × Shows d o 0x6503 0 (Number 1) × Shows d o 0x6004 0 Blank
  pub good : d.reading.good ≡ true
      → Shows d o 0x1001 0 (Number 0)
      × Shows d o 0x6503 0 (Number 0)
      × Shows d o 0x6004 0 (Number (position d.settings.profile d.reading.raw))
  -- 1003-1..4: 0000 5000h per good-to-missing change; beyond the count they are blank
  pub counted : (k : ℕ) → 1 ≤ k → k ≤ 4 → k ≤ d.errors → Shows d o 0x1003 k (Number 0x5000)
  pub beyond : (k : ℕ) → 1 ≤ k → k ≤ 4 → d.errors < k → Shows d o 0x1003 k Blank
  -- 6500-0: the value of entry 6000-0, plus bit 15 when Operational
  pub status : o ≡ false → Shows d o 0x6500 0 (Number d.settings.profile.operating)
  pub status_operational : o ≡ true → Shows d o 0x6500 0 (Number (d.settings.profile.operating + 0x8000))
  -- 6509-0: S32, offset
  pub offset : (n : ℕ) → d.settings.profile.offset ≡ pos n → Shows d o 0x6509 0 (Number n)
  pub offset_negative : (n : ℕ) → d.settings.profile.offset ≡ negsuc n → Shows d o 0x6509 0 (Number (0x100000000 - suc n))

abbrev pub ReadLaws : Type 0
ReadLaws = (d : Device) (o : Bool) → EachReads d o
