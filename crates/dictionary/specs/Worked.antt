-- Examples at node 1 with factory settings: what entries read, which writes are aborted, and what writes do.
-- 01, chapters "Worked numbers", "Entries", "Position" and "Service requests".
use Rattle.std.specs.Prelude.{ℕ, ◌^◌, eqb, ltb, ◌≡◌, Bool, true, false, not, ◌&&◌, cond, List, [], ◌∷◌, Ok as At, Err, None as Blank, Some as Number}
use Rattle.std.proofs.Math.Option.{Option, none, some}
use Rattle.names.specs.Name.{named}
use Rattle.entries.specs.declared.Device.{Device}
use Rattle.entries.specs.declared.Identity.{Identity}
use Rattle.entries.specs.declared.table.Row.{Row}
use Rattle.entries.specs.Table.{Found, table, key, width, is_rw, lookup}
use Rattle.entries.specs.declared.table.NotFound.TheVariants.{NoSubIndex, NoIndex}
use Rattle.entries.specs.Settings.{factory}
use Rattle.dictionary.specs.Shown.{Shown}
use Rattle.dictionary.specs.Accepted.{abort_code}
use Rattle.dictionary.specs.Reads.{reads}
use Rattle.dictionary.specs.Writes.{written}
use Rattle.dictionary.specs.Valid.{ValidDevice}
use Rattle.dictionary.specs.Laws.{Shows}

-- node 1, identity 1, 2, 3, 4; its names are HEAD, 1 and 1
abbrev pub identity1 : Identity
identity1 =
    record {
      vendor = 1;
      product = 2;
      revision = 3;
      serial = 4;
      name = named (0x48 ∷ 0x45 ∷ 0x41 ∷ 0x44 ∷ []) 4;
      hardware = named (0x31 ∷ []) 1;
      software = named (0x31 ∷ []) 1;
    }

-- with that reading and count of errors
abbrev pub device : Bool → ℕ → ℕ → Device
device good raw errors =
    record {
      node = 1;
      identity = identity1;
      reading = record { good = good; raw = raw };
      errors = errors;
      settings = factory 1;
      saved = factory 1;
    }

-- as power-up leaves it: the reading missing
abbrev pub fresh : Device
fresh = device false 0 0

-- at the raw position r
abbrev pub at : ℕ → Device
at r = device true r 0

-- the same at another
abbrev pub moved_to : ℕ → Device → Device
moved_to r d =
    record {
      node = d.node;
      identity = d.identity;
      reading = record { good = true; raw = r };
      errors = d.errors;
      settings = d.settings;
      saved = d.saved;
    }

-- after writes, each of a key and a value
abbrev pub after : Device → List (ℕ × ℕ) → Device
after d [] = d
after d (w ∷ ws) = after (written d w.0 w.1) ws

-- Pre-operational, the entry i-j reads s.
abbrev pub Reads : Device → ℕ → ℕ → Shown → Type 0
Reads d i j s = Shows d false i j s

-- what the entry that is found answers to a write of v; none if none is found
abbrev pub abort_code_of : Device → ℕ → Found → Option ℕ
abort_code_of d v (At r) = some (abort_code d r v)
abort_code_of d v (Err NoSubIndex) = none
abort_code_of d v (Err NoIndex) = none

-- A write of v to the entry i-j is aborted with this code; 0: it is accepted.
abbrev pub Answers : Device → ℕ → ℕ → ℕ → ℕ → Type 0
Answers d i j v code = abort_code_of d v (lookup i j) ≡ some code

abbrev pub invalid_value : ℕ
invalid_value = 0x06090030

abbrev pub wrong_signature : ℕ
wrong_signature = 0x08000020

abbrev pub device_state : ℕ
device_state = 0x08000022

-- "save" and "load"
abbrev pub save : ℕ
save = 0x65766173

abbrev pub load : ℕ
load = 0x64616F6C

-- TPDO1 switched off
abbrev pub off : Device
off = written fresh 0x1800_01 0x80000181

-- both PDOs off, scaling on
abbrev pub ready : Device
ready = after (at 100) ((0x1800_01, 0x80000181) ∷ (0x1801_01, 0x80000281) ∷ (0x6000_00, 4) ∷ [])

-- scaling on, 6005h = 10,000
abbrev pub coarse : ℕ → Device
coarse r = after (at r) ((0x6000_00, 4) ∷ (0x6005_01, 10000) ∷ [])

-- r = 100, preset 40
abbrev pub preset : Device
preset = written (at 100) 0x6003_00 40

-- and 1017h = 1,000, none of it saved; then saved
abbrev pub altered : Device
altered = written preset 0x1017_00 1000

abbrev pub saved : Device
saved = written altered 0x1010_01 save

-- The rw entries among these rows are those of the writes, in the same order, and each takes its value.
abbrev pub take_all : Device → List Row → List (ℕ × ℕ) → Bool
take_all d [] [] = true
take_all d [] (w ∷ ws) = false
take_all d (r ∷ rs) [] = not (is_rw r) && take_all d rs []
take_all d (r ∷ rs) (w ∷ ws) =
    cond (is_rw r)
    (eqb (key r) w.0 && ltb w.1 (256 ^ width r) && eqb (abort_code d r w.1) 0 && take_all d rs ws)
    (take_all d rs (w ∷ ws))

abbrev pub writes : List (ℕ × ℕ)
writes =
    (0x1003_00, 0) ∷
    (0x1010_01, save) ∷
    (0x1011_01, load) ∷
    (0x1014_00, 0x80000081) ∷
    (0x1015_00, 10) ∷
    (0x1017_00, 1000) ∷
    (0x1800_01, 0x181) ∷
    (0x1800_02, 240) ∷
    (0x1800_05, 7) ∷
    (0x1801_01, 0x57F) ∷
    (0x1801_02, 255) ∷
    (0x1801_05, 65535) ∷
    (0x6000_00, 12) ∷
    (0x6002_00, 1000) ∷
    (0x6003_00, 999999) ∷
    (0x6005_01, 10000) ∷
    (0x6200_00, 8) ∷
    []

-- 01's column of accepted values, at 6002h = 1,000,000: index, sub-index, the ends of what is accepted, and the numbers next to them.
abbrev pub ends : List (ℕ × ℕ × List ℕ × List ℕ)
ends =
    (0x1003, 0, 0 ∷ [], 1 ∷ 255 ∷ []) ∷
    (0x1014, 0, 0x81 ∷ 0x80000081 ∷ [], 0x80 ∷ 0x82 ∷ 0x80000080 ∷ 0x80000082 ∷ []) ∷
    (0x1015, 0, 0 ∷ 65535 ∷ [], []) ∷
    (0x1017, 0, 0 ∷ 65535 ∷ [], []) ∷
    (0x1800, 1, 0x181 ∷ 0x57F ∷ 0x80000000 ∷ 0x800007FF ∷ [], 0x180 ∷ 0x580 ∷ 0x7FFFFFFF ∷ 0x80000800 ∷ []) ∷
    (0x1800, 2, 1 ∷ 240 ∷ 254 ∷ 255 ∷ [], 0 ∷ 241 ∷ 253 ∷ []) ∷
    (0x1800, 5, 0 ∷ 65535 ∷ [], []) ∷
    (0x1801, 1, 0x181 ∷ 0x57F ∷ 0x80000000 ∷ 0x800007FF ∷ [], 0x180 ∷ 0x580 ∷ 0x7FFFFFFF ∷ 0x80000800 ∷ []) ∷
    (0x1801, 2, 1 ∷ 240 ∷ 254 ∷ 255 ∷ [], 0 ∷ 241 ∷ 253 ∷ []) ∷
    (0x1801, 5, 0 ∷ 65535 ∷ [], []) ∷
    (0x6000, 0, 0 ∷ 4 ∷ 8 ∷ 12 ∷ [], 1 ∷ 2 ∷ 16 ∷ 0x8000 ∷ []) ∷
    (0x6002, 0, 1000 ∷ 1000000 ∷ [], 999 ∷ 1000001 ∷ []) ∷
    (0x6003, 0, 0 ∷ 999999 ∷ [], 1000000 ∷ []) ∷
    (0x6005, 1, 5000 ∷ 1000000 ∷ [], 4999 ∷ 1000001 ∷ []) ∷
    (0x6200, 0, 0 ∷ 65535 ∷ [], []) ∷
    []

abbrev pub is_code : ℕ → Option ℕ → Bool
is_code code none = false
is_code code (some c) = eqb c code

-- A write of each number to the entry that is found is aborted with this code; 0: it is accepted.
abbrev pub answer_each : Device → Found → ℕ → List ℕ → Bool
answer_each d x code [] = true
answer_each d x code (v ∷ vs) = is_code code (abort_code_of d v x) && answer_each d x code vs

-- Each entry accepts the first numbers; a write of one of the second is aborted with 0609 0030h.
abbrev pub end_each : Device → List (ℕ × ℕ × List ℕ × List ℕ) → Bool
end_each d [] = true
end_each d (e ∷ l) =
    let x = lookup e.0 e.1 in
    answer_each d x 0 e.2 && answer_each d x invalid_value e.3 && end_each d l

-- 01's column of factory values, at node 1, and the sizes of its names: index, sub-index, number.
abbrev pub factory_values : List (ℕ × ℕ × ℕ)
factory_values =
    (0x1000, 0, 0x00080196) ∷
    (0x1003, 0, 0) ∷
    (0x1005, 0, 0x80) ∷
    (0x1008, 0, 4) ∷
    (0x1009, 0, 1) ∷
    (0x100A, 0, 1) ∷
    (0x1010, 0, 1) ∷
    (0x1010, 1, 1) ∷
    (0x1011, 0, 1) ∷
    (0x1011, 1, 1) ∷
    (0x1014, 0, 0x81) ∷
    (0x1015, 0, 0) ∷
    (0x1017, 0, 0) ∷
    (0x1018, 0, 4) ∷
    (0x1800, 0, 5) ∷
    (0x1800, 1, 0x181) ∷
    (0x1800, 2, 254) ∷
    (0x1800, 5, 100) ∷
    (0x1801, 0, 5) ∷
    (0x1801, 1, 0x281) ∷
    (0x1801, 2, 1) ∷
    (0x1801, 5, 0) ∷
    (0x1A00, 0, 1) ∷
    (0x1A00, 1, 0x60040020) ∷
    (0x1A01, 0, 1) ∷
    (0x1A01, 1, 0x60040020) ∷
    (0x6000, 0, 0) ∷
    (0x6002, 0, 1048576) ∷
    (0x6003, 0, 0) ∷
    (0x6005, 0, 1) ∷
    (0x6005, 1, 5000) ∷
    (0x6200, 0, 100) ∷
    (0x6500, 0, 0) ∷
    (0x6501, 0, 5000) ∷
    (0x6504, 0, 1) ∷
    (0x6509, 0, 0) ∷
    []

abbrev pub is_number : ℕ → Option Shown → Bool
is_number n none = false
is_number n (some Blank) = false
is_number n (some (Number m)) = eqb m n

-- Pre-operational, each of these entries reads its number.
abbrev pub read_each : Device → List (ℕ × ℕ × ℕ) → Bool
read_each d [] = true
read_each d (e ∷ l) = is_number e.2 (reads d false e.0 e.1) && read_each d l

pub record Worked : Type 0 where
  -- 0008 0196h (profile 406, absolute linear)
  pub type : Reads fresh 0x1000 0 (Number 0x00080196)
  pub p1 : Reads fresh 0x6501 0 (Number 5000)
  pub p2 : Answers fresh 0x6200 0 100 0
  pub p5 : Answers fresh 0x6000 0 1 invalid_value
  -- 6004h while missing
  pub p6 : Reads fresh 0x6004 0 Blank
  -- r = 69,637
  pub p7 : Reads (at 69637) 0x6004 0 (Number 69637)
  -- inverted, r = 0, scaling off
  pub p8 : Reads (written (at 0) 0x6000_00 8) 0x6004 0 (Number 1048575)
  -- scaling on, 6005h = 10,000: P9 gives 3 and 4 (4/13)
  pub p9 : Reads (coarse 6) 0x6004 0 (Number 3) × Reads (coarse 7) 0x6004 0 (Number 4)
  -- r = 100, preset 40: 6509h is −60, `C4 FF FF FF`; then r = 50 reads 1,048,566
  pub p10 : Reads preset 0x6509 0 (Number 0xFFFFFFC4) × Reads (moved_to 50 preset) 0x6004 0 (Number 1048566)
  -- read 1801-3
  pub p11 : lookup 0x1801 3 ≡ Err NoSubIndex
  -- 6002h: 999 gives 0609 0030h; 1,000 with scaling off 0800 0022h
  pub p12 : Answers fresh 0x6002 0 999 invalid_value × Answers fresh 0x6002 0 1000 device_state
  -- the index of P4
  pub no_index : lookup 0x2102 0 ≡ Err NoIndex
  -- value before state: 6003h is below 6002h, and not written while missing
  pub value_first : Answers fresh 0x6003 0 1048576 invalid_value × Answers fresh 0x6003 0 40 device_state
      × Answers (at 100) 0x6003 0 1048575 0
  -- 6005h with scaling off
  pub step : Answers (at 100) 0x6005 1 5000 device_state × Answers ready 0x6005 1 5000 0 × Answers ready 0x6005 1 4999 invalid_value
  -- only bits 2 and 3 may be set
  pub operating : Answers fresh 0x6000 0 12 0 × Answers fresh 0x6000 0 16 invalid_value
  -- with bit 31 clear also 181h..57Fh
  pub band : Answers off 0x1800 1 0x180 invalid_value × Answers off 0x1800 1 0x181 0
      × Answers off 0x1800 1 0x57F 0 × Answers off 0x1800 1 0x580 invalid_value
  -- bits 30..11 zero
  pub high_bits : Answers off 0x1800 1 0x80000000 0 × Answers off 0x1800 1 0x80000800 invalid_value
      × Answers off 0x1800 1 0xC0000181 invalid_value
  -- while a PDO is on, a write with bit 31 clear must repeat the held value
  pub held : Answers fresh 0x1800 1 0x181 0 × Answers fresh 0x1800 1 0x57F device_state × Answers fresh 0x1800 1 0x80000181 0
  -- and sub 2 can't be written
  pub held_type : Answers fresh 0x1800 2 255 device_state × Answers off 0x1800 2 255 0
  -- 1..240, 254, 255
  pub types : Answers off 0x1800 2 0 invalid_value × Answers off 0x1800 2 240 0
      × Answers off 0x1800 2 241 invalid_value × Answers off 0x1800 2 254 0
  -- 80h+N; that, or that with bit 31
  pub emergency : Answers fresh 0x1014 0 0x81 0 × Answers fresh 0x1014 0 0x80000081 0 × Answers fresh 0x1014 0 0x82 invalid_value
  -- a wrong signature
  pub signatures : Answers fresh 0x1010 1 load wrong_signature × Answers fresh 0x1011 1 save wrong_signature
  -- only 0 accepted, empties the list
  pub emptied : Answers (device true 100 3) 0x1003 0 1 invalid_value × Reads (written (device true 100 3) 0x1003_00 0) 0x1003 1 Blank
  -- 1003-1..4 beyond the count are blank
  pub errors : Reads (device true 100 3) 0x1003 0 (Number 3)
      × Reads (device true 100 3) 0x1003 3 (Number 0x5000) × Reads (device true 100 3) 0x1003 4 Blank
  -- 1 while missing, else 0
  pub register : Reads fresh 0x1001 0 (Number 1) × Reads (at 100) 0x1001 0 (Number 0) × Reads fresh 0x6503 0 (Number 1)
  -- the value of entry 6000-0, plus bit 15 when Operational
  pub status : Reads ready 0x6500 0 (Number 4) × Shows ready true 0x6500 0 (Number 0x8004)
  -- of 6000h also T, to 1,000,000 with scaling; 6003h and the offset to 0
  pub rescaled : Reads (written preset 0x6000_00 4) 0x6002 0 (Number 1000000)
      × Reads (written preset 0x6000_00 4) 0x6003 0 (Number 0)
      × Reads (written preset 0x6000_00 4) 0x6509 0 (Number 0)
      × Reads (written preset 0x6000_00 0) 0x6002 0 (Number 1048576)
  -- "save" copies the settings (rw entries but 1003, 1010, 1011, plus the offset) to the saved set
  pub saves : (saved.saved ≡ altered.settings) × (saved.settings ≡ altered.settings)
  -- "load" makes the saved set factory; running settings change at the next reset
  pub loads : ((written saved 0x1011_01 load).saved ≡ factory 1) × ((written saved 0x1011_01 load).settings ≡ altered.settings)
  -- what entries read after power-up; 6500-0 also when Operational
  pub factory : (read_each fresh factory_values ≡ true) × Shows fresh true 0x6500 0 (Number 0x8000)
  -- each rw entry takes some write, at a valid device
  pub valid : ValidDevice ready
  pub each : take_all ready table writes ≡ true
  -- and the ends of what each accepts, but for the signatures
  pub accepted : end_each ready ends ≡ true
