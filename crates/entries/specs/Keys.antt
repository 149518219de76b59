-- The keys of the entries that definitions name: 01, chapter "Entries". Laws that check a definition use the number itself.
use Rattle.std.specs.Prelude.{ℕ}
use Rattle.entries.specs.Table.{key_of}

-- 1003-0: count
abbrev pub error_count_key : ℕ
error_count_key = 0x1003_00

-- 1010-1, 1011-1: "save", "load"
abbrev pub save_key : ℕ
save_key = 0x1010_01

abbrev pub load_key : ℕ
load_key = 0x1011_01

-- 1014-0: identifier of the emergency; 1015-0: its inhibit time
abbrev pub emergency_key : ℕ
emergency_key = 0x1014_00

abbrev pub inhibit_key : ℕ
inhibit_key = 0x1015_00

-- 1017-0
abbrev pub heartbeat_key : ℕ
heartbeat_key = 0x1017_00

-- 1800h, 1801h: the indices of TPDO1 and TPDO2,
abbrev pub tpdo1 : ℕ
tpdo1 = 0x1800

abbrev pub tpdo2 : ℕ
tpdo2 = 0x1801

-- and of each by its index: sub 1, identifier; sub 2, transmission type; sub 5, event timer
abbrev pub identifier_key_of : ℕ → ℕ
identifier_key_of index = key_of index 1

abbrev pub type_key_of : ℕ → ℕ
type_key_of index = key_of index 2

abbrev pub event_key_of : ℕ → ℕ
event_key_of index = key_of index 5

-- 6000-0
abbrev pub operating_key : ℕ
operating_key = 0x6000_00

-- 6002-0, T
abbrev pub range_key : ℕ
range_key = 0x6002_00

-- 6003-0
abbrev pub preset_key : ℕ
preset_key = 0x6003_00

-- 6005-1
abbrev pub step_key : ℕ
step_key = 0x6005_01

-- 6200-0: 1800-5 under a second index
abbrev pub cycle_key : ℕ
cycle_key = 0x6200_00
