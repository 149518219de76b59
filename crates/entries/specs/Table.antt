-- The table of 01's chapter "Entries" as a list in index order, one line for each entry, to compare
-- with 01 line by line; what its columns mean; and what the list has for an index and a sub-index.
use Rattle.std.specs.Prelude.{ℕ, ◌+◌, ◌*◌, ◌/◌, ◌%◌, eqb, ltb, get_or, Bool, true, false, not, cond, List, [], ◌∷◌}
use Rattle.std.specs.Prelude.{Option, None, Some, Result, Ok as At, Err}
use Rattle.can.specs.Signed.{twos}
use Rattle.position.specs.Position.{position}
use Rattle.entries.specs.declared.Settings.{Settings}
use Rattle.entries.specs.declared.Device.{Device}
use Rattle.entries.specs.Identity.{name_of}
use Rattle.entries.specs.declared.table.Row.{Row}
use Rattle.entries.specs.declared.table.Accepted.{Accepted}
use Rattle.entries.specs.declared.table.Accepted.TheVariants.{Nothing, All, Only, Signature, Between, EmergencyIdentifier}
use Rattle.entries.specs.declared.table.Accepted.TheVariants.{PdoIdentifier, TransmissionType, OperatingParameters, BelowRange}
use Rattle.entries.specs.declared.table.WhenBlank.{WhenBlank}
use Rattle.entries.specs.declared.table.WhenBlank.TheVariants.{Never, Missing, Beyond}
use Rattle.entries.specs.declared.table.Source.{Source}
use Rattle.entries.specs.declared.table.Source.TheVariants.{Fixed, Setting, Register, ErrorCount, Name}
use Rattle.entries.specs.declared.table.Source.TheVariants.{Vendor, Product, Revision, Serial, Position, Status, Offset}
use Rattle.entries.specs.declared.table.NotFound.{NotFound}
use Rattle.entries.specs.declared.table.NotFound.TheVariants.{NoSubIndex, NoIndex}

-- A type is its number of bytes; S32 is two's complement. A name is a string of 1 to 32 bytes: it reads its size, and segments carry it.
abbrev U8 : ℕ
U8 = 1

abbrev U16 : ℕ
U16 = 2

abbrev U32 : ℕ
U32 = 4

abbrev S32 : ℕ
S32 = 4

abbrev name : ℕ
name = 32

abbrev ro : Bool
ro = false

abbrev rw : Bool
rw = true

-- An entry's key: 6003-0 is 0x6003_00, 1800-5 is 0x1800_05.
abbrev pub key_of : ℕ → ℕ → ℕ
key_of i j = i * 256 + j

-- Key, type, access, accepted values, when it is blank, where its number comes from;
abbrev pub line : ℕ → ℕ → Bool → Accepted → WhenBlank → Source → Row
line k w a v b s = record { key = k; width = w; rw = a; accepted = v; blank = b; source = s }

-- with the key's index and sub-index.
abbrev row : ℕ → ℕ → ℕ → Bool → Accepted → WhenBlank → Source → Row
row i j w a v b s = line (key_of i j) w a v b s

unfoldable pub table : List Row
table =
    row 0x1000 0 U32 ro Nothing Never (Fixed 0x00080196) ∷
    row 0x1001 0 U8 ro Nothing Never Register ∷
    row 0x1003 0 U8 rw (Only 0) Never ErrorCount ∷
    row 0x1003 1 U32 ro Nothing (Beyond 1) (Fixed 0x5000) ∷
    row 0x1003 2 U32 ro Nothing (Beyond 2) (Fixed 0x5000) ∷
    row 0x1003 3 U32 ro Nothing (Beyond 3) (Fixed 0x5000) ∷
    row 0x1003 4 U32 ro Nothing (Beyond 4) (Fixed 0x5000) ∷
    row 0x1005 0 U32 ro Nothing Never (Fixed 0x80) ∷
    row 0x1008 0 name ro Nothing Never (Name 1) ∷
    row 0x1009 0 name ro Nothing Never (Name 2) ∷
    row 0x100A 0 name ro Nothing Never (Name 3) ∷
    row 0x1010 0 U8 ro Nothing Never (Fixed 1) ∷
    row 0x1010 1 U32 rw (Signature 0x65766173) Never (Fixed 1) ∷
    row 0x1011 0 U8 ro Nothing Never (Fixed 1) ∷
    row 0x1011 1 U32 rw (Signature 0x64616F6C) Never (Fixed 1) ∷
    row 0x1014 0 U32 rw EmergencyIdentifier Never (Setting 0x1014_00) ∷
    row 0x1015 0 U16 rw All Never (Setting 0x1015_00) ∷
    row 0x1017 0 U16 rw All Never (Setting 0x1017_00) ∷
    row 0x1018 0 U8 ro Nothing Never (Fixed 4) ∷
    row 0x1018 1 U32 ro Nothing Never Vendor ∷
    row 0x1018 2 U32 ro Nothing Never Product ∷
    row 0x1018 3 U32 ro Nothing Never Revision ∷
    row 0x1018 4 U32 ro Nothing Never Serial ∷
    row 0x1800 0 U8 ro Nothing Never (Fixed 5) ∷
    row 0x1800 1 U32 rw PdoIdentifier Never (Setting 0x1800_01) ∷
    row 0x1800 2 U8 rw TransmissionType Never (Setting 0x1800_02) ∷
    row 0x1800 5 U16 rw All Never (Setting 0x1800_05) ∷
    row 0x1801 0 U8 ro Nothing Never (Fixed 5) ∷
    row 0x1801 1 U32 rw PdoIdentifier Never (Setting 0x1801_01) ∷
    row 0x1801 2 U8 rw TransmissionType Never (Setting 0x1801_02) ∷
    row 0x1801 5 U16 rw All Never (Setting 0x1801_05) ∷
    row 0x1A00 0 U8 ro Nothing Never (Fixed 1) ∷
    row 0x1A00 1 U32 ro Nothing Never (Fixed 0x60040020) ∷
    row 0x1A01 0 U8 ro Nothing Never (Fixed 1) ∷
    row 0x1A01 1 U32 ro Nothing Never (Fixed 0x60040020) ∷
    row 0x6000 0 U16 rw OperatingParameters Never (Setting 0x6000_00) ∷
    row 0x6002 0 U32 rw (Between 1000 1000000) Never (Setting 0x6002_00) ∷
    row 0x6003 0 U32 rw BelowRange Never (Setting 0x6003_00) ∷
    row 0x6004 0 U32 ro Nothing Missing Position ∷
    row 0x6005 0 U8 ro Nothing Never (Fixed 1) ∷
    row 0x6005 1 U32 rw (Between 5000 1000000) Never (Setting 0x6005_01) ∷
    row 0x6200 0 U16 rw All Never (Setting 0x1800_05) ∷
    row 0x6500 0 U16 ro Nothing Never Status ∷
    row 0x6501 0 U32 ro Nothing Never (Fixed 5000) ∷
    row 0x6503 0 U16 ro Nothing Never Register ∷
    row 0x6504 0 U16 ro Nothing Never (Fixed 1) ∷
    row 0x6509 0 S32 ro Nothing Never Offset ∷
    []

-- the columns of a row
abbrev pub key : Row → ℕ
key r = r.key

abbrev pub index : Row → ℕ
index r = key r / 256

abbrev pub sub : Row → ℕ
sub r = key r % 256

abbrev pub width : Row → ℕ
width r = r.width

abbrev pub is_rw : Row → Bool
is_rw r = r.rw

abbrev pub accepted : Row → Accepted
accepted r = r.accepted

abbrev pub when_blank : Row → WhenBlank
when_blank r = r.blank

abbrev pub source : Row → Source
source r = r.source

abbrev pub missing : Device → Bool
missing d = not d.reading.good

-- 6004h is blank while missing; 1003-1..4 beyond the count are blank.
abbrev pub blank_in : WhenBlank → Device → Bool
blank_in Never d = false
blank_in Missing d = missing d
blank_in (Beyond k) d = ltb d.errors k

-- each setting, by the key of its entry
abbrev pub settings_of : Settings → List (ℕ × ℕ)
settings_of s =
    let c = s.communication in
    let p = s.profile in
    (0x1014_00, c.emergency) ∷
    (0x1015_00, c.inhibit) ∷
    (0x1017_00, c.heartbeat) ∷
    (0x1800_01, c.pdo1.identifier) ∷
    (0x1800_02, c.pdo1.transmission) ∷
    (0x1800_05, c.pdo1.event) ∷
    (0x1801_01, c.pdo2.identifier) ∷
    (0x1801_02, c.pdo2.transmission) ∷
    (0x1801_05, c.pdo2.event) ∷
    (0x6000_00, p.operating) ∷
    (0x6002_00, p.range) ∷
    (0x6003_00, p.preset) ∷
    (0x6005_01, p.step) ∷
    []

-- the number beside k, 0 if there is none
abbrev pub beside : List (ℕ × ℕ) → ℕ → ℕ
beside [] k = 0
beside (e ∷ es) k = cond (eqb k e.0) e.1 (beside es k)

-- 1 while missing, else 0
abbrev pub register : Device → ℕ
register d = cond (missing d) 1 0

-- The number of an entry, in a device that is Operational or not.
abbrev pub number_of : Source → Device → Bool → ℕ
number_of (Fixed n) d o = n
number_of (Setting k) d o = beside (settings_of d.settings) k
number_of Register d o = register d
-- count 0..4
number_of ErrorCount d o = d.errors
-- 1008h, 1009h, 100Ah: the size
number_of (Name k) d o = (name_of d.identity k).length
number_of Vendor d o = d.identity.vendor
number_of Product d o = d.identity.product
number_of Revision d o = d.identity.revision
number_of Serial d o = d.identity.serial
number_of Position d o = position d.settings.profile d.reading.raw
-- the value of entry 6000-0, plus bit 15 when Operational
number_of Status d o = d.settings.profile.operating + cond o 0x8000 0
number_of Offset d o = twos d.settings.profile.offset

-- The name of what a write to an entry of key k alters: of a setting the key of its own entry, else k.
abbrev pub alters : Source → ℕ → ℕ
alters (Fixed n) k = k
alters (Setting own) k = own
alters Register k = k
alters ErrorCount k = k
alters (Name n) k = k
alters Vendor k = k
alters Product k = k
alters Revision k = k
alters Serial k = k
alters Position k = k
alters Status k = k
alters Offset k = k

abbrev pub altered : Row → ℕ
altered r = alters (source r) (key r)

-- no entry, and so past the end of the list
abbrev pub no_row : Row
no_row = line 0 0 ro Nothing Never (Fixed 0)

-- the row at a place of the list
abbrev pub row_at : ℕ → Row
row_at p = get_or table p no_row

-- the row of a key, if any
abbrev pub with_key : List Row → ℕ → Option Row
with_key [] k = None
with_key (r ∷ rs) k = cond (eqb (key r) k) (Some r) (with_key rs k)

unfoldable pub row_of_key : ℕ → Option Row
row_of_key k = with_key table k

-- what the list has for an index and a sub-index
abbrev pub Found : Type 0
Found = Result Row NotFound

abbrev pub no_sub : Found → Found
no_sub (At r) = At r
no_sub (Err NoSubIndex) = Err NoSubIndex
no_sub (Err NoIndex) = Err NoSubIndex

-- the row of the entry i-j among these; if there is no such entry, whether any row has the index
abbrev pub lookup_in : List Row → ℕ → ℕ → Found
lookup_in [] i j = Err NoIndex
lookup_in (r ∷ rs) i j = cond (eqb (index r) i) (cond (eqb (sub r) j) (At r) (no_sub (lookup_in rs i j))) (lookup_in rs i j)

unfoldable pub lookup : ℕ → ℕ → Found
lookup i j = lookup_in table i j
