-- When each reply is due: 01, chapter "Service requests", in its words and numbers, over the bytes of a request and the rows of the
-- table. These laws check how a request is taken apart (Request) and in which order the steps are tried (Service), so they use neither.
use Rattle.std.specs.Prelude.{ℕ, ◌+◌, ◌*◌, ◌-◌, ◌/◌, ◌%◌, ◌<◌, get_or, take, ◌≡◌, ◌↔◌, ◌⊎◌, Bool, true, false, List, [], ◌∷◌}
use Rattle.can.specs.Number.{number}
use Rattle.entries.specs.declared.Device.{Device}
use Rattle.entries.specs.declared.table.Row.{Row}
use Rattle.entries.specs.Table.{key, width, is_rw}
use Rattle.entries.specs.Laws.{HasIndex, Stands}
use Rattle.std.specs.Prelude.{None as Blank, Some as Number}
use Rattle.dictionary.specs.Reads.{shown}
use Rattle.dictionary.specs.Accepted.{accepts_in, barred}
use Rattle.sdo.specs.Service.{Due, none, value, confirmation, abort}

-- Top three bits of byte 0: 2 read,
abbrev pub Reads : List ℕ → Type 0
Reads f = get_or f 0 0 / 32 ≡ 2

-- 1 write; in a write, bit 1 must be set;
abbrev pub Writes : List ℕ → Type 0
Writes f = (get_or f 0 0 / 32 ≡ 1) × (get_or f 0 0 / 2 % 2 ≡ 1)

-- 4 abort.
abbrev pub ClientAborts : List ℕ → Type 0
ClientAborts f = get_or f 0 0 / 32 ≡ 4

-- The index is in bytes 1 and 2, low byte first, the sub-index in byte 3.
abbrev pub IndexStands : List ℕ → Row → Type 0
IndexStands f r = HasIndex r (get_or f 1 0 + 256 * get_or f 2 0)

abbrev pub EntryStands : List ℕ → Row → Type 0
EntryStands f r = Stands r (get_or f 1 0 + 256 * get_or f 2 0) (get_or f 3 0)

-- A read of the entry of the row r,
abbrev pub ReadsFrom : List ℕ → Row → Type 0
ReadsFrom f r = Reads f × EntryStands f r

-- a write to it,
abbrev pub WritesTo : List ℕ → Row → Type 0
WritesTo f r = Writes f × EntryStands f r

-- which is rw,
abbrev pub WritesRw : List ℕ → Row → Type 0
WritesRw f r = WritesTo f r × (is_rw r ≡ true)

-- With bit 0 set the length is 4 less bits 3..2, with bit 0 clear it is the entry's.
abbrev pub Longer : List ℕ → ℕ → Type 0
Longer f w = (get_or f 0 0 % 2 ≡ 1) × (w < 4 - get_or f 0 0 / 4 % 4)

abbrev pub Shorter : List ℕ → ℕ → Type 0
Shorter f w = (get_or f 0 0 % 2 ≡ 1) × (4 - get_or f 0 0 / 4 % 4 < w)

abbrev pub AsLong : List ℕ → ℕ → Type 0
AsLong f w = get_or f 0 0 % 2 ≡ 1 → 4 - get_or f 0 0 / 4 % 4 ≡ w

-- has that length,
abbrev pub WritesLength : List ℕ → Row → Type 0
WritesLength f r = WritesRw f r × AsLong f (width r)

-- The data are bytes 4..7; the first w of them,
abbrev pub first_data : ℕ → List ℕ → List ℕ
first_data w f = take w (get_or f 4 0 ∷ get_or f 5 0 ∷ get_or f 6 0 ∷ get_or f 7 0 ∷ [])

-- and the value that a write gives to the entry of the row r: as many data bytes as the entry has, low byte first. Others are ignored.
abbrev pub content : List ℕ → Row → ℕ
content f r = number (first_data (width r) f)

-- and accepts the value.
abbrev pub WritesValue : Device → List ℕ → Row → Type 0
WritesValue d f r = WritesLength f r × (accepts_in d r (content f r) ≡ true)

-- 1. other top bits, or a write with bit 1 clear
abbrev pub UnknownCommand : List ℕ → Type 0
UnknownCommand f =
    let top = get_or f 0 0 / 32 in
    ((top ≡ 1 → ⊥) × (top ≡ 2 → ⊥) × (top ≡ 4 → ⊥)) ⊎ ((top ≡ 1) × (get_or f 0 0 / 2 % 2 ≡ 0))

-- 2. no such index: no entry has it; no such sub-index: some entry has the index, and none has both
abbrev pub NoSuchIndex : List ℕ → Type 0
NoSuchIndex f = (Reads f ⊎ Writes f) × ((r : Row) → IndexStands f r → ⊥)

abbrev pub NoSuchSubIndex : List ℕ → Type 0
NoSuchSubIndex f = (Reads f ⊎ Writes f) × (((r : Row) × IndexStands f r) × ((r : Row) → EntryStands f r → ⊥))

-- 3. write to ro
abbrev pub WriteToRo : List ℕ → Type 0
WriteToRo f = (r : Row) × (WritesTo f r × (is_rw r ≡ false))

-- 4. length: longer, shorter
abbrev pub TooLong : List ℕ → Type 0
TooLong f = (r : Row) × (WritesRw f r × Longer f (width r))

abbrev pub TooShort : List ℕ → Type 0
TooShort f = (r : Row) × (WritesRw f r × Shorter f (width r))

-- 5. value; for 1010-1, 1011-1 a wrong signature
abbrev pub Unaccepted : Device → List ℕ → Row → Type 0
Unaccepted d f r = WritesLength f r × (accepts_in d r (content f r) ≡ false)

abbrev pub Signs : List ℕ → Type 0
Signs f = let i = get_or f 1 0 + 256 * get_or f 2 0 in ((i ≡ 0x1010) ⊎ (i ≡ 0x1011)) × (get_or f 3 0 ≡ 1)

abbrev pub WrongValue : Device → List ℕ → Type 0
WrongValue d f = (r : Row) × (Unaccepted d f r × (Signs f → ⊥))

abbrev pub WrongSignature : Device → List ℕ → Type 0
WrongSignature d f = (r : Row) × (Unaccepted d f r × Signs f)

-- 6. writes only: the state
abbrev pub Barred : Device → List ℕ → Type 0
Barred d f = (r : Row) × (WritesValue d f r × (barred d (key r) (content f r) ≡ true))

-- 7. read of a blank
abbrev pub BlankRead : Device → Bool → List ℕ → Type 0
BlankRead d o f = (r : Row) × (ReadsFrom f r × (shown d o r ≡ Blank))

-- A request that no step stops: a value has the entry's length,
abbrev pub ValueRead : Device → Bool → List ℕ → ℕ → ℕ → Type 0
ValueRead d o f w n = (r : Row) × (ReadsFrom f r × ((width r ≡ w) × (shown d o r ≡ Number n)))

-- and a confirmation says that the entry got the value.
abbrev pub ValueWritten : Device → List ℕ → ℕ → ℕ → Type 0
ValueWritten d f k v =
    (r : Row)
    × (WritesValue d f r × ((barred d (key r) (content f r) ≡ false) × ((key r ≡ k) × (content f r ≡ v))))

-- First that applies: x is the code of a step exactly when that step applies and none before it does.
pub record Exactly (d : Device) (o : Bool) (f : List ℕ) (x : Due) : Type 0 where
  -- 4 abort (no effect, no reply)
  pub nothing : (x ≡ none) ↔ ClientAborts f
  pub step1 : (x ≡ abort 0x05040001) ↔ UnknownCommand f
  pub step2_index : (x ≡ abort 0x06020000) ↔ NoSuchIndex f
  pub step2_sub_index : (x ≡ abort 0x06090011) ↔ NoSuchSubIndex f
  pub step3 : (x ≡ abort 0x06010002) ↔ WriteToRo f
  pub step4_longer : (x ≡ abort 0x06070012) ↔ TooLong f
  pub step4_shorter : (x ≡ abort 0x06070013) ↔ TooShort f
  pub step5_value : (x ≡ abort 0x06090030) ↔ WrongValue d f
  pub step5_signature : (x ≡ abort 0x08000020) ↔ WrongSignature d f
  pub step6 : (x ≡ abort 0x08000022) ↔ Barred d f
  pub step7 : (x ≡ abort 0x08000024) ↔ BlankRead d o f
  pub values : (w n : ℕ) → (x ≡ value w n) ↔ ValueRead d o f w n
  pub confirmations : (k v : ℕ) → (x ≡ confirmation k v) ↔ ValueWritten d f k v
