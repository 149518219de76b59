-- The reasons to abort and their codes; of a wrong value and of a wrong state also by name: steps 5 and 6 of "First that applies"
-- in 01, chapter "Service requests".
use Rattle.std.specs.Prelude.{ℕ, Result, Ok, Err}
use Rattle.entries.specs.declared.table.NotFound.{NotFound}
use Rattle.entries.specs.declared.table.NotFound.TheVariants.{NoSubIndex, NoIndex}
use Rattle.dictionary.specs.declared.abort.Abort.{Abort}
use Rattle.dictionary.specs.declared.abort.Abort.TheVariants.{WrongToggle, UnknownCommand, ReadOnly, NoSuchIndex, TooLong, TooShort}
use Rattle.dictionary.specs.declared.abort.Abort.TheVariants.{NoSuchSubIndex, InvalidValue, WrongSignature, DeviceState, Blank}

abbrev pub code_of : Abort → ℕ
-- in the place of step 1: a segment with a wrong toggle
code_of WrongToggle = 0x05030000
-- 1. other top bits, or a write with bit 1 clear
code_of UnknownCommand = 0x05040001
-- 2. no such index; no such sub-index
code_of NoSuchIndex = 0x06020000
code_of NoSuchSubIndex = 0x06090011
-- 3. write to ro
code_of ReadOnly = 0x06010002
-- 4. length: longer, shorter
code_of TooLong = 0x06070012
code_of TooShort = 0x06070013
-- 5. value; for 1010-1, 1011-1 a wrong signature
code_of InvalidValue = 0x06090030
code_of WrongSignature = 0x08000020
-- 6. the state
code_of DeviceState = 0x08000022
-- 7. read of a blank
code_of Blank = 0x08000024

-- the code of an answer, 0 for none
abbrev pub code_in : Result (Unit {0}) Abort → ℕ
code_in (Ok done) = 0
code_in (Err reason) = code_of reason

-- step 2, by what the list does not have
abbrev pub absence : NotFound → Abort
absence NoIndex = NoSuchIndex
absence NoSubIndex = NoSuchSubIndex

-- value: 0609 0030h;
abbrev pub invalid_value : ℕ
invalid_value = code_of InvalidValue

-- for 1010-1, 1011-1 a wrong signature 0800 0020h
abbrev pub wrong_signature : ℕ
wrong_signature = code_of WrongSignature

-- 0800 0022h: 6002h or 6005h with scaling off, 6003h while missing, a PDO that is on
abbrev pub device_state : ℕ
device_state = code_of DeviceState
