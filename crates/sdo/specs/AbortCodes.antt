-- The abort codes of steps 1 to 4 and 7 of "First that applies" in 01, chapter "Service requests".
-- Where an answer is an enum, a definition gives the code of each of its cases, 0 for none.
use Rattle.std.specs.Prelude.{ℕ, Ok as At, Err, None as Blank, Some as Number, Some as Asked, None as UnknownCommand}
use Rattle.entries.specs.Table.{Found}
use Rattle.entries.specs.declared.table.NotFound.TheVariants.{NoSubIndex, NoIndex}
use Rattle.dictionary.specs.Shown.{Shown}
use Rattle.dictionary.specs.AbortCodes.{code_of}
use Rattle.dictionary.specs.declared.abort.Abort.TheVariants as reason
use Rattle.sdo.specs.Request.{Request}

-- 1. 0504 0001h: other top bits, or a write with bit 1 clear
abbrev pub request_code : Request → ℕ
request_code UnknownCommand = code_of reason.UnknownCommand
request_code (Asked ask) = 0

-- in the place of step 1: 0503 0000h for a wrong toggle in a transfer
abbrev pub wrong_toggle : ℕ
wrong_toggle = code_of reason.WrongToggle

-- 2. 0602 0000h no such index; 0609 0011h no such sub-index
abbrev pub found_code : Found → ℕ
found_code (Err NoIndex) = code_of reason.NoSuchIndex
found_code (Err NoSubIndex) = code_of reason.NoSuchSubIndex
found_code (At r) = 0

-- 3. 0601 0002h: write to ro
abbrev pub read_only : ℕ
read_only = code_of reason.ReadOnly

-- 4. length: 0607 0012h longer, 0607 0013h shorter
abbrev pub too_long : ℕ
too_long = code_of reason.TooLong

abbrev pub too_short : ℕ
too_short = code_of reason.TooShort

-- 7. 0800 0024h: read of a blank
abbrev pub shown_code : Shown → ℕ
shown_code Blank = code_of reason.Blank
shown_code (Number n) = 0
