-- A request taken apart: a read, a write, or an unknown command. A request is its eight bytes, f. 01, chapter "Service requests".
use Rattle.std.specs.Prelude.{ℕ, ◌-◌, ◌/◌, ◌%◌, eqb, get_or, Bool, ◌&&◌, cond, List, [], ◌∷◌, Option, None, Some}
use Rattle.std.specs.Prelude.{Some as Asked, None as UnknownCommand}
use Rattle.can.specs.Number.{number}
use Rattle.sdo.specs.declared.request.Access.{Access}
use Rattle.sdo.specs.declared.request.Access.TheVariants.{Read, Write}
use Rattle.sdo.specs.declared.request.Ask.{Ask}

-- A read or a write, or else a command that gets 0504 0001h.
abbrev pub Request : Type 0
Request = Option Ask

abbrev pub byte : List ℕ → ℕ → ℕ
byte f k = get_or f k 0

-- bytes 1..3: the index, low byte first, and the sub-index
abbrev pub index_of : List ℕ → ℕ
index_of f = number (byte f 1 ∷ byte f 2 ∷ [])

abbrev pub sub_of : List ℕ → ℕ
sub_of f = byte f 3

-- bytes 4..7
abbrev pub data_of : List ℕ → ℕ
data_of f = number (byte f 4 ∷ byte f 5 ∷ byte f 6 ∷ byte f 7 ∷ [])

-- Top three bits of byte 0: 2 read, 1 write,
abbrev pub access_top : Access → ℕ
access_top Read = 2
access_top (Write length content) = 1

-- 4 abort (no effect, no reply).
abbrev pub top : List ℕ → ℕ
top f = byte f 0 / 32

abbrev pub is_abort : ℕ → Bool
is_abort b = eqb (b / 32) 4

abbrev pub aborting : List ℕ → Bool
aborting f = is_abort (byte f 0)

-- A segment request has top bits 3; bit 4 is the toggle. Its other bits and bytes 1..7 are ignored.
abbrev pub is_segment : ℕ → Bool
is_segment b = eqb (b / 32) 3

abbrev pub toggle_in : ℕ → ℕ
toggle_in b = b / 16 % 2

abbrev pub reading : List ℕ → Bool
reading f = eqb (top f) 2

-- In a write, bit 1 must be set;
abbrev pub writing : List ℕ → Bool
writing f = eqb (top f) 1 && eqb (byte f 0 / 2 % 2) 1

-- with bit 0 set the length is 4 less bits 3..2, with bit 0 clear it is the entry's, written as 0 here.
abbrev pub said_length : ℕ → ℕ
said_length b = cond (eqb (b % 2) 1) (4 - b / 4 % 4) 0

-- a read or a write of the entry that the request names
abbrev pub access_in : List ℕ → Option Access
access_in f = cond (reading f) (Some Read) (cond (writing f) (Some (Write (said_length (byte f 0)) (data_of f))) None)

-- what is asked of the entry that the request names
abbrev asking : List ℕ → Access → Request
asking f a = Asked (record { index = index_of f; sub = sub_of f; access = a })

abbrev pub taken_apart : List ℕ → Request
taken_apart f =
    cond (reading f) (asking f Read)
    (cond (writing f) (asking f (Write (said_length (byte f 0)) (data_of f)))
    UnknownCommand)
