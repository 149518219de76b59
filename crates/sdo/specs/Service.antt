-- What is due to a request: the list "First that applies" of 01, chapter "Service requests".
use Rattle.std.specs.Prelude.{ℕ, ◌-◌, ◌/◌, ◌%◌, eqb, ltb, Bool, not, ◌&&◌, cond, List, [], ◌∷◌, Ok as At, Err, None as Blank, Some as Number}
use Rattle.cases.specs.Cases.{first_of}
use Rattle.names.specs.declared.Transfer.{Transfer}
use Rattle.entries.specs.declared.Device.{Device}
use Rattle.entries.specs.declared.table.Row.{Row}
use Rattle.entries.specs.Table.{Found, no_row, key, width, is_rw, accepted, lookup}
use Rattle.entries.specs.declared.table.NotFound.TheVariants.{NoSubIndex, NoIndex}
use Rattle.dictionary.specs.Shown.{Shown}
use Rattle.dictionary.specs.Reads.{shown}
use Rattle.dictionary.specs.Accepted.{accepts_in, is_signature, barred}
use Rattle.dictionary.specs.Writes.{own_key}
use Rattle.dictionary.specs.AbortCodes.{invalid_value, wrong_signature, device_state}
use Rattle.sdo.specs.AbortCodes.{request_code, found_code, read_only, too_long, too_short, shown_code}
use Rattle.std.specs.Prelude.{None as UnknownCommand}
use Rattle.sdo.specs.declared.reply.Served.{Served}
use Rattle.sdo.specs.Request.{byte, index_of, sub_of, data_of, aborting, reading, writing}
use Rattle.sdo.specs.Reply.{no_reply, answered, confirmed, aborted, segmented}

-- What is due: nothing, the value of an entry and its number of bytes, the confirmation that an entry got a value, an abort code,
-- or, to a segment request while a name is read, a reply's bytes and the transfer that it leaves.
pub data Due : Type 0 where
  none : Due
  value : ℕ → ℕ → Due
  confirmation : ℕ → ℕ → Due
  abort : ℕ → Due
  upload : List ℕ → Transfer → Due

-- The reply that joins, and what the request does.
abbrev pub answer : List ℕ → Due → Served
answer f none = no_reply
answer f (value width n) = answered f width n
-- a write to 6200-0 alters what 1800-5 names
answer f (confirmation k v) = confirmed f (own_key k) v
answer f (abort code) = aborted f code
answer f (upload bytes t) = segmented bytes t

abbrev pub is_absent : Found → Bool
is_absent x = not (eqb (found_code x) 0)

abbrev pub row_of : Found → Row
row_of (Err NoIndex) = no_row
row_of (Err NoSubIndex) = no_row
row_of (At r) = r

abbrev pub shown_of : Device → Bool → Found → Shown
shown_of d o (Err NoIndex) = Blank
shown_of d o (Err NoSubIndex) = Blank
shown_of d o (At r) = shown d o r

abbrev pub is_blank : Shown → Bool
is_blank s = not (eqb (shown_code s) 0)

abbrev pub number_in : Shown → ℕ
number_in Blank = 0
number_in (Number n) = n

-- with bit 0 set the length is 4 less bits 3..2, with bit 0 clear it is the entry's
abbrev pub length_of : List ℕ → ℕ → ℕ
length_of f width = cond (eqb (byte f 0 % 2) 1) (4 - byte f 0 / 4 % 4) width

-- the entry's bytes of the data; bytes past its length are ignored
abbrev pub cut_to : ℕ → ℕ → ℕ
cut_to width content = cond (eqb width 1) (content % 256) (cond (eqb width 2) (content % 65536) (content % 4294967296))

-- "First that applies" for the request f, where x is what the lookup of the entry found. A write that no step stops is confirmed.
abbrev pub steps : Device → Bool → List ℕ → Found → List (Bool × Due)
steps d o f x =
    let r = row_of x in
    let v = cut_to (width r) (data_of f) in
    -- 1. other top bits, or a write with bit 1 clear
    (not (reading f) && not (writing f), abort (request_code UnknownCommand)) ∷
    -- 2. no such index; no such sub-index
    (is_absent x, abort (found_code x)) ∷
    -- 3. write to ro
    (writing f && not (is_rw r), abort read_only) ∷
    -- 4. length: longer, shorter
    (writing f && ltb (width r) (length_of f (width r)), abort too_long) ∷
    (writing f && ltb (length_of f (width r)) (width r), abort too_short) ∷
    -- 5. value; for 1010-1, 1011-1 a wrong signature 0800 0020h
    (writing f && not (accepts_in d r v) && is_signature (accepted r), abort wrong_signature) ∷
    (writing f && not (accepts_in d r v), abort invalid_value) ∷
    -- 6. writes only: the state
    (writing f && barred d (key r) v, abort device_state) ∷
    -- 7. read of a blank
    (reading f && is_blank (shown_of d o x), abort (shown_code Blank)) ∷
    (reading f, value (width r) (number_in (shown_of d o x))) ∷
    []

abbrev pub due_of : Device → Bool → List ℕ → Found → Due
due_of d o f x =
    let r = row_of x in
    -- 4 abort (no effect, no reply)
    cond (aborting f) none (first_of (steps d o f x) (confirmation (key r) (cut_to (width r) (data_of f))))

unfoldable pub due : Device → Bool → List ℕ → Due
due d o f = due_of d o f (lookup (index_of f) (sub_of f))
