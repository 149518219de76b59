-- What a line says: 01, chapter "Worked numbers", "Session program", in its order.
-- A line that has none of these forms is `malformed`: refusal 9, "a line not of its form".
use Rattle.std.specs.Prelude.{ℕ, ◌+◌, ◌*◌, ◌-◌, Bool, true, false, ◌&&◌, cond, Option, None, Some, List, [], ◌∷◌, map, eqb, ltb, length}
use Prim.Native.Char.{code}
use Rattle.cases.specs.Cases.{first_of}
use Rattle.cases.specs.Tests.{within}
use Rattle.cases.specs.Padded.{pad}
use Rattle.text.specs.Ascii.{ascii}
use Rattle.text.specs.Lines.{onto, at_most, longest, held}
use Rattle.text.specs.declared.Command.{Command}
use Rattle.text.specs.declared.Command.TheVariants.{Frame, Ticks, Sample, Missing, Slot}
use Rattle.text.specs.declared.Line.{Line}

-- fields parted by one space: one more field than spaces; between two spaces in a row the field is empty
abbrev pub fields : List ℕ → List (List ℕ)
fields [] = [] ∷ []
fields (x ∷ xs) = cond (eqb x (code " ")) ([] ∷ fields xs) (onto x (fields xs))

-- hex digits of either case; 16 stands for a byte that is no digit, in any base
abbrev pub digit_of : ℕ → ℕ
digit_of b =
    first_of
    ((within (code "0") (code "9") b, b - code "0")
    ∷ (within (code "A") (code "F") b, b - code "A" + 10)
    ∷ (within (code "a") (code "f") b, b - code "a" + 10)
    ∷ [])
    16

abbrev pub hex : ℕ
hex = 16

abbrev pub decimal : ℕ
decimal = 10

abbrev pub digits : ℕ → List ℕ → Bool
digits base [] = true
digits base (x ∷ xs) = ltb (digit_of x) base && digits base xs

-- 1 to `most` digits
abbrev pub is_number : ℕ → ℕ → List ℕ → Bool
is_number base most w = digits base w && within 1 most (length w)

-- the number in these digits, highest digit first, after digits whose number is v
abbrev pub value_from : ℕ → ℕ → List ℕ → ℕ
value_from base v [] = v
value_from base v (x ∷ xs) = value_from base (v * base + digit_of x) xs

abbrev pub value : ℕ → List ℕ → ℕ
value base w = value_from base 0 w

-- the command that a line says, if it is of its form
abbrev pub Parsed : Type 0
Parsed = Option Command

-- a command with the bytes of its frame, 0 beyond them
abbrev pub made : (List ℕ → Command) → List ℕ → Parsed
made c bytes = Some (c (pad 8 bytes))

abbrev pub only : Command → Parsed
only c = Some c

-- a line not of its form
abbrev pub malformed : Parsed
malformed = None

-- 8 where len is 9
abbrev pub pairs_for : ℕ → ℕ
pairs_for len = at_most 8 len

abbrev pub is_pair : List ℕ → Bool
is_pair w = digits hex w && eqb (length w) 2

abbrev pub all : (List ℕ → Bool) → List (List ℕ) → Bool
all p [] = true
all p (w ∷ ws) = p w && all p ws

abbrev pub framed : ℕ → ℕ → List (List ℕ) → Parsed
framed id len pairs =
    cond (eqb (length pairs) (pairs_for len) && all is_pair pairs) (made (Frame id len) (map (value hex) pairs)) malformed

-- `F id len bytes` (id 1..8 hex digits, an 11-bit identifier; len one digit; as many hex pairs, but 8 where len is 9)
abbrev pub frame_of : List (List ℕ) → Parsed
frame_of [] = malformed
frame_of (id ∷ []) = malformed
frame_of (id ∷ len ∷ pairs) =
    cond (is_number hex 8 id && is_number decimal 1 len) (framed (value hex id) (value decimal len) pairs) malformed

-- `T n` (1..4 digits, 1..1000 ticks)
abbrev pub ticks_of : List (List ℕ) → Parsed
ticks_of [] = malformed
ticks_of (n ∷ []) = cond (is_number decimal 4 n && within 1 1000 (value decimal n)) (only (Ticks (value decimal n))) malformed
ticks_of (n ∷ more ∷ fs) = malformed

-- two lines or fields with the same bytes
abbrev pub same : List ℕ → List ℕ → Bool
same [] [] = true
same [] (y ∷ ys) = false
same (x ∷ xs) [] = false
same (x ∷ xs) (y ∷ ys) = eqb x y && same xs ys

-- `S r` (1..10 digits) or `S -`
abbrev pub sample_of : List (List ℕ) → Parsed
sample_of [] = malformed
sample_of (r ∷ []) = first_of ((is_number decimal 10 r, only (Sample (value decimal r))) ∷ (same r (ascii "-"), only Missing) ∷ []) malformed
sample_of (r ∷ more ∷ fs) = malformed

-- `?` (slot)
abbrev pub slot_of : List (List ℕ) → Parsed
slot_of [] = only Slot
slot_of (more ∷ fs) = malformed

-- the first field is the key, and says which form the line has
abbrev pub command : List (List ℕ) → Parsed
command [] = malformed
command (key ∷ fs) =
    first_of
    ((same key (ascii "F"), frame_of fs)
    ∷ (same key (ascii "T"), ticks_of fs)
    ∷ (same key (ascii "S"), sample_of fs)
    ∷ (same key (ascii "?"), slot_of fs)
    ∷ [])
    malformed

unfoldable pub parsed : List ℕ → Parsed
parsed l = command (fields l)

-- Lines of at most 64 bytes: a longer one is not of its form
abbrev pub says : List ℕ → Parsed
says l = cond (ltb longest (length l)) malformed (parsed l)

-- the same for a line that was gathered byte by byte
abbrev pub says_line : Line → Parsed
says_line r = cond r.long malformed (parsed (held r))
