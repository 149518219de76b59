-- The lines of an input, and how a line is gathered byte by byte: 01, chapter "Worked numbers", "Session program".
-- A line is the list of its bytes, without the 0Ah that ends it.
use Rattle.std.specs.Prelude.{ℕ, ◌+◌, true, cond, List, [], ◌∷◌, eqb, ltb, length, take, set}
use Prim.Native.Char.{code}
use Rattle.cases.specs.Padded.{pad}
use Rattle.text.specs.declared.Line.{Line}

-- a byte in front of the first part
abbrev pub onto : ℕ → List (List ℕ) → List (List ℕ)
onto x [] = (x ∷ []) ∷ []
onto x (l ∷ ls) = (x ∷ l) ∷ ls

-- Lines .. ended by 0Ah or the end of input (none after a last 0Ah)
abbrev pub lines : List ℕ → List (List ℕ)
lines [] = []
lines (x ∷ xs) = cond (eqb x (code "\n")) ([] ∷ lines xs) (onto x (lines xs))

abbrev pub at_most : ℕ → ℕ → ℕ
at_most most n = cond (ltb n most) n most

-- Lines of at most 64 bytes
abbrev pub longest : ℕ
longest = 64

-- what is kept of a line: its first 64 bytes, their number, and whether the line is longer
unfoldable pub line_of : List ℕ → Line
line_of l =
    record {
      bytes = pad longest l;
      len = at_most longest (length l);
      long = ltb longest (length l);
    }

abbrev pub blank : Line
blank = line_of []

-- the bytes that are kept
abbrev pub held : Line → List ℕ
held r = take r.len r.bytes

-- one byte more
unfoldable pub pushed : Line → ℕ → Line
pushed r b =
    cond (ltb r.len longest)
    (record { bytes = set r.bytes r.len b; len = r.len + 1; long = r.long })
    (record { bytes = r.bytes; len = r.len; long = true })

-- the lines that a reader passes on, when it takes byte after byte and has gathered r
abbrev pub handed : Line → List ℕ → List Line
handed r [] = cond (eqb r.len 0) [] (r ∷ [])
handed r (b ∷ bs) = cond (eqb b (code "\n")) (r ∷ handed blank bs) (handed (pushed r b) bs)
