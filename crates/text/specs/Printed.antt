-- What is printed: 01, chapter "Worked numbers", "Session program".
-- Every printed line ends in 0Ah.
use Rattle.std.specs.Prelude.{ℕ, ◌+◌, ◌-◌, ◌/◌, ◌%◌, cond, List, [], ◌∷◌, ◌++◌, ltb, take}
use Prim.Native.Char.{code}
use Rattle.can.specs.declared.Frame.{Frame}
use Rattle.text.specs.Ascii.{ascii}

-- capitals
abbrev pub hex_of : ℕ → ℕ
hex_of n = cond (ltb n 10) (code "0" + n) (code "A" - 10 + n)

-- the hex digit at a weight: 1, 16, 256
abbrev pub digit_at : ℕ → ℕ → ℕ
digit_at weight n = hex_of (n / weight % 16)

-- identifier (3 digits), length
abbrev pub begun : ℕ → ℕ → List ℕ
begun id len = digit_at 256 id ∷ digit_at 16 id ∷ digit_at 1 id ∷ code " " ∷ digit_at 1 len ∷ []

-- and bytes
abbrev pub pairs_text : List ℕ → List ℕ
pairs_text [] = []
pairs_text (b ∷ bs) = code " " ∷ digit_at 16 b ∷ digit_at 1 b ∷ pairs_text bs

-- A slot prints identifier (3 digits), length and bytes, capitals,
abbrev pub frame_shown : Frame → List ℕ
frame_shown f = begun f.identifier f.length ++ pairs_text (take f.length f.bytes)

unfoldable pub frame_text : Frame → List ℕ
frame_text f = frame_shown f ++ ascii "\n"

-- or `-`;
abbrev pub none_text : List ℕ
none_text = ascii "-\n"

-- a refusal prints `E` and its number. The numbers have one digit.
unfoldable pub refusal_text : ℕ → List ℕ
refusal_text n = ascii "E " ++ digit_at 1 n ∷ ascii "\n"
