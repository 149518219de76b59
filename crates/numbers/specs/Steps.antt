-- A field of a line, from the place where it starts, read as a number: 01, chapter "Worked numbers", "Session
-- program". Reviewers can skip this file: it follows the code, and `parsing::parse` promises the definition of `text`.
use Rattle.std.specs.Prelude.{ℕ, ◌+◌, cond, Option, None, Some, List, [], ◌∷◌, eqb, ltb, length, drop}
use Prim.Native.Char.{code}
use Rattle.text.specs.Grammar.{digit_of, value, is_number}
use Rattle.numbers.specs.declared.Number.{Number}

-- what stands before the first space
abbrev pub word : List ℕ → List ℕ
word [] = []
word (x ∷ xs) = cond (eqb x (code " ")) [] (x ∷ word xs)

-- the digit that a byte is, in a base
abbrev pub digit_in : ℕ → ℕ → Option ℕ
digit_in base b = cond (ltb (digit_of b) base) (Some (digit_of b)) None

-- the field that begins at `at`, read as a number of 1 to `most` digits
abbrev pub number_of : ℕ → ℕ → ℕ → List ℕ → Option Number
number_of base most at w = cond (is_number base most w) (Some (record { value = value base w; end = at + length w })) None

abbrev pub number_at : ℕ → ℕ → List ℕ → ℕ → Option Number
number_at base most l at = number_of base most at (word (drop at l))
