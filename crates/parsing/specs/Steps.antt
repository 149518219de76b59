-- The fields of a line by their places: what the parsing functions promise each other. 01, chapter "Worked numbers", "Session program".
-- Reviewers can skip this file: `parse` promises the definition of `text`.
use Rattle.std.specs.Prelude.{ℕ, suc, cond, Option, None, Some, List, [], ◌∷◌, ltb, length, drop}
use Rattle.text.specs.Grammar.{decimal, fields, value, is_number}
use Rattle.numbers.specs.Steps.{number_at}
use Rattle.numbers.specs.declared.Number.{Number}

-- the fields behind one that ends at p
abbrev pub behind : List ℕ → ℕ → List (List ℕ)
behind l p = cond (ltb p (length l)) (fields (drop (suc p) l)) []

-- the number in the first of them
abbrev pub next_at : ℕ → ℕ → List ℕ → ℕ → Option Number
next_at base most l p = cond (ltb p (length l)) (number_at base most l (suc p)) None

-- the number in a field that is the only one
abbrev pub lone : ℕ → List (List ℕ) → Option ℕ
lone most [] = None
lone most (w ∷ []) = cond (is_number decimal most w) (Some (value decimal w)) None
lone most (w ∷ v ∷ ws) = None
