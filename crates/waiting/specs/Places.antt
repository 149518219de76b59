-- The line in its places, "a small array of kind numbers": 01, chapter "Which form
-- belongs where". 0 is an empty place, and empty places come after the waiting kinds.
-- Each function does what its namesake in specs/Line.antt does, for every list of places, so no call has to require a proper line.
use Rattle.std.specs.Prelude.{ℕ, ◌≡◌, cond, List, [], ◌∷◌, eqb, length}
use Rattle.cases.specs.Padded.{pad}
use Rattle.waiting.specs.Line.{Kinds, withdraw, first}

-- A kind joins at the end, which is the first empty place; one that waits already keeps its place.
abbrev pub join_in : List ℕ → ℕ → List ℕ
join_in [] k = []
join_in (x ∷ xs) k = cond (eqb x 0) (k ∷ xs) (cond (eqb x k) (x ∷ xs) (x ∷ join_in xs k))

-- A withdrawal takes a kind; the others move up.
abbrev pub withdraw_in : List ℕ → ℕ → List ℕ
withdraw_in l k = pad (length l) (withdraw l k)

-- the places once the first is sent
abbrev pub taken_in : List ℕ → List ℕ
taken_in l = withdraw_in l (first l)

-- what waits in the places
abbrev pub waiting : List ℕ → List ℕ
waiting l = withdraw l 0

-- the places l hold the line ws, and nothing else
pub record Holds (n : ℕ) (l ws : List ℕ) : Type 0 where
  pub shape : l ≡ pad n ws
  pub kinds : Kinds n ws
