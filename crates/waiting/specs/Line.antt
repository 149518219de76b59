-- The waiting line as a list of kind numbers, first to last: 01, chapter "The waiting line".
-- The laws hold for any number of kinds; 01 has five.
use Rattle.std.specs.Prelude.{ℕ, ◌<◌, ◌≤◌, ◌≡◌, Bool, false, ◌||◌, cond, List, [], ◌∷◌, eqb, get_or}

-- Five kinds can wait: emergency, SDO reply, heartbeat, TPDO1, TPDO2.
abbrev pub places : ℕ
places = 5

abbrev pub emergency : ℕ
emergency = 1

abbrev pub sdo_reply : ℕ
sdo_reply = 2

abbrev pub heartbeat : ℕ
heartbeat = 3

abbrev pub tpdo1 : ℕ
tpdo1 = 4

abbrev pub tpdo2 : ℕ
tpdo2 = 5

-- Several joining in one call join in the order just given.
abbrev pub order : List ℕ
order = emergency ∷ sdo_reply ∷ heartbeat ∷ tpdo1 ∷ tpdo2 ∷ []

-- whether a kind waits
abbrev pub has : ℕ → List ℕ → Bool
has k [] = false
has k (x ∷ xs) = eqb x k || has k xs

-- Kinds 1 to n can wait, each at most once.
abbrev pub Kinds : ℕ → List ℕ → Type 0
Kinds n [] = Unit {0}
Kinds n (x ∷ xs) = (0 < x) × (x ≤ n) × (has x xs ≡ false) × Kinds n xs

-- A kind joins at the end; one that waits already keeps its place.
abbrev pub join : List ℕ → ℕ → List ℕ
join [] k = k ∷ []
join (x ∷ xs) k = cond (eqb x k) (x ∷ xs) (x ∷ join xs k)

-- A withdrawal takes a kind; the others stay, in their order.
abbrev pub withdraw : List ℕ → ℕ → List ℕ
withdraw [] k = []
withdraw (x ∷ xs) k = cond (eqb x k) (withdraw xs k) (x ∷ withdraw xs k)

-- A slot sends the first: its kind, or 0 if none waits. `drop 1` is the line without it.
abbrev pub first : List ℕ → ℕ
first ws = get_or ws 0 0
