-- What one call does to the line: a slot sends the first kind; then the kinds
-- `out` are withdrawn and the kinds `into` join. 01, chapter "The waiting line".
-- `after` states this for the line, `after_in` for the places that hold it.
use Rattle.std.specs.Prelude.{ℕ, ◌-◌, ◌<◌, ◌≤◌, Bool, false, cond, List, [], ◌∷◌, drop, get_or}
use Rattle.waiting.specs.Line.{join, withdraw}
use Rattle.waiting.specs.Places.{join_in, withdraw_in, taken_in}

abbrev pub withdraws : List ℕ → List ℕ → List ℕ
withdraws ws [] = ws
withdraws ws (k ∷ ks) = withdraws (withdraw ws k) ks

-- the kinds of a list, one after another
abbrev pub joins : List ℕ → List ℕ → List ℕ
joins ws [] = ws
joins ws (k ∷ ks) = joins (join ws k) ks

abbrev pub after : Bool → List ℕ → List ℕ → List ℕ → List ℕ
after slot out into ws = joins (withdraws (cond slot (drop 1 ws) ws) out) into

abbrev pub withdraws_in : List ℕ → List ℕ → List ℕ
withdraws_in l [] = l
withdraws_in l (k ∷ ks) = withdraws_in (withdraw_in l k) ks

abbrev pub joins_in : List ℕ → List ℕ → List ℕ
joins_in l [] = l
joins_in l (k ∷ ks) = joins_in (join_in l k) ks

abbrev pub after_in : Bool → List ℕ → List ℕ → List ℕ → List ℕ
after_in slot out into l = joins_in (withdraws_in (cond slot (taken_in l) l) out) into

-- a kind if it is due, else none
abbrev pub if_due : Bool → ℕ → List ℕ
if_due due k = cond due (k ∷ []) []

-- those of a list that are due, in its order: `those_due due order` are the kinds that join in a call
abbrev pub those_due : (ℕ → Bool) → List ℕ → List ℕ
those_due due [] = []
those_due due (k ∷ ks) = cond (due k) (k ∷ those_due due ks) (those_due due ks)

-- whether a kind is flagged; the flags stand in the order of the kinds' numbers
abbrev pub flagged : List Bool → ℕ → Bool
flagged flags k = get_or flags (k - 1) false

-- the kinds of a list are kinds 1 to n
pub data Named (n : ℕ) : List ℕ → Type 0 where
  none : Named n []
  more : {k : ℕ} {ks : List ℕ} → 0 < k → k ≤ n → Named n ks → Named n (k ∷ ks)
