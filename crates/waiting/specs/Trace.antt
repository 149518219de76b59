-- A frame that waits leaves: definitions for every list of calls and any head, seen as its waiting line. 01, chapter "The waiting line".
--     Machine, Sound     what a head must tell: its line, which of its calls are slots, and what each call does to the line
--     runs               the head after a list of calls
--     sent               what the slots of a list of calls sent: one kind for each slot in order, 0 for none
--     LeavesBy           a kind leaves by slot number b: a slot sends it, or a call withdraws it, and then it no longer waits
--     Recorded           the same, read from what the slots sent
--     Leaves, Demand3    when a kind leaves, for every sound machine
use Rattle.std.specs.Prelude.{ℕ, suc, ◌+◌, ◌<◌, ◌≤◌, ◌≡◌, Bool, true, false, cond, List, [], ◌∷◌, ◌++◌, ◌⊎◌, get_or}
use Rattle.waiting.specs.Line.{has, Kinds, first}
use Rattle.waiting.specs.Calls.{after}

pub record Machine (S I : Type 0) : Type 1 where
  -- a head after a call
  pub step : S → I → S
  -- whether the call is a slot
  pub slot : I → Bool
  -- the kinds that wait
  pub line : S → List ℕ
  -- the kinds that the call withdraws, and those that join
  pub out : S → I → List ℕ
  pub into : S → I → List ℕ
  -- the heads that come from power-up by calls
  pub Good : S → Type 0

module _ {S I : Type 0} (M : Machine S I) where
  -- Calls keep a head good, kinds 1 to n wait in it, and a call does to its line what it tells.
  pub record Sound (n : ℕ) : Type 0 where
    pub keeps : (s : S) (i : I) → M.Good s → M.Good (M.step s i)
    pub kinds : (s : S) → M.Good s → Kinds n (M.line s)
    pub acts : (s : S) (i : I) → M.Good s → M.line (M.step s i) ≡ after (M.slot i) (M.out s i) (M.into s i) (M.line s)
    -- what a call withdraws does not join in the same call
    pub apart : (s : S) (i : I) (k : ℕ) → M.Good s → has k (M.out s i) ≡ true → has k (M.into s i) ≡ false

  abbrev pub runs : S → List I → S
  runs s [] = s
  runs s (i ∷ is) = runs (M.step s i) is

  abbrev pub slots : List I → ℕ
  slots [] = 0
  slots (i ∷ is) = cond (M.slot i) 1 0 + slots is

  abbrev pub sent : S → List I → List ℕ
  sent s [] = []
  sent s (i ∷ is) = cond (M.slot i) (first (M.line s) ∷ sent (M.step s i) is) (sent (M.step s i) is)

  -- The call withdraws k, which does not wait after it.
  abbrev pub Withdrawn : ℕ → S → I → Type 0
  Withdrawn k s i = (has k (M.out s i) ≡ true) × (has k (M.line (M.step s i)) ≡ false)

  -- Of the calls `is`, one with fewer than b slots before it is a slot that sends k, or withdraws k.
  pub record LeavesBy (b k : ℕ) (s : S) (is : List I) : Type 0 where
    pub before : List I
    pub call : I
    pub rest : List I
    pub split : is ≡ before ++ call ∷ rest
    pub early : slots before < b
    pub how : ((M.slot call ≡ true) × (first (M.line (runs s before)) ≡ k)) ⊎ Withdrawn k (runs s before) call

  -- The kind at place p, counted from 0, leaves by slot number p + 1.
  abbrev pub Leaves : Type 0
  Leaves = (k : ℕ) → 0 < k → (is : List I) (s : S) (p : ℕ) → M.Good s → get_or (M.line s) p 0 ≡ k → p < slots is → LeavesBy (suc p) k s is

  -- A kind that waits leaves by the n-th slot from now, no matter what is called between, unless a withdrawal takes it first.
  abbrev pub Demand3 : ℕ → Type 0
  Demand3 n = (s : S) (k : ℕ) (is : List I) → M.Good s → has k (M.line s) ≡ true → n ≤ slots is → LeavesBy n k s is

  -- What the slots sent shows it: one of the first b of them sent k, or a call withdrew it.
  abbrev pub Recorded : ℕ → ℕ → S → List I → Type 0
  Recorded b k s is =
      ((j : ℕ) × (j < b) × (get_or (sent s is) j 0 ≡ k))
      ⊎ ((before : List I) × (call : I) × (rest : List I) × (is ≡ before ++ call ∷ rest) × Withdrawn k (runs s before) call)
