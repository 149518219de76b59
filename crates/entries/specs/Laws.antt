-- Laws of the table: its order, and what is found for every index and sub-index.
-- 01, chapter "Entries".
use Rattle.std.specs.Prelude.{ℕ, ◌+◌, ◌*◌, ◌<◌, eqb, ltb, length, ◌≡◌, ◌↔◌, Bool, true, false, ◌&&◌, cond, List, [], ◌∷◌, map, Ok as At, Err}
use Rattle.std.proofs.Math.Option.{Option, none, some}
use Rattle.entries.specs.declared.Identity.{Identity}
use Rattle.entries.specs.Identity.{name_of}
use Rattle.entries.specs.declared.table.Row.{Row}
use Rattle.entries.specs.declared.table.Accepted.TheVariants.{Nothing}
use Rattle.entries.specs.Table.{Found, table, row_at, key, index, sub, width, is_rw, accepted, lookup}
use Rattle.entries.specs.declared.table.NotFound.TheVariants.{NoSubIndex, NoIndex}

-- The list has the row r.
abbrev pub Listed : Row → Type 0
Listed r = (p : ℕ) × ((p < length table) × (row_at p ≡ r))

-- a row of the index i,
abbrev pub HasIndex : Row → ℕ → Type 0
HasIndex r i = Listed r × (index r ≡ i)

-- and the row of the entry i-j
abbrev pub Stands : Row → ℕ → ℕ → Type 0
Stands r i j = HasIndex r i × (sub r ≡ j)

-- Each answer of `lookup` is given exactly when it is due.
pub record Finds (i j : ℕ) : Type 0 where
  -- a row is found exactly if the list has it
  pub at : (r : Row) → (lookup i j ≡ At r) ↔ Stands r i j
  -- no such sub-index: some row has the index, and none has both
  pub no_sub_index : (lookup i j ≡ Err NoSubIndex) ↔ (((r : Row) × HasIndex r i) × ((r : Row) → Stands r i j → ⊥))
  -- no such index: no row has it
  pub no_index : (lookup i j ≡ Err NoIndex) ↔ ((r : Row) → HasIndex r i → ⊥)

-- increasing keys: each is above the one before it, the first above a
abbrev pub rises_from : ℕ → List ℕ → Bool
rises_from a [] = true
rises_from a (b ∷ l) = ltb a b && rises_from b l

-- 01's table "Entries", its first two columns, and the names 1008h, 1009h, 100Ah: index, sub-index, the type's bytes, whether it is rw.
abbrev pub columns : List (ℕ × ℕ × ℕ × Bool)
columns =
    (0x1000, 0, 4, false) ∷
    (0x1001, 0, 1, false) ∷
    (0x1003, 0, 1, true) ∷
    (0x1003, 1, 4, false) ∷
    (0x1003, 2, 4, false) ∷
    (0x1003, 3, 4, false) ∷
    (0x1003, 4, 4, false) ∷
    (0x1005, 0, 4, false) ∷
    (0x1008, 0, 32, false) ∷
    (0x1009, 0, 32, false) ∷
    (0x100A, 0, 32, false) ∷
    (0x1010, 0, 1, false) ∷
    (0x1010, 1, 4, true) ∷
    (0x1011, 0, 1, false) ∷
    (0x1011, 1, 4, true) ∷
    (0x1014, 0, 4, true) ∷
    (0x1015, 0, 2, true) ∷
    (0x1017, 0, 2, true) ∷
    (0x1018, 0, 1, false) ∷
    (0x1018, 1, 4, false) ∷
    (0x1018, 2, 4, false) ∷
    (0x1018, 3, 4, false) ∷
    (0x1018, 4, 4, false) ∷
    (0x1800, 0, 1, false) ∷
    (0x1800, 1, 4, true) ∷
    (0x1800, 2, 1, true) ∷
    (0x1800, 5, 2, true) ∷
    (0x1801, 0, 1, false) ∷
    (0x1801, 1, 4, true) ∷
    (0x1801, 2, 1, true) ∷
    (0x1801, 5, 2, true) ∷
    (0x1A00, 0, 1, false) ∷
    (0x1A00, 1, 4, false) ∷
    (0x1A01, 0, 1, false) ∷
    (0x1A01, 1, 4, false) ∷
    (0x6000, 0, 2, true) ∷
    (0x6002, 0, 4, true) ∷
    (0x6003, 0, 4, true) ∷
    (0x6004, 0, 4, false) ∷
    (0x6005, 0, 1, false) ∷
    (0x6005, 1, 4, true) ∷
    (0x6200, 0, 2, true) ∷
    (0x6500, 0, 2, false) ∷
    (0x6501, 0, 4, false) ∷
    (0x6503, 0, 2, false) ∷
    (0x6504, 0, 2, false) ∷
    (0x6509, 0, 4, false) ∷
    []

-- a line of these columns
abbrev pub Line : Type 0
Line = ℕ × ℕ × ℕ × Bool

-- What the columns have for i-j: its line; if they have none, whether any line has the index.
abbrev pub index_stands : Option (Option Line) → Option (Option Line)
index_stands none = some none
index_stands (some x) = some x

abbrev pub sought_in : List Line → ℕ → ℕ → Option (Option Line)
sought_in [] i j = none
sought_in (l ∷ ls) i j = cond (eqb l.0 i) (cond (eqb l.1 j) (some (some l)) (index_stands (sought_in ls i j))) (sought_in ls i j)

abbrev pub line_of : Found → Option (Option Line)
line_of (At r) = some (some (index r, sub r, width r, is_rw r))
line_of (Err NoSubIndex) = some none
line_of (Err NoIndex) = none

pub record Laws : Type 0 where
  -- What is found for every index and sub-index is what these columns have: these entries, and no others.
  pub by_columns : (i j : ℕ) → line_of (lookup i j) ≡ sought_in columns i j
  -- these are all the rows, and no others
  pub all_of_them : map (λ r. (index r, sub r, width r, is_rw r)) table ≡ columns
  -- the number that names an entry elsewhere: 6003-0 is 0x6003_00
  pub keys : (r : Row) (i j : ℕ) → Stands r i j → key r ≡ i * 256 + j
  pub finds : (i j : ℕ) → Finds i j
  -- the names 1008h, 1009h and 100Ah, numbered 1 to 3
  pub names : (i : Identity) → (name_of i 1 ≡ i.name) × (name_of i 2 ≡ i.hardware) × (name_of i 3 ≡ i.software)
  -- in index order, so that each entry is there once
  pub rising : rises_from 0 (map key table) ≡ true
  -- an ro entry accepts nothing
  pub read_only : (r : Row) → Listed r → is_rw r ≡ false → accepted r ≡ Nothing
