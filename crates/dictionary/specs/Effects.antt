-- What the entries read after an accepted write, and what the saved set then is: lists by the key of the written entry,
-- to compare with 01's chapters "Entries" and "Position" line by line. `EffectLaws` states that the entries do read so.
use Rattle.std.specs.Prelude.{ℕ, ◌+◌, eqb, pos, ◌-ℤ◌, ◌≡◌, Bool, cond, List, [], ◌∷◌, None as Blank, Some as Number}
use Rattle.std.proofs.Math.Option.{Option, none, some}
use Rattle.can.specs.Signed.{twos}
use Rattle.position.specs.Position.{directed, position}
use Rattle.entries.specs.declared.Device.{Device}
use Rattle.entries.specs.declared.Settings.{Settings}
use Rattle.entries.specs.declared.table.Row.{Row}
use Rattle.entries.specs.Settings.{factory}
use Rattle.entries.specs.Table.{missing, key_of, key}
use Rattle.dictionary.specs.Shown.{Shown}
use Rattle.dictionary.specs.Reads.{shown, reads}
use Rattle.dictionary.specs.Writes.{range_for, rescaled_to, written}
use Rattle.dictionary.specs.Valid.{ValidDevice}
use Rattle.dictionary.specs.Laws.{Takes}

-- what the list has for the key k, or a if it has nothing
abbrev pub given : {A : Type 0} → List (ℕ × A) → ℕ → A → A
given [] k a = a
given (e ∷ es) k a = cond (eqb k e.0) e.1 (given es k a)

-- sets 6003h and the offset to 0: the position is then that of these numbers, blank while missing
abbrev pub rescaled : Device → ℕ → ℕ → ℕ → List (ℕ × Shown)
rescaled d operating range step =
    let position' = position (rescaled_to operating range step) d.reading.raw in
    (0x6003_00, Number 0) ∷ (0x6509_00, Number 0) ∷ (0x6004_00, cond (missing d) Blank (Number position')) ∷ []

-- For a write of v to each entry: which entries then read something new, and what. The device may be Operational or not.
abbrev pub named : Device → Bool → ℕ → List (ℕ × List (ℕ × Shown))
named d o v =
    let p = d.settings.profile in
    -- only 0 accepted, empties the list; 1003-1..4 beyond the count are blank
    (0x1003_00, (0x1003_00, Number 0) ∷ (0x1003_01, Blank) ∷ (0x1003_02, Blank) ∷ (0x1003_03, Blank) ∷ (0x1003_04, Blank) ∷ []) ∷
    -- read 1
    (0x1010_01, []) ∷
    (0x1011_01, []) ∷
    -- 6200-0: 1800-5 under a second index
    (0x1800_05, (0x1800_05, Number v) ∷ (0x6200_00, Number v) ∷ []) ∷
    (0x6200_00, (0x1800_05, Number v) ∷ (0x6200_00, Number v) ∷ []) ∷
    -- Any accepted write of 6000h, 6002h or 6005h, also of an equal value, sets 6003h and the offset to 0;
    -- of 6000h also T, to 1,000,000 with scaling and 1,048,576 without.
    -- 6500-0: the value of entry 6000-0, plus bit 15 when Operational
    (0x6000_00, (0x6000_00, Number v) ∷ (0x6500_00, Number (v + cond o 0x8000 0)) ∷ (0x6002_00, Number (range_for v)) ∷ rescaled d v (range_for v) p.step) ∷
    (0x6002_00, (0x6002_00, Number v) ∷ rescaled d p.operating v p.step) ∷
    (0x6005_01, (0x6005_01, Number v) ∷ rescaled d p.operating p.range v) ∷
    -- Accepted 6003h = p: offset becomes p − d at the present sample, so the position reads p.
    (0x6003_00, (0x6003_00, Number v) ∷ (0x6509_00, Number (twos (pos v -ℤ pos (directed p d.reading.raw)))) ∷ (0x6004_00, Number v) ∷ []) ∷
    []

-- The effects of a write of v to the entry of key k. If the list names none, that entry reads v.
abbrev pub effects : Device → Bool → ℕ → ℕ → List (ℕ × Shown)
effects d o k v = given (named d o v) k ((k, Number v) ∷ [])

-- the new value if the list names the entry, else as before
abbrev pub anew : List (ℕ × Shown) → ℕ → Option Shown → Option Shown
anew es k none = none
anew es k (some s) = some (given es k s)

-- "save" copies the settings (.. plus the offset) to the saved set. "load" makes the saved set factory.
abbrev pub saved_by : Device → ℕ → Settings
saved_by d k = given ((0x1010_01, d.settings) ∷ (0x1011_01, factory d.node) ∷ []) k d.saved

-- 1010-1, 1011-1: read 1
abbrev pub read_back : ℕ → ℕ → ℕ
read_back k v = given ((0x1010_01, 1) ∷ (0x1011_01, 1) ∷ []) k v

-- An accepted write of v to the entry of the row r has exactly these effects, on all entries,
pub record EffectLaws : Type 0 where
  pub reads_after_law : (d : Device) (o : Bool) (r : Row) (v : ℕ) → ValidDevice d → Takes d r v → let k = key r in (i j : ℕ)
      → reads (written d k v) o i j ≡ anew (effects d o k v) (key_of i j) (reads d o i j)
  -- and the entry itself reads what was written
  pub own_after : (d : Device) (o : Bool) (r : Row) (v : ℕ) → ValidDevice d → Takes d r v → let k = key r in
      shown (written d k v) o r ≡ Number (read_back k v)
