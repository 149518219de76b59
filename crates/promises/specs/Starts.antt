-- What power-up leaves, "It starts in Initialising with factory settings, the saved set equal to them, the reading
-- missing, the error list empty", and which of it no call changes. 01, chapters "States", "Refusal numbers" and "Entries".
use Rattle.std.specs.Prelude.{ℕ, ◌+◌, replicate, ◌≡◌, cond, ◌⊎◌, List, [], ◌∷◌, ◌++◌, map, None as Blank, Some as Number}
use Rattle.std.proofs.Math.Option.{some}
use Rattle.can.specs.declared.Received.{Received}
use Rattle.can.specs.Number.{low_first}
use Rattle.names.specs.declared.Name.{Name}
use Rattle.entries.specs.declared.Identity.{Identity}
use Rattle.entries.specs.Table.{table, index, sub, width}
use Rattle.dictionary.specs.Shown.{Shown}
use Rattle.promises.specs.States.{Reset, restored, to_reset}
use Rattle.promises.specs.Calls.{Call, slot, step, receive}
use Rattle.promises.specs.Meant.{Commands, Requests, due_to}
use Rattle.promises.specs.Histories.{after, PowerUp, powered}
use Rattle.promises.specs.Readings.{reads_in, due_shown}
use Rattle.promises.specs.Resets.{Saves, None}
use Rattle.promises.specs.Gap.{is_taken, node_of}
use Rattle.promises.specs.Node1.{data_frame}
use Rattle.promises.specs.Codes.{All}
use Rattle.promises.specs.Demand1.{BadNode, NamesFit}

-- "?"
abbrev pub question : Name
question = record { bytes = 0x3F ∷ replicate 31 0; length = 1 }

-- 4's head (node 1, identity 0) and the name "?" for each
abbrev pub refused_identity : Identity
refused_identity =
    record { vendor = 0; product = 0; revision = 0; serial = 0; name = question; hardware = question; software = question }

-- The identity numbers and the names of power-up; those of one that is refused are 0 and "?".
abbrev pub identity_of : PowerUp → Identity
identity_of p = cond (is_taken p) p.identity refused_identity

-- index, sub-index, bytes, and what it reads
abbrev pub Line : Type 0
Line = ℕ × ℕ × ℕ × Shown

-- 01's table "Entries", its column "Factory", for node n and identity i: before the first sample, and before the first call.
abbrev pub first_reads : ℕ → Identity → List Line
first_reads n i =
    (0x1000, 0, 4, Number 0x00080196) ∷
    -- 1 while missing
    (0x1001, 0, 1, Number 1) ∷
    -- 1003-1..4 beyond the count are blank
    (0x1003, 0, 1, Number 0) ∷
    (0x1003, 1, 4, Blank) ∷
    (0x1003, 2, 4, Blank) ∷
    (0x1003, 3, 4, Blank) ∷
    (0x1003, 4, 4, Blank) ∷
    (0x1005, 0, 4, Number 0x80) ∷
    -- the size of each name
    (0x1008, 0, 32, Number i.name.length) ∷
    (0x1009, 0, 32, Number i.hardware.length) ∷
    (0x100A, 0, 32, Number i.software.length) ∷
    (0x1010, 0, 1, Number 1) ∷
    (0x1010, 1, 4, Number 1) ∷
    (0x1011, 0, 1, Number 1) ∷
    (0x1011, 1, 4, Number 1) ∷
    (0x1014, 0, 4, Number (0x80 + n)) ∷
    (0x1015, 0, 2, Number 0) ∷
    (0x1017, 0, 2, Number 0) ∷
    (0x1018, 0, 1, Number 4) ∷
    (0x1018, 1, 4, Number i.vendor) ∷
    (0x1018, 2, 4, Number i.product) ∷
    (0x1018, 3, 4, Number i.revision) ∷
    (0x1018, 4, 4, Number i.serial) ∷
    (0x1800, 0, 1, Number 5) ∷
    (0x1800, 1, 4, Number (0x180 + n)) ∷
    (0x1800, 2, 1, Number 254) ∷
    (0x1800, 5, 2, Number 100) ∷
    (0x1801, 0, 1, Number 5) ∷
    (0x1801, 1, 4, Number (0x280 + n)) ∷
    (0x1801, 2, 1, Number 1) ∷
    (0x1801, 5, 2, Number 0) ∷
    (0x1A00, 0, 1, Number 1) ∷
    (0x1A00, 1, 4, Number 0x60040020) ∷
    (0x1A01, 0, 1, Number 1) ∷
    (0x1A01, 1, 4, Number 0x60040020) ∷
    (0x6000, 0, 2, Number 0) ∷
    (0x6002, 0, 4, Number 1048576) ∷
    (0x6003, 0, 4, Number 0) ∷
    -- position; blank while missing
    (0x6004, 0, 4, Blank) ∷
    (0x6005, 0, 1, Number 1) ∷
    (0x6005, 1, 4, Number 5000) ∷
    (0x6200, 0, 2, Number 100) ∷
    (0x6500, 0, 2, Number 0) ∷
    (0x6501, 0, 4, Number 5000) ∷
    (0x6503, 0, 2, Number 1) ∷
    (0x6504, 0, 2, Number 1) ∷
    (0x6509, 0, 4, Number 0) ∷
    []

abbrev pub first_lines : PowerUp → List Line
first_lines p = first_reads (node_of p) (identity_of p)

-- the request to read the entry i-j of node n
abbrev pub reading : ℕ → ℕ → ℕ → Received
reading n i j = data_frame (0x600 + n) 8 (0x40 ∷ low_first 2 i ++ j ∷ 0 ∷ 0 ∷ 0 ∷ 0 ∷ [])

-- A line of the list is right: for the entry, and once the boot-up frame is sent for the reply due to a request for it.
pub record Reads (p : PowerUp) (l : Line) : Type 0 where
  pub entry : reads_in (powered p) l.0 l.1 ≡ some l.3
  pub due : due_to (step (powered p) slot) (reading (node_of p) l.0 l.1) ≡ due_shown l.2 l.3

pub record Starts : Type 0 where
  -- Each entry of the table stands in the list, in its order, with its bytes.
  pub all_of_them : (n : ℕ) (i : Identity)
      → map {B = ℕ × ℕ × ℕ} (λ l. (l.0, l.1, l.2)) (first_reads n i) ≡ map (λ r. (index r, sub r, width r)) table
  -- It starts .. with factory settings, .. the reading missing, the error list empty,
  pub reads : (p : PowerUp) → All (Reads p) (first_lines p)
  -- (such a request is one that is then served)
  pub asked : (p : PowerUp) (i j : ℕ) → Requests (step (powered p) slot) (reading (node_of p) i j)
  -- the saved set equal to them
  pub saved : (p : PowerUp) → (powered p).core.device.saved ≡ (powered p).core.device.settings
  -- so that a reset restores these until 1010-1 or 1011-1 is written: 81h all of them, 82h those below 2000h
  pub restores : (p : PowerUp) (cs : List Call) → None Saves (powered p) cs → let h = after (powered p) cs in (f : Received) (r : Reset)
      → Commands h f (to_reset r)
      → (step h (receive f)).core.device.settings ≡ restored r h.core.device.settings (powered p).core.device.settings
  -- Power-up takes .. four identity numbers and three names; no call alters them.
  pub same_identity : (p : PowerUp) (cs : List Call) → (after (powered p) cs).core.device.identity ≡ identity_of p
  -- 4: .. and a head of node 1 with identity numbers 0; 5 gives the same, and both the name "?" for each
  pub refused : (p : PowerUp) → BadNode p.number ⊎ (NamesFit p.identity → ⊥) → (cs : List Call)
      → let d = (after (powered p) cs).core.device in (d.node ≡ 1) × (d.identity ≡ refused_identity)
  -- 1018-1..4: identity
  pub identity_read : (p : PowerUp) (cs : List Call) → let h = after (powered p) cs in let i = identity_of p in
      (reads_in h 0x1018 1 ≡ some (Number i.vendor))
      × (reads_in h 0x1018 2 ≡ some (Number i.product))
      × (reads_in h 0x1018 3 ≡ some (Number i.revision))
      × (reads_in h 0x1018 4 ≡ some (Number i.serial))
