-- What entries read later, for all entries and every list of calls: what only an accepted write or a reset changes, and
-- what "save", "load" and the two resets leave, from what each entry read before. 01, chapters "Entries" and "States".
use Rattle.std.specs.Prelude.{ℕ, ◌+◌, eqb, ◌≡◌, false, cond, List, [], ◌∷◌, Some as Number}
use Rattle.std.proofs.Math.Option.{Option, some}
use Rattle.can.specs.declared.Received.{Received}
use Rattle.entries.specs.Table.{key_of}
use Rattle.dictionary.specs.Shown.{Shown}
use Rattle.sdo.specs.Worked.{bytes}
use Rattle.waiting.specs.Line.{has}
use Rattle.parts.specs.declared.Head.{Head}
use Rattle.promises.specs.States.{Reset, of_node, of_communication, to_reset}
use Rattle.promises.specs.Calls.{Call, receive, step}
use Rattle.promises.specs.Meant.{Commands, Requests, Writes}
use Rattle.promises.specs.Histories.{after, PowerUp, powered, Reachable}
use Rattle.promises.specs.Readings.{reads_in}
use Rattle.promises.specs.Resets.{restored_by82, Saves, Alters, None}
use Rattle.promises.specs.Gap.{node_of}
use Rattle.promises.specs.Codes.{code_after}

-- The entries that show samples or the state: 1001-0, 6004-0 and 6503-0 (`Readings`), 1003-0..4 (`ErrorList`), 6500-0 (`status`).
abbrev pub telling : List ℕ
telling = 0x1001_00 ∷ 0x1003_00 ∷ 0x1003_01 ∷ 0x1003_02 ∷ 0x1003_03 ∷ 0x1003_04 ∷ 0x6004_00 ∷ 0x6500_00 ∷ 0x6503_00 ∷ []

-- a property of every other entry
abbrev pub OfEach : (ℕ → ℕ → Type 0) → Type 0
OfEach P = (i j : ℕ) → has (key_of i j) telling ≡ false → P i j

-- What an entry of index i reads after a reset: `saved` is what it read when the saved set was made, `before` just before the reset.
abbrev pub reads_after : Reset → ℕ → Option Shown → Option Shown → Option Shown
-- 81h sets all settings to the saved set;
reads_after of_node i saved before = saved
-- 82h only those below 2000h.
reads_after of_communication i saved before = cond (restored_by82 i) saved before

-- From the head `now`, after any calls but a save or a load, a reset restores what the entries read in the head `then`.
abbrev pub RestoresFrom : Head → Head → Type 0
RestoresFrom then now =
    (cs : List Call) → None Saves now cs → let h = after now cs in (f : Received) (r : Reset) → Commands h f (to_reset r)
    → OfEach (λ i j. reads_in (step h (receive f)) i j ≡ reads_after r i (reads_in then i j) (reads_in h i j))

pub record Staying : Type 0 where
  -- No call but an accepted write or a reset changes what an entry reads,
  pub stays : (h : Head) → Reachable h → (cs : List Call) → None Alters h cs → OfEach (λ i j. reads_in (after h cs) i j ≡ reads_in h i j)
  -- except the entries that show samples or the state; among them 6500-0: the value of entry 6000-0, plus bit 15 when Operational
  pub status : (p : PowerUp) (cs : List Call) → let h = after (powered p) cs in
      (n : ℕ) × (reads_in h 0x6000 0 ≡ some (Number n))
      × (reads_in h 0x6500 0 ≡ some (Number (n + cond (eqb (code_after (node_of p) cs) 0x05) 0x8000 0)))
  -- Power-up .. starts .. with factory settings, the saved set equal to them
  pub starts : (p : PowerUp) → RestoresFrom (powered p) (powered p)
  -- "save" copies the settings (rw entries but 1003, 1010, 1011, plus the offset) to the saved set.
  pub saves : (h : Head) → Reachable h → (f : Received) (v : ℕ) → Writes h f 0x1010_01 v → RestoresFrom h (step h (receive f))
  -- "load" makes the saved set factory.
  pub loads : (p : PowerUp) (cs : List Call) → let h = after (powered p) cs in (f : Received) (v : ℕ) → Writes h f 0x1011_01 v
      → RestoresFrom (powered p) (step h (receive f))
  -- "save" 6576 6173h, "load" 6461 6F6Ch: a request with these letters, to a head that serves it, is such a write,
  pub save_taken : (h : Head) (f : Received) → Requests h f → f.bytes ≡ bytes 0x23 0x10 0x10 0x01 0x73 0x61 0x76 0x65
      → Writes h f 0x1010_01 0x65766173
  pub load_taken : (h : Head) (f : Received) → Requests h f → f.bytes ≡ bytes 0x23 0x11 0x10 0x01 0x6C 0x6F 0x61 0x64
      → Writes h f 0x1011_01 0x64616F6C
  -- and no other value is accepted.
  pub save_only : (h : Head) (f : Received) (v : ℕ) → Writes h f 0x1010_01 v → v ≡ 0x65766173
  pub load_only : (h : Head) (f : Received) (v : ℕ) → Writes h f 0x1011_01 v → v ≡ 0x64616F6C
