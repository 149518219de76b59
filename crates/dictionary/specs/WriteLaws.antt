-- What a write changes in a device, number by number and with plain keys. These laws check specs/Writes and
-- specs/Effects, and use neither the tests of the one nor the lists of the other. 01, chapters "Entries" and "Position".
use Rattle.std.specs.Prelude.{ℕ, pos, ◌+ℤ◌, ◌≡◌, ◌⊎◌, List, [], ◌∷◌}
use Rattle.position.specs.declared.Profile.{Profile}
use Rattle.position.specs.Position.{directed}
use Rattle.entries.specs.declared.Communication.{Communication}
use Rattle.entries.specs.declared.Device.{Device}
use Rattle.entries.specs.Settings.{factory}
use Rattle.dictionary.specs.Writes.{written}

-- A write to the entry of key k replaces an old number by the one beside k in the list. If k is not in the list, the number stays.
abbrev pub Becomes : {A : Type 0} → ℕ → List (ℕ × A) → A → A → Type 0
Becomes k [] old new = new ≡ old
Becomes k (e ∷ es) old new = (k ≡ e.0 → new ≡ e.1) × ((k ≡ e.0 → ⊥) → Becomes k es old new)

-- the settings below 2000h: a before the write, b after it
pub record CommunicationWritten (k v : ℕ) (a b : Communication) : Type 0 where
  pub emergency : Becomes k ((0x1014_00, v) ∷ []) a.emergency b.emergency
  pub inhibit : Becomes k ((0x1015_00, v) ∷ []) a.inhibit b.inhibit
  pub heartbeat : Becomes k ((0x1017_00, v) ∷ []) a.heartbeat b.heartbeat
  pub identifier1 : Becomes k ((0x1800_01, v) ∷ []) a.pdo1.identifier b.pdo1.identifier
  pub transmission1 : Becomes k ((0x1800_02, v) ∷ []) a.pdo1.transmission b.pdo1.transmission
  -- 6200-0: 1800-5 under a second index
  pub event1 : Becomes k ((0x1800_05, v) ∷ (0x6200_00, v) ∷ []) a.pdo1.event b.pdo1.event
  pub identifier2 : Becomes k ((0x1801_01, v) ∷ []) a.pdo2.identifier b.pdo2.identifier
  pub transmission2 : Becomes k ((0x1801_02, v) ∷ []) a.pdo2.transmission b.pdo2.transmission
  pub event2 : Becomes k ((0x1801_05, v) ∷ []) a.pdo2.event b.pdo2.event

-- the other settings, at the raw position r: a before the write, b after it
pub record ProfileWritten (r k v : ℕ) (a b : Profile) : Type 0 where
  pub operating : Becomes k ((0x6000_00, v) ∷ []) a.operating b.operating
  -- of 6000h also T, to 1,000,000 with scaling (bit 2) and 1,048,576 without
  pub scaled : k ≡ 0x6000_00 → (v ≡ 4) ⊎ (v ≡ 12) → b.range ≡ 1000000
  pub full : k ≡ 0x6000_00 → (v ≡ 0) ⊎ (v ≡ 8) → b.range ≡ 1048576
  pub range : (k ≡ 0x6000_00 → ⊥) → Becomes k ((0x6002_00, v) ∷ []) a.range b.range
  -- Any accepted write of 6000h, 6002h or 6005h, also of an equal value, sets 6003h and the offset to 0
  pub preset : Becomes k ((0x6000_00, 0) ∷ (0x6002_00, 0) ∷ (0x6005_01, 0) ∷ (0x6003_00, v) ∷ []) a.preset b.preset
  pub step : Becomes k ((0x6005_01, v) ∷ []) a.step b.step
  -- Accepted 6003h = v: offset becomes v − d at the present sample.
  pub offset_preset : k ≡ 0x6003_00 → pos (directed a r) +ℤ b.offset ≡ pos v
  pub offset : (k ≡ 0x6003_00 → ⊥)
      → Becomes k ((0x6000_00, pos 0) ∷ (0x6002_00, pos 0) ∷ (0x6005_01, pos 0) ∷ []) a.offset b.offset

-- a device: d before the write, e after it
pub record Altered (k v : ℕ) (d e : Device) : Type 0 where
  pub communication : CommunicationWritten k v d.settings.communication e.settings.communication
  pub profile : ProfileWritten d.reading.raw k v d.settings.profile e.settings.profile
  -- 1003-0: 0 empties the list
  pub errors : Becomes k ((0x1003_00, 0) ∷ []) d.errors e.errors
  -- "save" copies the settings to the saved set. "load" makes the saved set factory.
  pub saved : Becomes k ((0x1010_01, d.settings) ∷ (0x1011_01, factory d.node) ∷ []) d.saved e.saved
  pub node : e.node ≡ d.node
  pub identity : e.identity ≡ d.identity
  pub reading : e.reading ≡ d.reading

abbrev pub WriteLaws : Type 0
WriteLaws = (d : Device) (k v : ℕ) → Altered k v d (written d k v)
