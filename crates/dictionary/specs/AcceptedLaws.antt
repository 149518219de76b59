-- Which values an rw entry accepts, which abort code any other value gets, and which writes the state forbids, in plain numbers.
-- These laws check specs/Accepted and use none of its tests. 01, chapter "Entries", and steps 5 and 6 of "First that applies".
use Rattle.std.specs.Prelude.{ℕ, ◌+◌, ◌/◌, ◌%◌, ◌^◌, ◌≤◌, ◌<◌, ◌≡◌, ◌↔◌, ◌⊎◌, Bool, true, false, cond, List, [], ◌∷◌, map, Ok as At, Err}
use Rattle.entries.specs.declared.Pdo.{Pdo}
use Rattle.entries.specs.declared.Device.{Device}
use Rattle.entries.specs.declared.table.Row.{Row}
use Rattle.entries.specs.Table.{Found, table, key, index, sub, width, is_rw, accepted, lookup}
use Rattle.entries.specs.declared.table.NotFound.TheVariants.{NoSubIndex, NoIndex}
use Rattle.entries.specs.Laws.{Listed}
use Rattle.dictionary.specs.Accepted.{is_signature, accepts_in, barred, abort_code}

-- An rw entry: index, sub-index, bytes, and the condition under which it accepts v.
abbrev pub Line : Type 1
Line = ℕ × ℕ × ℕ × Type 0

abbrev all : Type 0
all = Unit {0}

-- for node n: 80h+N; that, or that with bit 31
abbrev pub IdentifiesEmergency : ℕ → ℕ → Type 0
IdentifiesEmergency n v = (v ≡ 0x80 + n) ⊎ (v ≡ 0x80 + n + 0x80000000)

-- PDO identifier: bits 30..11 zero; with bit 31 clear also 181h..57Fh.
abbrev pub IdentifiesPdo : ℕ → Type 0
IdentifiesPdo v = ((0x181 ≤ v) × (v ≤ 0x57F)) ⊎ ((0x80000000 ≤ v) × (v < 0x80000800))

-- 1..240, 254, 255
abbrev pub IsType : ℕ → Type 0
IsType v = ((1 ≤ v) × (v ≤ 240)) ⊎ (v ≡ 254) ⊎ (v ≡ 255)

-- only bits 2 and 3 may be set
abbrev pub IsOperating : ℕ → Type 0
IsOperating v = (v ≡ 0) ⊎ (v ≡ 4) ⊎ (v ≡ 8) ⊎ (v ≡ 12)

-- 01's rw entries in its order, for node n while 6002h is t.
abbrev pub accepted_values : ℕ → ℕ → ℕ → List Line
accepted_values n t v =
    -- only 0 accepted
    (0x1003, 0, 1, v ≡ 0) ∷
    -- "save" 6576 6173h, "load" 6461 6F6Ch
    (0x1010, 1, 4, v ≡ 0x65766173) ∷
    (0x1011, 1, 4, v ≡ 0x64616F6C) ∷
    (0x1014, 0, 4, IdentifiesEmergency n v) ∷
    (0x1015, 0, 2, all) ∷
    (0x1017, 0, 2, all) ∷
    (0x1800, 1, 4, IdentifiesPdo v) ∷
    (0x1800, 2, 1, IsType v) ∷
    (0x1800, 5, 2, all) ∷
    (0x1801, 1, 4, IdentifiesPdo v) ∷
    (0x1801, 2, 1, IsType v) ∷
    (0x1801, 5, 2, all) ∷
    (0x6000, 0, 2, IsOperating v) ∷
    (0x6002, 0, 4, (1000 ≤ v) × (v ≤ 1000000)) ∷
    -- below 6002h
    (0x6003, 0, 4, v < t) ∷
    (0x6005, 1, 4, (5000 ≤ v) × (v ≤ 1000000)) ∷
    -- 1800-5 under a second index
    (0x6200, 0, 2, all) ∷
    []

-- those that pass a test
abbrev pub those : {A : Type 0} → (A → Bool) → List A → List A
those t [] = []
those t (a ∷ l) = cond (t a) (a ∷ those t l) (those t l)

-- whether the entry that is found accepts v
abbrev pub accepts_of : Device → ℕ → Found → Bool
accepts_of d v (At r) = accepts_in d r v
accepts_of d v (Err NoSubIndex) = false
accepts_of d v (Err NoIndex) = false

-- Among the numbers of its length, the entry of each line accepts exactly those that the line says.
abbrev pub AcceptEach : Device → ℕ → List Line → Type 0
AcceptEach d v [] = Unit {0}
AcceptEach d v (l ∷ ls) = (v < 256 ^ l.2 → (accepts_of d v (lookup l.0 l.1) ≡ true) ↔ l.3) × AcceptEach d v ls

-- for 1010-1, 1011-1
abbrev pub HasSignature : ℕ → Type 0
HasSignature k = (k ≡ 0x1010_01) ⊎ (k ≡ 0x1011_01)

-- a PDO that is on: bit 31 of sub 1 is 0; a write to sub 1 with bit 31 clear must repeat the held value, and sub 2 can't be written
abbrev pub HeldBy : Pdo → ℕ → ℕ → ℕ → ℕ → Type 0
HeldBy p sub1 sub2 k v =
    (p.identifier < 0x80000000) × (((k ≡ sub1) × (v < 0x80000000) × (v ≡ p.identifier → ⊥)) ⊎ (k ≡ sub2))

-- 6002h or 6005h with scaling (6000h bit 2) off, 6003h while missing, a PDO that is on as above
abbrev pub Bars : Device → ℕ → ℕ → Type 0
Bars d k v =
    (((k ≡ 0x6002_00) ⊎ (k ≡ 0x6005_01)) × (d.settings.profile.operating / 4 % 2 ≡ 0))
    ⊎ ((k ≡ 0x6003_00) × (d.reading.good ≡ false))
    ⊎ HeldBy d.settings.communication.pdo1 0x1800_01 0x1800_02 k v
    ⊎ HeldBy d.settings.communication.pdo2 0x1801_01 0x1801_02 k v

-- The number, and the identifiers that the device holds, have 32 bits.
pub record Words (d : Device) (v : ℕ) : Type 0 where
  pub its_value : v < 0x100000000
  pub pdo1 : d.settings.communication.pdo1.identifier < 0x100000000
  pub pdo2 : d.settings.communication.pdo2.identifier < 0x100000000

-- The abort code for a write of v to the entry of the row r: each code exactly when it is due.
pub record Coded (d : Device) (r : Row) (v : ℕ) : Type 0 where
  -- 5. value: 0609 0030h; for 1010-1, 1011-1 a wrong signature 0800 0020h
  pub invalid_value_law : (abort_code d r v ≡ 0x06090030) ↔ ((accepts_in d r v ≡ false) × (HasSignature (key r) → ⊥))
  pub wrong_signature_law : (abort_code d r v ≡ 0x08000020) ↔ ((accepts_in d r v ≡ false) × HasSignature (key r))
  -- 6. 0800 0022h
  pub state : (abort_code d r v ≡ 0x08000022) ↔ ((accepts_in d r v ≡ true) × Bars d (key r) v)
  -- none
  pub free : (abort_code d r v ≡ 0) ↔ ((accepts_in d r v ≡ true) × (Bars d (key r) v → ⊥))

pub record AcceptedLaws : Type 0 where
  -- The lines are all the rw entries of the table, in its order.
  pub all_of_them : (n t v : ℕ)
      → map {B = ℕ × ℕ × ℕ} (λ l. (l.0, l.1, l.2)) (accepted_values n t v) ≡ map (λ r. (index r, sub r, width r)) (those is_rw table)
  pub values : (d : Device) (v : ℕ) → 1 ≤ d.node → d.node ≤ 127
      → AcceptEach d v (accepted_values d.node d.settings.profile.range v)
  pub signatures : (r : Row) → Listed r → (is_signature (accepted r) ≡ true) ↔ HasSignature (key r)
  pub states : (d : Device) (k v : ℕ) → Words d v → (barred d k v ≡ true) ↔ Bars d k v
  pub codes : (d : Device) (r : Row) (v : ℕ) → Listed r → Words d v → Coded d r v
