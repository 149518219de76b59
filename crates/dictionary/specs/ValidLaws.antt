-- What a valid device holds, in plain numbers. These laws check specs/Valid and the valid profile of crate position.
-- 01, chapters "Entries", "Position" and "Refusal numbers".
use Rattle.std.specs.Prelude.{ℕ, ◌≤◌, ◌<◌, nat_abs, ◌≡◌, ◌⊎◌}
use Rattle.position.specs.declared.Profile.{Profile}
use Rattle.entries.specs.declared.Pdo.{Pdo}
use Rattle.entries.specs.declared.Settings.{Settings}
use Rattle.entries.specs.declared.Device.{Device}
use Rattle.dictionary.specs.Valid.{ValidDevice}
use Rattle.dictionary.specs.AcceptedLaws.{IdentifiesEmergency, IdentifiesPdo, IsType, IsOperating}

pub record HeldPdo (p : Pdo) : Type 0 where
  pub identifier : IdentifiesPdo p.identifier
  pub transmission : IsType p.transmission
  pub event : p.event < 65536

pub record HeldProfile (p : Profile) : Type 0 where
  pub operating : IsOperating p.operating
  -- 6002h: 1,048,576 without scaling; 1,000..1,000,000 with it
  pub full : (p.operating ≡ 0) ⊎ (p.operating ≡ 8) → p.range ≡ 1048576
  pub scaled : (p.operating ≡ 4) ⊎ (p.operating ≡ 12) → (1000 ≤ p.range) × (p.range ≤ 1000000)
  -- below 6002h
  pub preset : p.preset < p.range
  pub step : (5000 ≤ p.step) × (p.step ≤ 1000000)
  -- between −(T−1) and T−1
  pub offset : nat_abs p.offset < p.range

-- for node n
pub record HeldSettings (n : ℕ) (s : Settings) : Type 0 where
  pub emergency : IdentifiesEmergency n s.communication.emergency
  pub inhibit : s.communication.inhibit < 65536
  pub heartbeat : s.communication.heartbeat < 65536
  pub pdo1 : HeldPdo s.communication.pdo1
  pub pdo2 : HeldPdo s.communication.pdo2
  pub profile : HeldProfile s.profile

pub record Held (d : Device) : Type 0 where
  pub node : (1 ≤ d.node) × (d.node ≤ 127)
  pub raw : d.reading.raw ≤ 1048575
  -- count 0..4
  pub errors : d.errors ≤ 4
  pub settings : HeldSettings d.node d.settings
  pub saved : HeldSettings d.node d.saved

abbrev pub ValidLaws : Type 0
ValidLaws = (d : Device) → ValidDevice d → Held d
