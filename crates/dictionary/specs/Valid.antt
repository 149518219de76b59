-- Valid devices, which are those that power-up and accepted writes leave. Each setting has its type, and is the factory value of its
-- entry or one that the entry accepts: 01, chapter "Entries". The node number and the raw position are not refused by "Refusal numbers".
use Rattle.std.specs.Prelude.{ℕ, ◌≤◌, length, ◌≡◌, true, false}
use Rattle.position.specs.Profile.{highest_raw, ValidProfile}
use Rattle.entries.specs.declared.Pdo.{Pdo}
use Rattle.entries.specs.declared.Communication.{Communication}
use Rattle.entries.specs.declared.Settings.{Settings}
use Rattle.entries.specs.declared.Identity.{Identity}
use Rattle.entries.specs.declared.Device.{Device}
use Rattle.entries.specs.Identity.{has_names}
use Rattle.dictionary.specs.Accepted.{emergency_identifier, pdo_identifier, transmission_type}

pub record ValidPdo (p : Pdo) : Type 0 where
  -- sub 1
  pub identifier : pdo_identifier p.identifier ≡ true
  -- U32
  pub identifier_fits : p.identifier ≤ 0xFFFFFFFF
  -- sub 2
  pub transmission : transmission_type p.transmission ≡ true
  -- sub 5: U16; all
  pub event : p.event ≤ 0xFFFF

-- the settings below 2000h, for node n
pub record ValidCommunication (n : ℕ) (c : Communication) : Type 0 where
  -- 1014-0
  pub emergency : emergency_identifier n c.emergency ≡ true
  -- U32
  pub emergency_fits : c.emergency ≤ 0xFFFFFFFF
  -- 1015-0, 1017-0: U16; all
  pub inhibit : c.inhibit ≤ 0xFFFF
  pub heartbeat : c.heartbeat ≤ 0xFFFF
  -- 1800h, 1801h
  pub pdo1 : ValidPdo c.pdo1
  pub pdo2 : ValidPdo c.pdo2

pub record ValidSettings (n : ℕ) (s : Settings) : Type 0 where
  pub communication : ValidCommunication n s.communication
  pub profile : ValidProfile s.profile

-- what power-up can be given: 1018-1..4 of 32 bits, and each name in an array of 32 bytes
pub record FitsIdentity (i : Identity) : Type 0 where
  pub vendor : i.vendor ≤ 0xFFFFFFFF
  pub product : i.product ≤ 0xFFFFFFFF
  pub revision : i.revision ≤ 0xFFFFFFFF
  pub serial : i.serial ≤ 0xFFFFFFFF
  pub arrays : (length i.name.bytes ≡ 32) × (length i.hardware.bytes ≡ 32) × (length i.software.bytes ≡ 32)

-- 1008h, 1009h, 100Ah: strings of 1 to 32 bytes; another length is refused with 5
pub record ValidIdentity (i : Identity) : Type 0 where
  pub fits : FitsIdentity i
  pub named : has_names i ≡ true

pub record ValidDevice (d : Device) : Type 0 where
  -- node number 1..127; another is refused with 4
  pub node_low : 1 ≤ d.node
  pub node_high : d.node ≤ 127
  pub identity : ValidIdentity d.identity
  -- raw sample up to 1,048,575; one above is refused with 3
  pub raw : d.reading.raw ≤ highest_raw
  -- a missing sample has none
  pub raw_missing : d.reading.good ≡ false → d.reading.raw ≡ 0
  -- 1003-0: count 0..4
  pub errors : d.errors ≤ 4
  pub settings : ValidSettings d.node d.settings
  -- "save" copies the settings to the saved set. "load" makes the saved set factory.
  pub saved : ValidSettings d.node d.saved
