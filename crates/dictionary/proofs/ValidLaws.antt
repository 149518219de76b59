-- Proves `ValidLaws` of specs/ValidLaws.antt, by what the tests mean. Assumes nothing.
use Prim.Native.Nat.{ℕ, ◌≤◌}
use native.Mathlib.Omega.{arith}
use mathlib.Core.Path.{◌≡◌}
use mathlib.Core.Logic.{◌⊎◌, inl, inr}
use Rattle.position.specs.declared.Profile.{Profile}
use Rattle.position.specs.Profile.{ValidProfile}
use Rattle.entries.specs.declared.Pdo.{Pdo}
use Rattle.entries.specs.declared.Settings.{Settings}
use Rattle.dictionary.specs.Valid.{ValidPdo, ValidSettings}
use Rattle.dictionary.specs.ValidLaws.{HeldPdo, HeldProfile, HeldSettings, ValidLaws}
use Rattle.dictionary.proofs.AcceptedLaws.{emergency_is, identifier_is, type_is, operating_bits}

pdo_held : {p : Pdo} → ValidPdo p → HeldPdo p
pdo_held {p} h =
    record {
      identifier = (identifier_is p.identifier (omega arith)).0 h.identifier;
      transmission = (type_is p.transmission).0 h.transmission;
      event = omega arith;
    }

module _ {p : Profile} (h : ValidProfile p) where
  full : (p.operating ≡ 0) ⊎ (p.operating ≡ 8) → p.range ≡ 1048576
  full (inl e) = h.full (rw e)
  full (inr e) = h.full (rw e)

  scaled : (p.operating ≡ 4) ⊎ (p.operating ≡ 12) → (1000 ≤ p.range) × (p.range ≤ 1000000)
  scaled (inl e) = (h.low, h.scaled (rw e))
  scaled (inr e) = (h.low, h.scaled (rw e))

  profile_held : HeldProfile p
  profile_held =
      record {
        operating = operating_bits p.operating h.bits_low h.bits_high;
        full = full;
        scaled = scaled;
        preset = h.preset;
        step = (h.step_low, h.step_high);
        offset = h.offset;
      }

settings_held : {n : ℕ} {s : Settings} → n ≤ 127 → ValidSettings n s → HeldSettings n s
settings_held {n} {s} l h =
    record {
      emergency = (emergency_is s.communication.emergency n l (omega arith)).0 h.communication.emergency;
      inhibit = omega arith;
      heartbeat = omega arith;
      pdo1 = pdo_held h.communication.pdo1;
      pdo2 = pdo_held h.communication.pdo2;
      profile = profile_held h.profile;
    }

pub valid_laws : ValidLaws
valid_laws d h =
    record {
      node = (h.node_low, h.node_high);
      raw = h.raw;
      errors = h.errors;
      settings = settings_held h.node_high h.settings;
      saved = settings_held h.node_high h.saved;
    }
