-- What an accepted write does: 01, chapters "Entries" and "Position". Each field names the entries that change it.
use Rattle.std.specs.Prelude.{ℕ, ◌<◌, eqb, pos, ◌≡◌, Bool, ◌||◌, cond}
use Rattle.position.specs.declared.Profile.{Profile}
use Rattle.position.specs.Position.{bit, scaling_bit, preset_to}
use Rattle.position.specs.Profile.{scaled_range, full_range}
use Rattle.entries.specs.declared.Pdo.{Pdo}
use Rattle.entries.specs.declared.Communication.{Communication}
use Rattle.entries.specs.declared.Settings.{Settings}
use Rattle.entries.specs.declared.Device.{Device}
use Rattle.entries.specs.Settings.{factory}
use Rattle.entries.specs.Keys.{error_count_key, save_key, load_key, emergency_key, inhibit_key, heartbeat_key}
use Rattle.entries.specs.Keys.{tpdo1, tpdo2, identifier_key_of, type_key_of, event_key_of, operating_key, range_key, preset_key, step_key, cycle_key}

abbrev pub pdo_after : ℕ → Pdo → ℕ → ℕ → Pdo
pdo_after index p k v =
    record {
      identifier = cond (eqb k (identifier_key_of index)) v p.identifier;
      transmission = cond (eqb k (type_key_of index)) v p.transmission;
      event = cond (eqb k (event_key_of index)) v p.event;
    }

abbrev pub communication_after : Communication → ℕ → ℕ → Communication
communication_after c k v =
    record {
      emergency = cond (eqb k emergency_key) v c.emergency;
      inhibit = cond (eqb k inhibit_key) v c.inhibit;
      heartbeat = cond (eqb k heartbeat_key) v c.heartbeat;
      pdo1 = pdo_after tpdo1 c.pdo1 k v;
      pdo2 = pdo_after tpdo2 c.pdo2 k v;
    }

-- Any accepted write of 6000h, 6002h or 6005h, also of an equal value, sets 6003h and the offset to 0;
abbrev pub rescales : ℕ → Bool
rescales k = eqb k operating_key || eqb k range_key || eqb k step_key

-- of 6000h also T, to 1,000,000 with scaling and 1,048,576 without.
abbrev pub range_for : ℕ → ℕ
range_for operating = cond (bit scaling_bit operating) scaled_range full_range

-- with 6003h and the offset 0
abbrev pub rescaled_to : ℕ → ℕ → ℕ → Profile
rescaled_to operating range step = record { operating = operating; range = range; preset = 0; step = step; offset = pos 0 }

-- At the raw position r an accepted 6003h = v makes the offset v − d.
abbrev pub profile_after : Profile → ℕ → ℕ → ℕ → Profile
profile_after p r k v =
    record {
      operating = cond (eqb k operating_key) v p.operating;
      range = cond (eqb k operating_key) (range_for v) (cond (eqb k range_key) v p.range);
      preset = cond (rescales k) 0 (cond (eqb k preset_key) v p.preset);
      step = cond (eqb k step_key) v p.step;
      offset = cond (rescales k) (pos 0) (cond (eqb k preset_key) (preset_to p r v).offset p.offset);
    }

-- What the code has to know of an accepted write: 6003h is below 6002h.
abbrev pub Fits : Profile → ℕ → ℕ → Type 0
Fits p k v = k ≡ preset_key → v < p.range

-- "save" copies the settings to the saved set. "load" makes the saved set factory; running settings change at the next reset.
abbrev pub saved_after : Device → ℕ → Settings
saved_after d k = cond (eqb k save_key) d.settings (cond (eqb k load_key) (factory d.node) d.saved)

-- The device after what has the name k got v: a setting, the error list, or the saved set.
unfoldable pub put : Device → ℕ → ℕ → Device
put d k v =
    record {
      node = d.node;
      identity = d.identity;
      reading = d.reading;
      errors = cond (eqb k error_count_key) 0 d.errors;
      settings = record {
        communication = communication_after d.settings.communication k v;
        profile = profile_after d.settings.profile d.reading.raw k v;
      };
      saved = saved_after d k;
    }

-- The name of what a write to the entry of key k alters: that key; of 6200-0, which is 1800-5 under a second index, that of 1800-5.
abbrev pub own_key : ℕ → ℕ
own_key k = cond (eqb k cycle_key) (event_key_of tpdo1) k

-- The device after v was written to the entry of key k.
abbrev pub written : Device → ℕ → ℕ → Device
written d k v = put d (own_key k) v
