-- The values that each entry accepts, and the states in which it can be written: 01, chapter
-- "Entries", and steps 5 and 6 of "First that applies" in chapter "Service requests".
use Rattle.std.specs.Prelude.{ℕ, ◌+◌, ◌/◌, ◌%◌, eqb, ltb, Bool, true, false, not, ◌&&◌, ◌||◌, cond, [], ◌∷◌}
use Rattle.cases.specs.Cases.{first_of}
use Rattle.cases.specs.Tests.{within}
use Rattle.position.specs.Position.{bit, scaling_bit}
use Rattle.entries.specs.declared.Pdo.{Pdo}
use Rattle.entries.specs.declared.Device.{Device}
use Rattle.entries.specs.declared.table.Row.{Row}
use Rattle.entries.specs.declared.table.Accepted.{Accepted}
use Rattle.entries.specs.declared.table.Accepted.TheVariants.{Nothing, All, Only, Signature, Between, EmergencyIdentifier, PdoIdentifier}
use Rattle.entries.specs.declared.table.Accepted.TheVariants.{TransmissionType, OperatingParameters, BelowRange}
use Rattle.entries.specs.Table.{missing, accepted, key}
use Rattle.entries.specs.Keys.{tpdo1, tpdo2, identifier_key_of, type_key_of, range_key, preset_key, step_key}
use Rattle.dictionary.specs.AbortCodes.{invalid_value, wrong_signature, device_state}

-- switched on: bit 31 is 0
abbrev pub on : ℕ → Bool
on identifier = not (bit 31 identifier)

-- for node n: 80h+N; that, or that with bit 31
abbrev pub emergency_identifier : ℕ → ℕ → Bool
emergency_identifier n v = eqb (v % 0x80000000) (0x80 + n)

-- bits 30..11 zero; with bit 31 clear also 181h..57Fh
abbrev pub pdo_identifier : ℕ → Bool
pdo_identifier v = eqb (v % 0x80000000 / 0x800) 0 && (not (on v) || within 0x181 0x57F v)

-- 1..240, 254, 255
abbrev pub transmission_type : ℕ → Bool
transmission_type v = within 1 240 v || within 254 255 v

-- only bits 2 and 3 may be set
abbrev pub operating_parameters : ℕ → Bool
operating_parameters v = eqb (v % 4) 0 && eqb (v / 16) 0

-- What an entry accepts, for node n and range t.
abbrev pub accepts : Accepted → ℕ → ℕ → ℕ → Bool
accepts Nothing n t v = false
accepts All n t v = true
accepts (Only a) n t v = eqb v a
accepts (Signature a) n t v = eqb v a
accepts (Between a b) n t v = within a b v
accepts EmergencyIdentifier n t v = emergency_identifier n v
accepts PdoIdentifier n t v = pdo_identifier v
accepts TransmissionType n t v = transmission_type v
accepts OperatingParameters n t v = operating_parameters v
-- below 6002h
accepts BelowRange n t v = ltb v t

-- 1010-1 and 1011-1
abbrev pub is_signature : Accepted → Bool
is_signature (Signature a) = true
is_signature Nothing = false
is_signature All = false
is_signature (Only a) = false
is_signature (Between a b) = false
is_signature EmergencyIdentifier = false
is_signature PdoIdentifier = false
is_signature TransmissionType = false
is_signature OperatingParameters = false
is_signature BelowRange = false

-- value: 0609 0030h; for 1010-1, 1011-1 a wrong signature 0800 0020h
abbrev pub value_code : Accepted → ℕ
value_code a = cond (is_signature a) wrong_signature invalid_value

abbrev pub value_abort_code : Accepted → ℕ → ℕ → ℕ → ℕ
value_abort_code a n t v = cond (accepts a n t v) 0 (value_code a)

-- While a PDO is on, a write with bit 31 clear must repeat the held value, and sub 2 can't be written.
abbrev pub pdo_barred : ℕ → Pdo → ℕ → ℕ → Bool
pdo_barred index pdo k v =
    let held = pdo.identifier in
    eqb k (identifier_key_of index) && on held && on v && not (eqb v held) || eqb k (type_key_of index) && on held

-- 6002h or 6005h with scaling off, 6003h while missing, a PDO that is on as above
abbrev pub barred : Device → ℕ → ℕ → Bool
barred d k v =
    (eqb k range_key || eqb k step_key) && not (bit scaling_bit d.settings.profile.operating)
    || eqb k preset_key && missing d
    || pdo_barred tpdo1 d.settings.communication.pdo1 k v
    || pdo_barred tpdo2 d.settings.communication.pdo2 k v

-- whether the entry of a row accepts v
abbrev pub accepts_in : Device → Row → ℕ → Bool
accepts_in d r v = accepts (accepted r) d.node d.settings.profile.range v

-- The abort code due to a write of v to the entry of a row: first for the value, then for the state; 0 for none.
unfoldable pub abort_code : Device → Row → ℕ → ℕ
abort_code d r v =
    first_of (
    (not (accepts_in d r v), value_code (accepted r)) ∷
    (barred d (key r) v, device_state) ∷ [])
    0
