-- The value's abort code comes before the state's; a write with neither code is
-- accepted and allowed by the state. By cases of the tests. Assumes nothing.
use Prim.Native.Nat.{ℕ}
use native.Mathlib.Omega.{arith}
use mathlib.Core.Path.{◌≡◌, refl}
use mathlib.Core.Bool.{Bool, true, false, not, cond}
use Rattle.cases.proofs.Cases.{true_false}
use Rattle.entries.specs.declared.Device.{Device}
use Rattle.entries.specs.declared.table.Row.{Row}
use Rattle.entries.specs.Table.{key}
use Rattle.dictionary.specs.AbortCodes.{invalid_value, wrong_signature, device_state}
use Rattle.dictionary.specs.Accepted.{accepts_in, is_signature, value_abort_code, barred, abort_code}

-- the code of a value, accepted or not, for a signature or not
abbrev code : Bool → Bool → ℕ
code a s = cond a 0 (cond s wrong_signature invalid_value)

-- the code of a write that the state forbids or not
abbrev state : Bool → ℕ
state b = cond b device_state 0

state_next : (a s b : Bool) → 0 ≡ code a s → true ≡ b → device_state ≡ cond (not a) (cond s wrong_signature invalid_value) (state b)
state_next true s true e f = refl
state_next true s false e f = true_false f
state_next false true b e f = absurd (omega arith)
state_next false false b e f = absurd (omega arith)

unaborted : (a s b : Bool) → cond (not a) (cond s wrong_signature invalid_value) (state b) ≡ 0 → (a ≡ true) × (b ≡ false)
unaborted true s true e = absurd (omega arith)
unaborted true s false e = (refl, refl)
unaborted false true b e = absurd (omega arith)
unaborted false false b e = absurd (omega arith)

pub state_due : (d : Device) (r : Row) (v : ℕ) → 0 ≡ value_abort_code r.accepted d.node d.settings.profile.range v
    → true ≡ barred d (key r) v → device_state ≡ abort_code d r v
unfolding abort_code
state_due d r v e f = state_next (accepts_in d r v) (is_signature r.accepted) (barred d (key r) v) e f

pub taken : (d : Device) (r : Row) (v : ℕ) → abort_code d r v ≡ 0
    → (accepts_in d r v ≡ true) × (barred d (key r) v ≡ false)
unfolding abort_code
taken d r v e = unaborted (accepts_in d r v) (is_signature r.accepted) (barred d (key r) v) e
