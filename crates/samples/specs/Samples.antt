-- What a sample changes in the parts of a head, as the code computes it: 01, chapters "States" and "The waiting line".
-- Reviewers can skip this file: proofs/Samples.antt proves that the head with these parts is what `promises` says.
use Rattle.std.specs.Prelude.{ℕ, suc, eqb, ltb, Bool, true, false, not, ◌&&◌, cond, List, Result, Ok, Err}
use Rattle.can.specs.declared.Refusal.{Refusal}
use Rattle.can.specs.declared.Refusal.TheVariants.{BadSample}
use Rattle.entries.specs.declared.Communication.{Communication}
use Rattle.waiting.specs.Line.{emergency, tpdo1, tpdo2, first}
use Rattle.waiting.specs.Calls.{joins_in, withdraws_in, if_due}
use Rattle.parts.specs.declared.Nmt.{Nmt}
use Rattle.parts.specs.declared.Sensor.TheVariants.{Raw}
use Rattle.promises.specs.States.{missing_reading}
use Rattle.promises.specs.Timers.{synchronous}
use Rattle.promises.specs.WaitingLine.{may_alert}
use Rattle.promises.specs.Calls.{bad_sample}
use Rattle.samples.specs.declared.Sampled.{Sampled}
use Rattle.samples.specs.declared.Missed.{Missed}

-- whether an emergency could wait, if the reading differed from the one announced
abbrev pub free : Nmt → ℕ → ℕ → Bool
free s identifier inhibit = may_alert s identifier inhibit false true

-- the line once the reading is good
abbrev pub found_line : Nmt → ℕ → ℕ → Bool → Bool → List ℕ → List ℕ
found_line s identifier inhibit good announced l =
    let alerts = if_due (free s identifier inhibit) emergency in
    cond good l (cond announced (withdraws_in l alerts) (joins_in l alerts))

abbrev pub sampled_of : Nmt → ℕ → ℕ → Bool → Bool → List ℕ → ℕ → Result Sampled Refusal
sampled_of s identifier inhibit good announced l raw =
    cond (bad_sample (Raw raw))
    (Err BadSample)
    (Ok (record { reading = record { good = true; raw = raw }; line = found_line s identifier inhibit good announced l }))

-- the line once the position frames of types 254 and 255 and an emergency that told "good" have gone
abbrev pub left_line : Nmt → Communication → ℕ → Bool → List ℕ → List ℕ
left_line s k inhibit announced l =
    let told = withdraws_in l (if_due (free s k.emergency inhibit && not announced) emergency) in
    let shown = withdraws_in told (if_due (not (synchronous k.pdo1)) tpdo1) in
    withdraws_in shown (if_due (not (synchronous k.pdo2)) tpdo2)

-- the line once a good reading went missing
abbrev pub lost_line : Nmt → Communication → ℕ → Bool → List ℕ → List ℕ
lost_line s k inhibit announced l =
    let alerts = if_due (free s k.emergency inhibit && announced) emergency in
    cond (eqb (first l) 0) (joins_in l alerts) (joins_in (left_line s k inhibit announced l) alerts)

-- the error list's count once a good reading goes missing
abbrev pub one_more_error : ℕ → ℕ
one_more_error errors = cond (ltb errors 4) (suc errors) errors

abbrev pub missed_of : Nmt → Communication → ℕ → Bool → ℕ → Bool → List ℕ → Missed
missed_of s k inhibit good errors announced l =
    cond good
    (record { reading = missing_reading; errors = one_more_error errors; line = lost_line s k inhibit announced l })
    (record { reading = missing_reading; errors = errors; line = l })
