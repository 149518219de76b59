-- What a tick changes in the parts of a head, as the code computes it, and which kinds are then due: 01, chapter "The waiting
-- line". Reviewers can skip this file: proofs/Ticks.antt proves that the head with these parts is what `promises` says.
use Rattle.std.specs.Prelude.{◌-◌, eqb, Bool, true, false, not, ◌||◌, cond, List, [], ◌∷◌, Option, None, Some}
use Rattle.std.specs.Bool.{beq}
use Rattle.entries.specs.declared.Communication.{Communication}
use Rattle.entries.specs.declared.Pdo.{Pdo}
use Rattle.parts.specs.declared.Clock.{Clock}
use Rattle.parts.specs.declared.Nmt.{Nmt}
use Rattle.parts.specs.declared.Timers.{Timers}
use Rattle.promises.specs.States.{initialising_code, code, operational}
use Rattle.counting.specs.Periods.{one_more}
use Rattle.tpdo.specs.Moments.{event_count}
use Rattle.steps.specs.declared.tick.Ticked.{Ticked}

-- a flag for each kind, and none if no kind can join
abbrev pub due_by : Bool → Bool → Bool → Bool → Option (List Bool)
due_by beats shows1 shows2 differs =
    cond (((beats || shows1) || shows2) || differs) (Some (true ∷ false ∷ beats ∷ shows1 ∷ shows2 ∷ [])) None

abbrev pub event_clock : Bool → Pdo → Clock → Clock
event_clock counts p k = record { ticks = (event_count counts p k.ticks).count; syncs = k.syncs }

-- in the states in which timers run
abbrev pub counted_on : Bool → Communication → Timers → Bool → Bool → Ticked
counted_on counts k t good announced =
    let beats = one_more k.heartbeat t.heartbeat in
    let shows1 = (event_count counts k.pdo1 t.pdo1.ticks).ends in
    let shows2 = (event_count counts k.pdo2 t.pdo2.ticks).ends in
    record {
      timers =
          record {
            inhibit = t.inhibit - 1;
            heartbeat = beats.count;
            pdo1 = event_clock counts k.pdo1 t.pdo1;
            pdo2 = event_clock counts k.pdo2 t.pdo2;
          };
      due = due_by beats.ends shows1 shows2 (not (beq good announced));
    }

abbrev pub ticked_of : Nmt → Communication → Timers → Bool → Bool → Ticked
ticked_of s k t good announced =
    cond (eqb s.code initialising_code)
    (record { timers = t; due = None })
    (counted_on (eqb s.code (code operational)) k t good announced)
