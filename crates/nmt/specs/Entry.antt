-- What entering a state and a reset change in the parts of a head: 01, chapter "States". Reviewers can skip this
-- file: it follows the code, and proofs/Entered.antt proves that the head with these parts is what `promises` says.
use Rattle.std.specs.Prelude.{eqb, Bool, true, not, cond, List, [], ℕ}
use Rattle.cases.specs.Padded.{pad}
use Rattle.entries.specs.declared.Communication.{Communication}
use Rattle.entries.specs.declared.Settings.{Settings}
use Rattle.waiting.specs.Line.{places, heartbeat, tpdo1, tpdo2, has}
use Rattle.waiting.specs.Places.{withdraw_in}
use Rattle.waiting.specs.Calls.{joins_in, if_due}
use Rattle.parts.specs.declared.Nmt.{Nmt}
use Rattle.parts.specs.declared.Timers.{Timers}
use Rattle.promises.specs.States.{operational, code, live, initialising, at_rest}
use Rattle.promises.specs.WaitingLine.{flags_of}
use Rattle.promises.specs.Acts.{uncounted_pdos, entry_moments}
use Rattle.settling.specs.Joined.{joined_by}
use Rattle.nmt.specs.declared.entry.Entered.{Entered}
use Rattle.nmt.specs.declared.entry.Restarted.{Restarted}

-- who stays: in Stopped only the heartbeat, and elsewhere all but the PDOs, if Operational is left
abbrev pub staying_by : List ℕ → Nmt → Nmt → List ℕ
staying_by l present s =
    cond (not (live s)) (joins_in (pad places []) (if_due (has heartbeat l) heartbeat))
    (cond (eqb present.code (code operational)) (withdraw_in (withdraw_in l tpdo1) tpdo2) l)

abbrev pub entered_by : Nmt → Communication → Timers → Bool → Bool → List ℕ → Nmt → Entered
entered_by present k t good announced l s =
    record {
      nmt = s;
      timers = uncounted_pdos t;
      line = joined_by (staying_by l present s) s k t.inhibit good announced (flags_of (entry_moments k s));
    }

abbrev pub restored_by : Settings → Settings → Bool → Settings
restored_by present saved all = cond all saved (record { communication = saved.communication; profile = present.profile })

abbrev pub restarted_by : Settings → Settings → Bool → Restarted
restarted_by present saved all =
    record {
      settings = restored_by present saved all;
      nmt = initialising;
      announced = true;
      timers = at_rest;
      line = pad places [];
    }
