-- Proves `Busy` of specs/Busy.antt: the conditions by computation, and what is then sent by the theorems.
use native.Mathlib.Omega.{arith}
use mathlib.Core.Path.{refl}
use mathlib.Core.List.{◌∷◌, ◌++◌}
use Rattle.entries.specs.Table.{table, lookup}
use Rattle.dictionary.specs.Reads.{shown}
use Rattle.dictionary.specs.Writes.{put}
use Rattle.sdo.specs.Service.{due}
use Rattle.sdo.specs.Upload.{due_in}
use Rattle.parts.specs.declared.Sensor.TheVariants.{Missing}
use Rattle.promises.specs.Acts.{settled_to, act}
use Rattle.promises.specs.Calls.{sample, step}
use Rattle.promises.specs.Histories.{after}
use Rattle.promises.specs.Node1.{node1}
use Rattle.promises.specs.Gap.{Unrelieved}
use Rattle.promises.proofs.Gap.{gap}
use Rattle.runs.specs.Busy.{busy_line, until_told, onward, busy_master, held, wait, Busy}
use Rattle.runs.proofs.Node1.{power_up_law}

unrelieved : Unrelieved 1 (step (after node1 busy_line) (sample Missing)) busy_master
unfolding table lookup shown put due due_in act settled_to
unrelieved = record { missing = refl; alerting = refl; running = refl }

unrelieved_still : Unrelieved 1 (after node1 (held ++ wait)) busy_master
unfolding table lookup shown put due due_in act settled_to
unrelieved_still = record { missing = refl; alerting = refl; running = refl }

pub busy_line_law : Busy
unfolding table lookup shown put due due_in act settled_to
busy_line_law =
    record {
      before = refl;
      then = refl;
      live = refl;
      uninhibited = refl;
      unrelieved = unrelieved;
      five = refl;
      good = refl;
      told = gap.missing_is_told power_up_law busy_line busy_master refl refl unrelieved (omega arith);
      one_waits = refl;
      one_leaves = refl;
      both_leave = refl;
      says_missing_law = refl;
      silent = gap.silent_once_told power_up_law (busy_line ++ sample Missing ∷ until_told) onward refl refl;
      anew = refl;
      inhibited = refl;
      good_still = refl;
      over = refl;
      unrelieved_still = unrelieved_still;
      told_then = gap.gap_is_told power_up_law (held ++ wait) busy_master refl refl refl unrelieved_still (omega arith);
      leaves = record { waited = refl; identifier = refl };
      good_again = refl;
    }
