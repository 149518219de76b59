-- Proves `Joining` of specs/Joining.antt by computation.
use Prim.Native.Nat.{suc, ◌%◌}
use native.Mathlib.Omega.{arith}
use mathlib.Core.Path.{refl, ap}
use Rattle.entries.specs.Table.{table, lookup}
use Rattle.dictionary.specs.Reads.{shown}
use Rattle.dictionary.specs.Writes.{put}
use Rattle.sdo.specs.Service.{due}
use Rattle.sdo.specs.Upload.{due_in}
use Rattle.sdo.specs.Worked.{bytes}
use Rattle.promises.specs.States.{two}
use Rattle.promises.specs.Acts.{settled_to, act}
use Rattle.promises.specs.Node1.{data_frame}
use Rattle.promises.specs.PassedOver.{syncs}
use Rattle.runs.specs.Joining.{Joining}

pub joining : Joining
unfolding table lookup shown put due due_in act settled_to
joining =
    record {
      beats = refl;
      beats_sent_late = refl;
      beats_anew_law = refl;
      beats_on = refl;
      counted_beats = refl;
      elapses = refl;
      enters_again = refl;
      elapses_anew = refl;
      elapses_switched = refl;
      never_elapses = refl;
      counted_ticks = refl;
      passed_over = refl;
      sync_passed_over = refl;
      due_and_missing = λ n e.
          syncs {f = data_frame 0x080 0 (bytes 0 0 0 0 0 0 0 0)} {w = two} (record {
            hears = record { unrefused = refl; heard = refl };
            identifier = refl;
            length = omega arith;
            operational = refl;
          })
          (omega arith, omega arith)
          (record { some = omega arith; turn = ap (λ m. suc m % 2) e });
      counted_to_it = refl;
      entry_passed_over = refl;
      none_yet = refl;
      several = refl;
      in_order = refl;
      syncs = refl;
      syncs_anew_law = refl;
      syncs_entered = refl;
      counted_syncs = refl;
      replies = refl;
      alerts = refl;
    }
