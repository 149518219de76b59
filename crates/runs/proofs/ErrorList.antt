-- Proves `Losing` of specs/ErrorList.antt by computation.
use mathlib.Core.Path.{refl}
use Rattle.entries.specs.Table.{table, lookup}
use Rattle.dictionary.specs.Reads.{shown}
use Rattle.dictionary.specs.Writes.{put}
use Rattle.sdo.specs.Service.{due}
use Rattle.sdo.specs.Upload.{due_in}
use Rattle.promises.specs.Acts.{settled_to, act}
use Rattle.promises.proofs.Service.{is_request_law}
use Rattle.runs.specs.ErrorList.{Losing}

pub losing : Losing
unfolding table lookup shown put due due_in act settled_to
losing =
    record {
      five_lost = refl;
      four_read = refl;
      empties = record { requests = (is_request_law _ _).0 refl; accepted = refl };
      one_lost = refl;
      one_read = refl;
      kept = refl;
      second_blank = refl;
    }
