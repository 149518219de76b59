-- Proves `Serving` of specs/Service.antt by computation.
use mathlib.Core.Path.{refl}
use Rattle.entries.specs.Table.{table, lookup}
use Rattle.dictionary.specs.Reads.{shown}
use Rattle.dictionary.specs.Writes.{put}
use Rattle.sdo.specs.Service.{due}
use Rattle.sdo.specs.Upload.{due_in}
use Rattle.promises.specs.Acts.{settled_to, act}
use Rattle.promises.proofs.Service.{is_request_law}
use Rattle.runs.specs.Service.{Serving}

pub serving : Serving
unfolding table lookup shown put due due_in act settled_to
serving =
    record {
      requests = (is_request_law _ _).0 refl;
      sends_first = refl;
      owes_first = refl;
      answers_first = refl;
      sends_next = refl;
      owes_next = refl;
      answers_next = refl;
      withdrawn = refl;
    }
