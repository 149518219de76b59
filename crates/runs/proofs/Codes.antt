-- Proves `CodesMet` of specs/Codes.antt by computation.
use mathlib.Core.Path.{refl}
use Rattle.entries.specs.Table.{table, lookup}
use Rattle.dictionary.specs.Reads.{shown}
use Rattle.dictionary.specs.Writes.{put}
use Rattle.sdo.specs.Service.{due}
use Rattle.sdo.specs.Upload.{due_in}
use Rattle.promises.specs.Acts.{settled_to, act}
use Rattle.runs.specs.Codes.{CodesMet}

pub codes_met : CodesMet
unfolding table lookup shown put due due_in act settled_to
codes_met =
    record {
      pre_operational_law = record { is_first = refl; its_code = refl; sent = refl };
      operational = record { is_first = refl; its_code = refl; sent = refl };
      stopped = record { is_first = refl; its_code = refl; sent = refl };
      again = record { is_first = refl; its_code = refl; sent = refl };
      is_booted = refl;
      is_said = refl;
      reset = refl;
      booted = refl;
      tpdo1 = record { is_first = refl; sent = refl };
      tpdo2 = record { is_first = refl; sent = refl };
    }
