-- Proves `FullLine` of specs/FullLine.antt by computation.
use mathlib.Core.Path.{refl}
use mathlib.Core.List.{[], ◌∷◌, ◌++◌}
use Rattle.entries.specs.Table.{table, lookup}
use Rattle.dictionary.specs.Reads.{shown}
use Rattle.dictionary.specs.Writes.{put}
use Rattle.sdo.specs.Service.{due}
use Rattle.sdo.specs.Upload.{due_in}
use Rattle.promises.specs.Acts.{settled_to, act}
use Rattle.promises.specs.Calls.{tick}
use Rattle.promises.specs.Node1.{asks}
use Rattle.runs.specs.FullLine.{begun, full, FullLine}
use Rattle.runs.proofs.Node1.{reached}

pub full_line : FullLine
unfolding table lookup shown put due due_in act settled_to
full_line =
    record {
      no_slot = refl;
      boots = refl;
      reachable = reached (begun ++ asks ∷ tick ∷ []) full refl;
      before = refl;
      begins = refl;
      five = refl;
      leaves = refl;
      several = (refl, refl);
      resets = (refl, refl);
      stops = refl;
      leaves_operational = refl;
      loses = refl;
      finds = (refl, refl);
      unasked_line = refl;
      switches_off_law = (refl, refl);
      beats_no_more = refl;
      speaks = (refl, refl);
      silenced = refl;
    }
