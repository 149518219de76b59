-- Proves 01's worked numbers from the definitions, by computation.
use mathlib.Core.Path.{refl}
use Rattle.entries.specs.Table.{table, lookup}
use Rattle.dictionary.specs.Reads.{shown}
use Rattle.dictionary.specs.Writes.{put}
use Rattle.sdo.specs.Service.{due}
use Rattle.sdo.specs.Upload.{due_in}
use Rattle.promises.specs.Acts.{settled_to, act}
use Rattle.promises.specs.Worked.{Worked, Printed}

pub worked : Worked
unfolding table lookup shown put due due_in act settled_to
worked = refl

pub printed : Printed
unfolding table lookup shown put due due_in act settled_to
printed = refl
