-- Proves the sessions of specs/Worked.antt from the definitions, by computation.
use mathlib.Core.Path.{refl}
use Rattle.names.specs.Segment.{segment_of}
use Rattle.entries.specs.Table.{table, lookup}
use Rattle.dictionary.specs.Reads.{shown}
use Rattle.dictionary.specs.Writes.{put}
use Rattle.sdo.specs.Service.{due}
use Rattle.sdo.specs.Upload.{due_in}
use Rattle.promises.specs.Acts.{settled_to, act}
use Rattle.text.specs.Grammar.{parsed}
use Rattle.text.specs.Printed.{frame_text, refusal_text}
use Rattle.transcript.specs.Commands.{told}
use Rattle.transcript.specs.Worked.{Worked}

pub worked : Worked
unfolding table lookup shown put due due_in segment_of act settled_to parsed frame_text refusal_text told
worked =
    record { printed = refl; time = refl; positions = refl; identity = refl; names = refl; refusals = refl; malformed = refl }
