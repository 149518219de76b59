-- Proves 01's worked numbers from the definitions, by computation.
use mathlib.Core.Path.{refl}
use Rattle.names.specs.Segment.{segment_of}
use Rattle.entries.specs.Table.{table, lookup}
use Rattle.dictionary.specs.Reads.{shown}
use Rattle.dictionary.specs.Writes.{put}
use Rattle.sdo.specs.Service.{due}
use Rattle.sdo.specs.Upload.{due_in}
use Rattle.sdo.specs.Worked.{Worked}

pub worked : Worked
unfolding table lookup segment_of shown put due due_in
worked =
    record {
      p1 = refl;
      p2 = refl;
      p3 = refl;
      p4 = refl;
      p5 = refl;
      p6 = refl;
      p7 = refl;
      p8 = refl;
      p9 = (refl, refl);
      p10 = (refl, refl);
      p11 = refl;
      p12 = (refl, refl);
      one_byte = (refl, refl, refl);
      two_bytes = (refl, refl);
      unsaid = refl;
      three = (refl, refl);
      read_only = (refl, refl);
      length_first = (refl, refl, refl, refl);
      entry_first = (refl, refl, refl);
      no_index = refl;
      signature = refl;
      reserved = (refl, refl, refl);
      other_commands = (refl, refl, refl);
      command_first = (refl, refl);
      segmented = refl;
      value_first = refl;
      client_abort = refl;
      name_read = (refl, refl);
      name_segment = (refl, refl);
      wrong_toggle_law = (refl, refl);
      no_transfer_law = refl;
      name_write = (refl, refl, refl);
      name_sub_index = refl;
    }
