-- Proves `StartsMet` of specs/Starts.antt by computation.
use Prim.Native.Nat.{ℕ}
use native.Mathlib.Omega.{arith}
use mathlib.Core.Path.{refl, ap}
use mathlib.Core.Logic.{inr, ⊎_elim}
use borrow.Author.Tests.{eqb-false}
use Rattle.entries.specs.Table.{table, lookup}
use Rattle.dictionary.specs.Reads.{shown}
use Rattle.dictionary.specs.Writes.{put}
use Rattle.sdo.specs.Service.{Due, none, value, upload, confirmation, abort, due}
use Rattle.sdo.specs.Upload.{due_in}
use Rattle.sdo.specs.Worked.{bytes}
use Rattle.promises.specs.Acts.{settled_to, act}
use Rattle.promises.specs.Calls.{receive}
use Rattle.promises.specs.Meant.{Writes}
use Rattle.promises.specs.Histories.{after}
use Rattle.promises.specs.Resets.{Saves}
use Rattle.promises.specs.Node1.{node1, to_node1}
use Rattle.promises.specs.Worked.{missing}
use Rattle.runs.specs.Starts.{StartsMet}

-- the entry that is written
abbrev key_in : Due → ℕ
key_in none = 0
key_in (value w m) = 0
key_in (upload b t) = 0
key_in (confirmation k v) = k
key_in (abort code) = 0

pub starts_met : StartsMet
unfolding table lookup shown put due due_in act settled_to
starts_met =
    record {
      none_saves = (λ x. x, (λ x. x, (unsaving, (λ x. x, tt))));
      reads_written = refl;
      commands = record { hears = record { unrefused = refl; heard = refl }; identifier = refl; says = refl };
      reads_again = refl;
      bad_node = inr (omega arith);
    }
  where
    -- the write is of 1017h
    unsaving : Saves (after node1 missing) (receive (to_node1 (bytes 0x2B 0x17 0x10 0x00 0xE8 0x03 0 0))) → ⊥
    unsaving s =
        ⊎_elim
        (λ (w : Writes _ _ 0x1010_01 s.0). eqb-false 0x1017_00 0x1010_01 refl (ap key_in w.accepted))
        (λ (w : Writes _ _ 0x1011_01 s.0). eqb-false 0x1017_00 0x1011_01 refl (ap key_in w.accepted))
        s.1
