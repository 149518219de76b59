-- Proves the laws of specs/Laws.antt from the other files; the second index by computation. Assumes nothing.
use Prim.Native.Nat.{ℕ}
use lib.ListN.{get_or, get_or-map}
use mathlib.Core.Path.{◌≡◌, refl, sym, ◌∙◌, ap}
use mathlib.Core.Bool.{Bool, false}
use mathlib.Core.List.{List, map}
use mathlib.Core.Option.{some}
use Rattle.entries.specs.declared.Device.{Device}
use Rattle.std.specs.Prelude.{Ok as At, Some as Number}
use Rattle.entries.specs.declared.table.Row.{Row}
use Rattle.entries.specs.Table.{table, no_row, row_at, key, index, sub, width, is_rw, altered, lookup}
use Rattle.entries.proofs.Listed.{agree}
use Rattle.entries.specs.Laws.{columns}
use Rattle.entries.proofs.Laws.{laws as entries-laws}
use Rattle.dictionary.specs.Shown.{Shown}
use Rattle.dictionary.specs.Reads.{shown, read_of}
use Rattle.dictionary.specs.Writes.{own_key, written, put}
use Rattle.dictionary.specs.Laws.{Shows, Laws}
use Rattle.dictionary.proofs.Factory.{factory_valid}
use Rattle.dictionary.proofs.Valid.{written_fits, written_valid}
use Rattle.dictionary.proofs.ReadBack.{reads_back}
use Rattle.dictionary.proofs.Typed.{typed}

abbrev Columns : Type 0
Columns = ℕ × ℕ × ℕ × Bool

abbrev columns_of : Row → Columns
columns_of r = (index r, sub r, width r, is_rw r)

rows : (p : ℕ) → columns_of (row_at p) ≡ get_or columns p (0, 0, 0, false)
rows p = sym (get_or-map columns_of table p no_row) ∙ ap (λ (l : List Columns). get_or l p (0, 0, 0, false)) entries-laws.all_of_them

-- what the row that is found shows
pub shows : (d : Device) (o : Bool) (i j : ℕ) {r : Row} {s : Shown} → lookup i j ≡ At r → shown d o r ≡ s → Shows d o i j s
shows d o i j e f = ap (read_of d o) e ∙ ap some f

second_reads : (d : Device) (o : Bool)
    → let event = Number d.settings.communication.pdo1.event in Shows d o 0x1800 5 event × Shows d o 0x6200 0 event
unfolding table lookup shown
second_reads d o = (shows d o 0x1800 5 refl refl, shows d o 0x6200 0 refl refl)

second_writes : (d : Device) (v : ℕ) → written d 0x6200_00 v ≡ written d 0x1800_05 v
unfolding put
second_writes d v = refl

own : map altered table ≡ map (λ r. own_key (key r)) table
unfolding table
own = refl

pub laws : Laws
laws =
    record {
      rows = rows;
      factory_valid = factory_valid;
      written_valid = written_valid;
      written_fits = written_fits;
      reads_back = reads_back;
      typed = typed;
      alters = agree altered (λ r. own_key (key r)) own;
      second_reads = second_reads;
      second_writes = second_writes;
    }
