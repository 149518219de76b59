-- Proves the examples of specs/Worked.antt by computation; that `ready` is valid,
-- by the laws of the factory settings and of accepted writes. Assumes nothing.
use Prim.Native.Nat.{ℕ}
use native.Mathlib.Omega.{arith}
use mathlib.Core.Path.{◌≡◌, refl}
use mathlib.Core.Bool.{true}
use Rattle.cases.proofs.Cases.{true_false}
use Rattle.entries.specs.declared.table.Row.{Row}
use Rattle.entries.specs.Table.{Found, table, no_row, lookup}
use Rattle.std.specs.Prelude.{Ok as At, Err}
use Rattle.entries.specs.declared.table.NotFound.TheVariants.{NoSubIndex, NoIndex}
use Rattle.entries.specs.Laws.{Listed}
use Rattle.entries.proofs.Laws.{laws as entries-laws}
use Rattle.dictionary.specs.Accepted.{abort_code}
use Rattle.dictionary.specs.Reads.{shown}
use Rattle.dictionary.specs.Writes.{put}
use Rattle.dictionary.specs.Valid.{ValidIdentity, ValidDevice}
use Rattle.dictionary.specs.Worked.{identity1, at, ready, ends, end_each, Worked}
use Rattle.dictionary.proofs.Laws.{laws}

-- its names stand in arrays of 32 bytes, and have 1 to 32
pub named1 : ValidIdentity identity1
named1 =
    record {
      fits =
          record {
            vendor = omega arith;
            product = omega arith;
            revision = omega arith;
            serial = omega arith;
            arrays = (refl, refl, refl);
          };
      named = refl;
    }

at_valid : ValidDevice (at 100)
at_valid =
    let factory_valid = laws.factory_valid 1 (omega arith) (omega arith) in
    record {
      node_low = omega arith;
      node_high = omega arith;
      identity = named1;
      raw = omega arith;
      raw_missing = λ e. true_false e;
      errors = omega arith;
      settings = factory_valid;
      saved = factory_valid;
    }

-- the row of the entry that is found
abbrev row_in : Found → Row
row_in (At r) = r
row_in (Err NoSubIndex) = no_row
row_in (Err NoIndex) = no_row

listed : (i j : ℕ) (r : Row) → lookup i j ≡ At r → Listed r
listed i j r e = (((entries-laws.finds i j).at r).0 e).0.0

ready_valid : ValidDevice ready
unfolding table lookup abort_code put
ready_valid =
    let one = laws.written_valid (at 100) (row_in (lookup 0x1800 1)) 0x80000181
    (record { listed = listed 0x1800 1 _ refl; writable = refl; long = omega arith; unaborted = refl }) at_valid in
    let two = laws.written_valid _ (row_in (lookup 0x1801 1)) 0x80000281
    (record { listed = listed 0x1801 1 _ refl; writable = refl; long = omega arith; unaborted = refl }) one in
    laws.written_valid _ (row_in (lookup 0x6000 0)) 4
    (record { listed = listed 0x6000 0 _ refl; writable = refl; long = omega arith; unaborted = refl }) two

ends_accepted : end_each ready ends ≡ true
unfolding table lookup abort_code put
ends_accepted = refl

pub worked : Worked
unfolding table lookup abort_code shown put
worked =
    record {
      type = refl;
      p1 = refl;
      p2 = refl;
      p5 = refl;
      p6 = refl;
      p7 = refl;
      p8 = refl;
      p9 = (refl, refl);
      p10 = (refl, refl);
      p11 = refl;
      p12 = (refl, refl);
      no_index = refl;
      value_first = (refl, refl, refl);
      step = (refl, refl, refl);
      operating = (refl, refl);
      band = (refl, refl, refl, refl);
      high_bits = (refl, refl, refl);
      held = (refl, refl, refl);
      held_type = (refl, refl);
      types = (refl, refl, refl, refl);
      emergency = (refl, refl, refl);
      signatures = (refl, refl);
      emptied = (refl, refl);
      errors = (refl, refl, refl);
      register = (refl, refl, refl);
      status = (refl, refl);
      rescaled = (refl, refl, refl, refl);
      saves = (refl, refl);
      loads = (refl, refl);
      factory = (refl, refl);
      valid = ready_valid;
      each = refl;
      accepted = ends_accepted;
    }
