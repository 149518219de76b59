-- What is found is the row of the index in bytes 1 and 2 and the sub-index in byte 3.
use Prim.Native.Nat.{ℕ, ◌+◌, ◌*◌}
use native.Mathlib.Omega.{arith}
use mathlib.Core.Path.{◌≡◌, sym, ap, ◌∙◌}
use mathlib.Core.List.{List}
use lib.ListN.{get_or}
use Rattle.entries.specs.declared.table.Row.{Row}
use Rattle.entries.specs.Table.{Found, lookup}
use Rattle.std.specs.Prelude.{Ok as At}
use Rattle.entries.specs.Laws.{Finds}
use Rattle.entries.proofs.Laws.{laws}
use Rattle.sdo.specs.Request.{index_of, sub_of}
use Rattle.sdo.specs.Exactly.{EntryStands}

module _ (f : List ℕ) where
  abbrev pub asked : Found
  asked = lookup (get_or f 1 0 + 256 * get_or f 2 0) (get_or f 3 0)

  pub finds : Finds (get_or f 1 0 + 256 * get_or f 2 0) (get_or f 3 0)
  finds = laws.finds _ _

  pub index_is : index_of f ≡ get_or f 1 0 + 256 * get_or f 2 0
  index_is = omega arith

  pub found : lookup (index_of f) (sub_of f) ≡ asked
  found = ap (λ (n : ℕ). lookup n (get_or f 3 0)) index_is

  pub entry : (r : Row) → lookup (index_of f) (sub_of f) ≡ At r → EntryStands f r
  entry r e = (finds.at r).0 (sym found ∙ e)
