use Prim.Native.Nat.{ℕ, ◌<◌}
use mathlib.Core.Path.{◌≡◌}
use Rattle.std.specs.Prelude.{None}
use Rattle.entries.specs.Table.{key_of, row_of_key}
use Rattle.entries.proofs.table.find.Given as goal

-- The list has no row for the first p sub-indices that are asked for: j, and then 0.
pub record Tried (i j p : ℕ) : Type 0 where
  pub first : 0 < p → row_of_key (key_of i j) ≡ None
  pub second : 1 < p → row_of_key (key_of i 0) ≡ None

abbrev pub invariant-loop-asked : goal.invariant-loop-asked
invariant-loop-asked l = Tried l.index l.sub l.asked-index
