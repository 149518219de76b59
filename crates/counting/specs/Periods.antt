-- One step in counting a period of n: the new count, and whether n is reached.
-- 01, chapter "The waiting line": every H ticks, every E ticks, each n-th SYNC.
use Rattle.std.specs.Prelude.{ℕ}
use Rattle.promises.specs.Timers.{counted, completes}
use Rattle.counting.specs.declared.Count.{Count}

abbrev pub one_more : ℕ → ℕ → Count
one_more n count = record { count = counted n count; ends = completes n count }
