-- What a PDO counts, and whether it is due: a tick counts in Operational, and a SYNC
-- counts there for a PDO that is on and synchronous. 01, chapter "The waiting line".
use Rattle.std.specs.Prelude.{ℕ, Bool, not, ◌&&◌, cond}
use Rattle.entries.specs.declared.Pdo.{Pdo}
use Rattle.dictionary.specs.Accepted.{on}
use Rattle.promises.specs.Timers.{counted, completes, synchronous}
use Rattle.counting.specs.declared.Count.{Count}

abbrev pub event_count : Bool → Pdo → ℕ → Count
event_count operational p ticks =
    record {
      count = cond operational (counted p.event ticks) ticks;
      ends = operational && (not (synchronous p) && completes p.event ticks);
    }

abbrev pub sync_count : Pdo → ℕ → Count
sync_count p syncs =
    record {
      count = cond (on p.identifier && synchronous p) (counted p.transmission syncs) syncs;
      ends = (on p.identifier && synchronous p) && completes p.transmission syncs;
    }
