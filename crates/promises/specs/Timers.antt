-- The inhibit time, the heartbeat's ticks, and the ticks and SYNCs of a PDO: 01, chapter "The waiting line".
use Rattle.std.specs.Prelude.{ℕ, suc, ◌+◌, ◌-◌, ◌/◌, ◌≤◌, eqb, ltb, ◌≡◌, ◌⊎◌, Bool, not, ◌&&◌, ◌||◌, cond}
use Rattle.cases.specs.Tests.{within}
use Rattle.entries.specs.declared.Pdo.{Pdo}
use Rattle.entries.specs.declared.Communication.{Communication}
use Rattle.entries.specs.Keys.{heartbeat_key, event_key_of, tpdo1, tpdo2}
use Rattle.dictionary.specs.Accepted.{on}
use Rattle.parts.specs.declared.Clock.{Clock}
use Rattle.parts.specs.declared.Timers.{Timers}

-- for 1015h = v (100 µs units) none if v = 0, else v/10 rounded up, plus 1, ticks
abbrev pub inhibit_ticks : ℕ → ℕ
inhibit_ticks v = cond (eqb v 0) 0 ((v + 9) / 10 + 1)

-- every n ticks, at each n-th SYNC: one more is counted, and at n the count starts again; with n = 0 nothing is counted
abbrev pub counted : ℕ → ℕ → ℕ
counted n count = cond (ltb (suc count) n) (suc count) 0

-- the count comes to n
abbrev pub completes : ℕ → ℕ → Bool
completes n count = eqb (suc count) n

-- Types 1..240; the others are 254 and 255
abbrev pub synchronous : Pdo → Bool
synchronous p = within 1 240 p.transmission

abbrev pub OnSyncs : Pdo → Type 0
OnSyncs p = (1 ≤ p.transmission) × (p.transmission ≤ 240)

abbrev pub OnEvents : Pdo → Type 0
OnEvents p = (p.transmission ≡ 254) ⊎ (p.transmission ≡ 255)

-- Types 254 and 255: every E ticks (sub 5 = E > 0)
abbrev pub event_due : Pdo → Clock → Bool
event_due p k = not (synchronous p) && completes p.event k.ticks

-- Types 1..240: at each n-th SYNC
abbrev pub sync_due : Pdo → Clock → Bool
sync_due p k = synchronous p && completes p.transmission k.syncs

-- (Ticks are counted for every PDO, but only types 254 and 255 are due by them; switching on restarts the count.)
abbrev pub clock_ticked : Pdo → Clock → Clock
clock_ticked p k = record { ticks = counted p.event k.ticks; syncs = k.syncs }

abbrev pub clock_synced : Pdo → Clock → Clock
clock_synced p k =
    record { ticks = k.ticks; syncs = cond (on p.identifier && synchronous p) (counted p.transmission k.syncs) k.syncs }

abbrev pub if_running : Bool → Pdo → Clock → Clock
if_running runs p k = cond runs (clock_ticked p k) k

-- A tick: the inhibit time runs one tick less, the heartbeat's count goes on, and in Operational those of the PDOs.
abbrev pub timers_ticked : Bool → Communication → Timers → Timers
timers_ticked operational s t =
    record {
      inhibit = t.inhibit - 1;
      heartbeat = counted s.heartbeat t.heartbeat;
      pdo1 = if_running operational s.pdo1 t.pdo1;
      pdo2 = if_running operational s.pdo2 t.pdo2;
    }

abbrev pub timers_synced : Communication → Timers → Timers
timers_synced s t =
    record {
      inhibit = t.inhibit;
      heartbeat = t.heartbeat;
      pdo1 = clock_synced s.pdo1 t.pdo1;
      pdo2 = clock_synced s.pdo2 t.pdo2;
    }

-- bit 31 of sub 1 goes from 1 to 0
abbrev pub switched_on : Pdo → Pdo → Bool
switched_on before after = not (on before.identifier) && on after.identifier

-- counted from switching on, or from a write to sub 5; SYNCs from switching on
abbrev pub clock_written : Bool → Pdo → Pdo → Clock → Clock
clock_written sub5 before after k =
    record {
      ticks = cond (sub5 || switched_on before after) 0 k.ticks;
      syncs = cond (switched_on before after) 0 k.syncs;
    }

-- What is named k is written, a setting by the key of its own entry (6200-0 is named as 1800-5).
-- The heartbeat is counted from its write. Writing 1015h doesn't alter a running inhibit time.
abbrev pub timers_written : ℕ → Communication → Communication → Timers → Timers
timers_written k before after t =
    record {
      inhibit = t.inhibit;
      heartbeat = cond (eqb k heartbeat_key) 0 t.heartbeat;
      pdo1 = clock_written (eqb k (event_key_of tpdo1)) before.pdo1 after.pdo1 t.pdo1;
      pdo2 = clock_written (eqb k (event_key_of tpdo2)) before.pdo2 after.pdo2 t.pdo2;
    }
