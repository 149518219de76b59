-- Which calls take a kind from the line unsent: 01's list "Withdrawals, and
-- no others", one clause for each of its lines, with what 2/13 changes. Chapter "The waiting line".
use Rattle.std.specs.Prelude.{ℕ, ◌≤◌, ◌≡◌, true, false}
use Rattle.can.specs.declared.Received.{Received}
use Rattle.dictionary.specs.Accepted.{on}
use Rattle.parts.specs.declared.Head.{Head}
use Rattle.parts.specs.declared.Sensor.TheVariants.{Missing, Raw}
use Rattle.promises.specs.States.{CommandedState, operational, stopped, is_in, Reset, to_enter, to_reset, PdoNumber, one, two}
use Rattle.promises.specs.States.{communication, pdo}
use Rattle.promises.specs.Timers.{OnEvents}
use Rattle.promises.specs.WaitingLine.{Kind, emergency, heartbeat, tpdo}
use Rattle.promises.specs.Calls.{Call, receive, sample}
use Rattle.promises.specs.Meant.{Commands, Writes}

-- 1800-1, 1801-1
abbrev pub identifier_key : PdoNumber → ℕ
identifier_key one = 0x1800_01
identifier_key two = 0x1801_01

pub data Withdrawal (h : Head) : Call → Kind → Type 0 where
  -- a reset takes all;
  resets : {f : Received} {r : Reset} {k : Kind} → Commands h f (to_reset r) → Withdrawal h (receive f) k
  -- entering Stopped takes all but the heartbeat;
  stops : {f : Received} {k : Kind} → Commands h f (to_enter stopped) → (k ≡ heartbeat → ⊥) → Withdrawal h (receive f) k
  -- leaving Operational takes both PDOs; (a command naming the present state leaves no state)
  leaves : {f : Received} {g : CommandedState} {w : PdoNumber} → Commands h f (to_enter g) → is_in operational h.core ≡ true
      → is_in g h.core ≡ false → Withdrawal h (receive f) (tpdo w)
  -- a missing sample takes both PDOs, but not a frame of types 1 to 240: A missing sample no longer takes such a frame back.
  loses : {w : PdoNumber} → OnEvents (pdo (communication h.core) w) → Withdrawal h (sample Missing) (tpdo w)
  -- switching a PDO off takes that PDO;
  switches_off_law : {f : Received} {v : ℕ} {w : PdoNumber} → Writes h f (identifier_key w) v → on v ≡ false → Withdrawal h (receive f) (tpdo w)
  -- writing 0 to 1017h takes the heartbeat;
  beats_no_more : {f : Received} → Writes h f 0x1017_00 0 → Withdrawal h (receive f) heartbeat
  -- the emergency goes when its condition below ends: a command leaves Pre-operational or Operational as above, bit 31 of 1014h is set,
  silenced : {f : Received} {v : ℕ} → Writes h f 0x1014_00 v → on v ≡ false → Withdrawal h (receive f) emergency
  -- or the present reading, found or lost, no longer differs from the one last
  -- announced. (Sending the emergency starts an inhibit time, but sending is no withdrawal.)
  found : {r : ℕ} → r ≤ 1048575 → h.core.announced ≡ true → Withdrawal h (sample (Raw r)) emergency
  lost : h.core.announced ≡ false → Withdrawal h (sample Missing) emergency
