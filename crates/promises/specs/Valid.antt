-- A valid head. "Every head comes from power-up and is altered by calls only; the promises are for such
-- heads, and power-up and each call are proved to leave one": 01, chapter "The head and its neighbours".
use Rattle.std.specs.Prelude.{ℕ, ◌<◌, ◌≤◌, ◌≡◌, Bool, true, ◌||◌, ◌⊎◌}
use Rattle.entries.specs.declared.Communication.{Communication}
use Rattle.entries.specs.declared.Pdo.{Pdo}
use Rattle.dictionary.specs.Accepted.{on}
use Rattle.dictionary.specs.Valid.{ValidDevice}
use Rattle.waiting.specs.Line.{places, has}
use Rattle.waiting.specs.Places.{waiting, Holds}
use Rattle.parts.specs.declared.Clock.{Clock}
use Rattle.parts.specs.declared.Timers.{Timers}
use Rattle.parts.specs.declared.Core.{Core}
use Rattle.parts.specs.declared.Head.{Head}
use Rattle.promises.specs.States.{operational, stopped, pre_operational, is_in, is_initialising}
use Rattle.promises.specs.States.{communication, PdoNumber, pdo, clock, fixed_for, at_rest}
use Rattle.promises.specs.Timers.{inhibit_ticks}
use Rattle.promises.specs.WaitingLine.{Kind, emergency, number, is_alerting, may_stay}

-- whether a kind waits
abbrev pub waits : Head → Kind → Bool
waits h k = has (number k) (waiting h.line)

-- a named state
abbrev pub is_named : Core → Bool
is_named c = is_initialising c || is_in stopped c || is_in operational c || is_in pre_operational c

-- a count of a period n is below n, or 0
abbrev pub Below : ℕ → ℕ → Type 0
Below n count = (count ≡ 0) ⊎ (count < n)

pub record ValidClock (p : Pdo) (k : Clock) : Type 0 where
  pub ticks : Below p.event k.ticks
  -- while the PDO is on: its type cannot be written then
  pub syncs : on p.identifier ≡ true → Below p.transmission k.syncs

pub record ValidTimers (s : Communication) (t : Timers) : Type 0 where
  -- at most the inhibit time of 65,535 units
  pub inhibit : t.inhibit ≤ inhibit_ticks 0xFFFF
  pub heartbeat : Below s.heartbeat t.heartbeat
  pub clocks : (w : PdoNumber) → ValidClock (pdo s w) (clock t w)

pub record Valid (h : Head) : Type 0 where
  pub device : ValidDevice h.core.device
  pub named : is_named h.core ≡ true
  pub timers : ValidTimers (communication h.core) h.core.timers
  -- In Initialising timers stand, no inhibit time runs, and "good" counts as announced.
  pub fresh : is_initialising h.core ≡ true → (h.core.announced ≡ true) × (h.core.timers ≡ at_rest)
  -- each at most once, and empty places behind them
  pub line : Holds places h.line (waiting h.line)
  -- what is fixed at a SYNC is a position, below the greatest range
  pub fixed : (w : PdoNumber) → fixed_for h.core.fixed w < 1048576
  -- a kind waits only if it may stay
  pub only : (k : Kind) → waits h k ≡ true → may_stay h.core k ≡ true
  -- the emergency waits exactly while its condition holds
  pub urgent : is_alerting h.core ≡ true → waits h emergency ≡ true
