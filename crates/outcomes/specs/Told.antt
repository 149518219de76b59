-- What a host learns when it asks about the head that it keeps, after every sequence of calls
-- from power-up. The questions are those of `lent`. 01, chapter "The head and its neighbours".
use Rattle.std.specs.Prelude.{ℕ, ◌≡◌, ◌↔◌, true, false, List, Some as Number}
use Rattle.std.proofs.Math.Option.{some}
use Rattle.parts.specs.declared.Sensor.TheVariants.{Missing, Raw}
use Rattle.waiting.specs.Line.{first}
use Rattle.waiting.specs.Places.{waiting}
use Rattle.promises.specs.States.{is_initialising, PdoNumber}
use Rattle.promises.specs.WaitingLine.{Kind, tpdo, number}
use Rattle.promises.specs.Calls.{Call, sample}
use Rattle.promises.specs.Withdrawals.{Withdrawal}
use Rattle.promises.specs.Valid.{waits as waitsIn}
use Rattle.promises.specs.Histories.{after, PowerUp, powered}
use Rattle.promises.specs.Readings.{reads_in, last_sample}
use Rattle.promises.specs.Gap.{node_of}
use Rattle.promises.specs.Codes.{code_after}
use Rattle.lent.specs.Questions.{state_code, is_good, position_of, any_waits, goes_if_missing}

pub record Told (p : PowerUp) (cs : List Call) : Type 0 where
  -- Each NMT state is named with its heartbeat code.
  pub state : state_code (after (powered p) cs) ≡ code_after (node_of p) cs
  -- the last sample that was taken is a raw position; before the first it is missing
  pub good : (is_good (after (powered p) cs) ≡ true) ↔ ((r : ℕ) × (last_sample Missing cs ≡ Raw r))
  -- Blank is not zero: there is no position exactly while missing, and else it is what 6004-0 reads.
  pub blank : ((position_of (after (powered p) cs)).known ≡ false) ↔ (last_sample Missing cs ≡ Missing)
  pub position : let h = after (powered p) cs in (position_of h).known ≡ true → reads_in h 0x6004 0 ≡ some (Number (position_of h).position)
  -- neither the boot-up frame nor a kind
  pub none_waits : let h = after (powered p) cs in
      (any_waits h ≡ false) ↔ ((is_initialising h.core ≡ false) × ((k : Kind) → waitsIn h k ≡ false))
  -- exactly if the next slot sends a position frame that a missing sample would take
  pub goes_if_missing_law : let h = after (powered p) cs in
      (goes_if_missing h ≡ true) ↔ ((w : PdoNumber) × (first (waiting h.line) ≡ number (tpdo w)) × Withdrawal h (sample Missing) (tpdo w))

abbrev pub ToldRightly : Type 0
ToldRightly = (p : PowerUp) (cs : List Call) → Told p cs
