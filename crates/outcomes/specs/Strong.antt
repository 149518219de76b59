-- The words of Outcome.antt, tried on contracts that they have to turn down: 01, chapter "Strength of the promises". If `OneOutcome` held of
-- every contract, or compared the answers only, this would be false. So it would be if `AsksNothing` and the others held of every contract.
use contract.Lifetimes.{Lfts}
use denote.Triple.Entry.{Args}
use Rattle.can.specs.contracts as can
use Rattle.lent.specs.contracts as lent
use Rattle.outcomes.specs.Outcome.{OneOutcome, Promises, AsksNothing, AsksOnly}

pub record Strong : Type 0 where
  -- a promise that says nothing allows two answers,
  pub two_answers : OneOutcome can.checked.ended (λ κs a r e. Unit) → ⊥
  -- and, where there is no answer, two heads left behind `&mut`
  pub two_heads :
      (κs : Lfts (lent.haybleater_tick.ended).signature.lifetimes) → Args (lent.haybleater_tick.ended).signature κs
      → OneOutcome lent.haybleater_tick.ended (λ κs a r e. Unit) → ⊥
  -- a caller does not learn from it what is false
  pub learns_more : Promises can.checked.ended (λ κs a r e. ⊥) (λ κs a r e. Unit) → ⊥
  -- a call that takes no arguments at all requires something, and more than nothing
  pub asks_something : AsksNothing can.checked.ended (λ κs a. ⊥) → ⊥
  pub asks_more : AsksOnly can.checked.ended (λ κs a. Unit) (λ κs a. ⊥) → ⊥
