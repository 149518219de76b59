-- "The same behaviour is also wanted of a head passed by value": the
-- contracts of `head` promise the same as those of `lent` (`LentOutcomes`).
-- 01, chapter "The head and its neighbours".
use Rattle.std.specs.Prelude.{◌≡◌, MatchOption}
use mathlib.Core.Path.{refl}
use mathlib.Core.Option.{none, some}
use Rattle.parts.specs.declared.Head.{Head}
use Rattle.parts.specs.declared.Sensor.TheVariants.{Missing, Raw}
use Rattle.parts.specs.declared.Sent.{Sent}
use Rattle.promises.specs.Calls.{slot, slot_answer, answered}
use Rattle.promises.specs.ByValue.{answer_in}
use Rattle.promises.specs.Histories.{Reachable}
use Rattle.promises.specs.Promised.{PowersUp, Receives, Ticks, Samples, Slots}
use Rattle.head.specs.contracts as head
use Rattle.outcomes.specs.Lent.{Left}
use Rattle.outcomes.specs.Outcome.{PromisesOf}

pub record ByValue : Type 0 where
  -- slot (answers one frame, or none exactly if none waits), and the head is the next one
  pub slots : (s : Sent) (h : Head) → Reachable h → Slots h (answer_in s)
      → MatchOption s.frame (slot_answer h ≡ none) (λ f. slot_answer h ≡ some f) × Left h slot s.head
  pub power_up_law : PromisesOf head.power_up.ended (λ κs a r e. PowersUp a.0.node a.0.identity r) (λ M 𝓤. head.power_up.clauses) (λ M 𝓤 𝓛 m f κs a g r e. refl)
  pub receive : PromisesOf head.receive.ended (λ κs a r e. Receives a.0 a.1.0 r) (λ M 𝓤. head.receive.clauses) (λ M 𝓤 𝓛 m f κs a g r e. refl)
  pub tick : PromisesOf head.tick.ended (λ κs a r e. Ticks a.0 r) (λ M 𝓤. head.tick.clauses) (λ M 𝓤 𝓛 m f κs a g r e. refl)
  pub sample : PromisesOf head.sample.ended (λ κs a r e. Samples a.0 a.1.0 r) (λ M 𝓤. head.sample.clauses) (λ M 𝓤 𝓛 m f κs a g r e. refl)
  pub sample_missing_law : PromisesOf head.sample_missing.ended (λ κs a r e. Samples a.0 Missing (answered 0 r)) (λ M 𝓤. head.sample_missing.clauses) (λ M 𝓤 𝓛 m f κs a g r e. refl)
  pub sample_raw_law : PromisesOf head.sample_raw.ended (λ κs a r e. Samples a.0 (Raw a.1.0) r) (λ M 𝓤. head.sample_raw.clauses) (λ M 𝓤 𝓛 m f κs a g r e. refl)
  pub slot : PromisesOf head.slot.ended (λ κs a r e. Slots a.0 (answer_in r)) (λ M 𝓤. head.slot.clauses) (λ M 𝓤 𝓛 m f κs a g r e. refl)
