-- The exports promise what the functions of `lent` promise: each contract allows one outcome and requires no more than its namesake there. 01,
-- chapter "Strength of the promises". Crate `outcomes` has the words, and says the same of `lent`.
use Rattle.std.specs.Prelude.{◌≡◌}
use mathlib.Core.Path.{refl}
use Rattle.parts.specs.declared.Sensor.TheVariants.{Missing, Raw}
use Rattle.promises.specs.Calls.{answered}
use Rattle.promises.specs.Histories.{Reachable}
use Rattle.promises.specs.Promised.{PowersUp, Receives, Ticks, Samples, Slots}
use Rattle.promises.specs.Valid.{Valid}
use Rattle.lent.specs.Questions.{state_code, is_good, position_of, any_waits, goes_if_missing}
use Rattle.lent.specs.Steps.{sent_as}
use Rattle.outcomes.specs.Outcome.{OneOutcomeOf, AsksNothingOf, AsksOnlyOf}
use Rattle.lent_c.specs.contracts.haybleater_power_up as power_up
use Rattle.lent_c.specs.contracts.haybleater_receive as receive
use Rattle.lent_c.specs.contracts.haybleater_tick as tick
use Rattle.lent_c.specs.contracts.haybleater_sample as sample
use Rattle.lent_c.specs.contracts.haybleater_missing as missing
use Rattle.lent_c.specs.contracts.haybleater_slot as slot
use Rattle.lent_c.specs.contracts.haybleater_state as state
use Rattle.lent_c.specs.contracts.haybleater_good as good
use Rattle.lent_c.specs.contracts.haybleater_position as position
use Rattle.lent_c.specs.contracts.haybleater_goes_if_missing as goes_if_missing
use Rattle.lent_c.specs.contracts.haybleater_waits as waits

pub record Outcomes : Type 0 where
  pub haybleater_power_up : OneOutcomeOf power_up.ended {This = λ κs a r e. PowersUp a.1.0.node a.1.0.identity (answered r e.0.now)} (λ M 𝓤. power_up.clauses) (λ M 𝓤 𝓛 m f κs a g r e. refl)
  pub haybleater_receive : OneOutcomeOf receive.ended {This = λ κs a r e. Receives a.0.now a.1.0 (answered r e.0.now)} (λ M 𝓤. receive.clauses) (λ M 𝓤 𝓛 m f κs a g r e. refl)
  pub haybleater_tick : OneOutcomeOf tick.ended {This = λ κs a r e. Ticks a.0.now e.0.now} (λ M 𝓤. tick.clauses) (λ M 𝓤 𝓛 m f κs a g r e. refl)
  pub haybleater_sample : OneOutcomeOf sample.ended {This = λ κs a r e. Samples a.0.now (Raw a.1.0) (answered r e.0.now)} (λ M 𝓤. sample.clauses) (λ M 𝓤 𝓛 m f κs a g r e. refl)
  pub haybleater_missing : OneOutcomeOf missing.ended {This = λ κs a r e. Samples a.0.now Missing (answered 0 e.0.now)} (λ M 𝓤. missing.clauses) (λ M 𝓤 𝓛 m f κs a g r e. refl)
  pub haybleater_slot : OneOutcomeOf slot.ended {This = λ κs a r e. Slots a.0.now (sent_as r e.0.now)} (λ M 𝓤. slot.clauses) (λ M 𝓤 𝓛 m f κs a g r e. refl)
  pub haybleater_state : OneOutcomeOf state.ended {This = λ κs a r e. r ≡ state_code a.0.now} (λ M 𝓤. state.clauses) (λ M 𝓤 𝓛 m f κs a g r e. refl)
  pub haybleater_good : OneOutcomeOf good.ended {This = λ κs a r e. r ≡ is_good a.0.now} (λ M 𝓤. good.clauses) (λ M 𝓤 𝓛 m f κs a g r e. refl)
  pub haybleater_position : OneOutcomeOf position.ended {This = λ κs a r e. r ≡ position_of a.0.now} (λ M 𝓤. position.clauses) (λ M 𝓤 𝓛 m f κs a g r e. refl)
  pub haybleater_goes_if_missing : OneOutcomeOf goes_if_missing.ended {This = λ κs a r e. r ≡ goes_if_missing a.0.now} (λ M 𝓤. goes_if_missing.clauses) (λ M 𝓤 𝓛 m f κs a g r e. refl)
  pub haybleater_waits : OneOutcomeOf waits.ended {This = λ κs a r e. r ≡ any_waits a.0.now} (λ M 𝓤. waits.clauses) (λ M 𝓤 𝓛 m f κs a g r e. refl)

pub record Asked : Type 0 where
  pub haybleater_power_up : AsksNothingOf power_up.ended (λ M 𝓤. power_up.clauses) (λ M 𝓤 𝓛 m f κs a. (tt, λ g. refl))
  pub haybleater_receive : AsksOnlyOf receive.ended (λ κs a. Reachable a.0.now) {Asked = λ κs a. Valid a.0.now} (λ M 𝓤. receive.clauses) (λ M 𝓤 𝓛 m f κs a. (tt, λ g. refl))
  pub haybleater_tick : AsksOnlyOf tick.ended (λ κs a. Reachable a.0.now) {Asked = λ κs a. Valid a.0.now} (λ M 𝓤. tick.clauses) (λ M 𝓤 𝓛 m f κs a. (tt, λ g. refl))
  pub haybleater_sample : AsksOnlyOf sample.ended (λ κs a. Reachable a.0.now) {Asked = λ κs a. Valid a.0.now} (λ M 𝓤. sample.clauses) (λ M 𝓤 𝓛 m f κs a. (tt, λ g. refl))
  pub haybleater_missing : AsksOnlyOf missing.ended (λ κs a. Reachable a.0.now) {Asked = λ κs a. Valid a.0.now} (λ M 𝓤. missing.clauses) (λ M 𝓤 𝓛 m f κs a. (tt, λ g. refl))
  pub haybleater_slot : AsksOnlyOf slot.ended (λ κs a. Reachable a.0.now) {Asked = λ κs a. Valid a.0.now} (λ M 𝓤. slot.clauses) (λ M 𝓤 𝓛 m f κs a. (tt, λ g. refl))
  pub haybleater_state : AsksNothingOf state.ended (λ M 𝓤. state.clauses) (λ M 𝓤 𝓛 m f κs a. (tt, λ g. refl))
  pub haybleater_good : AsksNothingOf good.ended (λ M 𝓤. good.clauses) (λ M 𝓤 𝓛 m f κs a. (tt, λ g. refl))
  pub haybleater_position : AsksOnlyOf position.ended (λ κs a. Reachable a.0.now) {Asked = λ κs a. Valid a.0.now} (λ M 𝓤. position.clauses) (λ M 𝓤 𝓛 m f κs a. (tt, λ g. refl))
  pub haybleater_goes_if_missing : AsksNothingOf goes_if_missing.ended (λ M 𝓤. goes_if_missing.clauses) (λ M 𝓤 𝓛 m f κs a. (tt, λ g. refl))
  pub haybleater_waits : AsksNothingOf waits.ended (λ M 𝓤. waits.clauses) (λ M 𝓤 𝓛 m f κs a. (tt, λ g. refl))
