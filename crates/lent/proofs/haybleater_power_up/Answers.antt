-- The number and the head are what `promises` says, each by its own call.
use mathlib.Core.Path.{ap₂, ◌∙◌}
use Rattle.promises.specs.Calls.{answered}
use Rattle.lent.proofs.haybleater_power_up.Goals as goal

pub returns : goal.returns
returns c =
    (ap₂ answered (c.number_in.ensures ∙ c.checked.ensures.value) c.powered-powered.ensures.0, c.powered-powered.ensures.1)
