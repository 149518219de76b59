-- `power_up` meets its promise, by its two parts.
use mathlib.Core.Path.{ap₂, ◌∙◌}
use Rattle.promises.specs.Calls.{answered}
use Rattle.head.proofs.power_up.Goals as goal

pub returns : goal.returns
returns c = (ap₂ answered (c.number_in.ensures ∙ c.checked.ensures.value) c.powered.ensures.0, c.powered.ensures.1)
