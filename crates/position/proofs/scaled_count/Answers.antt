-- `scaled_count` meets its contract: scaling on, then off.
use mathlib.Core.Path.{sym, ◌∙◌}
use Rattle.position.proofs.scaled_count.Goals as goal

pub returns-then-scaling : goal.returns-then-scaling
returns-then-scaling c = rw (sym c.scaling.ensures ∙ c.if-scaling.true, c.measuring_steps.ensures)

pub returns : goal.returns
returns c = rw (sym c.scaling.ensures ∙ c.if-scaling.false)
