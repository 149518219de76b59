-- `measuring_steps` meets its contract: no sum wraps, and half of an odd step may be rounded down.
use native.Mathlib.Omega.{arith}
use Rattle.position.proofs.Rounding.{halved}
use Rattle.position.proofs.measuring_steps.Goals as goal

pub returns : goal.returns
returns c = halved _ _ _ (omega arith)
