use Rattle.steps.proofs.Passes.{laws}
use Rattle.steps.proofs.statements.Goals as goal

pub returns : goal.returns
returns c = laws
