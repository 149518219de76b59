-- `statements` meets its contract. Assumes nothing.
use Rattle.cases.proofs.Shared.{shared}
use Rattle.cases.proofs.statements.Goals as goal

pub returns : goal.returns
returns c = shared
