-- `statements` meets its contract: the laws. Assumes nothing.
use Rattle.names.proofs.Laws.{laws}
use Rattle.names.proofs.statements.Goals as goal

pub returns : goal.returns
returns c = laws
