-- `statements` meets its contract: the laws, each where it is proved. Assumes nothing.
use Rattle.position.proofs.Laws.{laws}
use Rattle.position.proofs.Worked.{worked}
use Rattle.position.proofs.statements.Goals as goal

pub returns : goal.returns
returns c = (laws, worked)
