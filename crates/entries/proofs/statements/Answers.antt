use Rattle.entries.proofs.Laws.{laws}
use Rattle.entries.proofs.statements.Goals as goal

pub returns : goal.returns
returns c = laws
