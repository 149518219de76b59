use Rattle.text.proofs.Forms.{forms}
use Rattle.text.proofs.Laws.{laws}
use Rattle.text.proofs.Worked.{worked}
use Rattle.text.proofs.statements.Goals as goal

pub returns : goal.returns
returns c = (forms, laws, worked)
