use Rattle.transcript.proofs.Deeds.{deeds}
use Rattle.transcript.proofs.Laws.{laws}
use Rattle.transcript.proofs.Program.{program}
use Rattle.transcript.proofs.Worked.{worked}
use Rattle.transcript.proofs.statements.Goals as goal

pub returns : goal.returns
returns c = (deeds, laws, program, worked)
