-- `statements` meets its contract: the laws, each where it is proved. Assumes nothing.
use Rattle.sdo.proofs.Laws.{laws}
use Rattle.sdo.proofs.UploadLaws.{uploads}
use Rattle.sdo.proofs.Worked.{worked}
use Rattle.sdo.proofs.statements.Goals as goal

pub returns : goal.returns
returns c = (laws, uploads, worked)
