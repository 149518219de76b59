use Rattle.dictionary.proofs.AcceptedLaws.{accepted_laws}
use Rattle.dictionary.proofs.ValidLaws.{valid_laws}
use Rattle.dictionary.proofs.WriteLaws.{write_laws}
use Rattle.dictionary.proofs.ReadLaws.{read_laws}
use Rattle.dictionary.proofs.Laws.{laws}
use Rattle.dictionary.proofs.Effects.{effect_laws}
use Rattle.dictionary.proofs.Worked.{worked}
use Rattle.dictionary.proofs.statements.Goals as goal

pub returns : goal.returns
returns c = (accepted_laws, valid_laws, write_laws, read_laws, laws, effect_laws, worked)
