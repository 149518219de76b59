-- `statements` meets its contract: the laws, each where it is proved. Assumes nothing.
use Rattle.waiting.proofs.Lines.{lines}
use Rattle.waiting.proofs.Laws.{laws, in_turn}
use Rattle.waiting.proofs.Plain.{by_slot_n, example}
use Rattle.waiting.proofs.Worked.{worked}
use Rattle.waiting.proofs.statements.Goals as goal

pub returns : goal.returns
returns c = (lines, laws, in_turn, by_slot_n, example, worked)
