use Rattle.feeding.proofs.Ways.{answers}
use Rattle.transcript.proofs.Valid.{valid_obeyed}
use borrow.Author.Rules.{rules}
use Rattle.feeding.proofs.answer.Goals as goal

pub returns : goal.returns
returns c = (search answers, rw c.obey.ensures (search (valid_obeyed, rules)))
