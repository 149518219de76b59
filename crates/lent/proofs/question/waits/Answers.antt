-- `waits` answers as a slot would.
use Rattle.waiting.specs.Line.{first}
use Rattle.lent.proofs.Questions.{slot_waits}
use Rattle.lent.proofs.question.waits.Goals as goal

pub returns : goal.returns
returns c =
    let h = c.args.head in
    rw (c.is_initialising.ensures, c.first-kind.ensures) (slot_waits h.core (first h.line))
