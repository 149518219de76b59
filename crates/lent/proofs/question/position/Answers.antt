-- `position` answers what 6004h reads.
use Rattle.lent.proofs.Questions.{known, unknown}
use Rattle.lent.proofs.question.position.Goals as goal

pub returns-then-head : goal.returns-then-head
returns-then-head c = rw c.position_of.ensures (known c.args.head c.if-head.true)

pub returns : goal.returns
returns c = unknown c.args.head c.if-head.false
