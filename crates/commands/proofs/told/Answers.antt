use Rattle.transcript.specs.Commands.{told}
use borrow.Author.Tests.{eq-eqb, ne_eqb}
use Rattle.commands.proofs.told.Goals as goal

pub returns-then-answer-eq-NO_REFUSAL : goal.returns-then-answer-eq-NO_REFUSAL
unfolding told
returns-then-answer-eq-NO_REFUSAL c = rw (eq-eqb _ _ c.if-answer-eq-NO_REFUSAL.true) c.quiet.ensures

pub returns : goal.returns
unfolding told
returns c = rw (ne_eqb _ _ c.if-answer-eq-NO_REFUSAL.false) c.refuse.ensures
