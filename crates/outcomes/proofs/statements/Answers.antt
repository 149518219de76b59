-- `statements` ensures the statements of the crate.
use Rattle.outcomes.proofs.Outcomes.{outcomes, lent_outcomes}
use Rattle.outcomes.proofs.Asked.{asked, lent_asked}
use Rattle.outcomes.proofs.ByValue.{by_value}
use Rattle.outcomes.proofs.Lent.{lent}
use Rattle.outcomes.proofs.Told.{told_rightly}
use Rattle.outcomes.proofs.Talks.{talks}
use Rattle.outcomes.proofs.Strong.{strong}
use Rattle.outcomes.proofs.statements.Goals as goal

pub returns : goal.returns
returns c = (outcomes, lent_outcomes, asked, lent_asked, by_value, lent, told_rightly, talks, strong)
