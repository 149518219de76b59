-- `taken` meets its contract: of a proper line, each moves up one place.
use Rattle.waiting.proofs.Unmoved.{shifts}
use Rattle.waiting.proofs.taken.Goals as goal

pub returns : goal.returns
returns c = shifts c.requires
