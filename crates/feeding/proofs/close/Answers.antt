use Rattle.feeding.proofs.Ways.{close_none, close_line}
use Rattle.feeding.proofs.close.Goals as goal

pub returns-then-line-eq0 : goal.returns-then-line-eq0
returns-then-line-eq0 c = search close_none

pub returns : goal.returns
returns c = search close_line
