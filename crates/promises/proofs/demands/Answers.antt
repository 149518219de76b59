-- `demands` ensures the three demands.
use Rattle.promises.proofs.Demand1.{demand1}
use Rattle.promises.proofs.Demand2.{demand2}
use Rattle.promises.proofs.Demand3.{demand3}
use Rattle.promises.proofs.demands.Goals as goal

pub returns : goal.returns
returns c = (demand1, demand2, demand3)
