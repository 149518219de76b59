use Rattle.samples.proofs.Samples.{samples_missing}
use Rattle.lent.proofs.haybleater_missing.Goals as goal

pub returns : goal.returns
returns c = rw (c.missing-left.ensures, c.of.ensures) (samples_missing c.args.head.now c.requires)
