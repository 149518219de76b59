-- `sample_missing` meets its promise: the parts that it may alter are those of its step, and all else stays.
use Rattle.samples.proofs.Samples.{samples_missing}
use Rattle.head.proofs.sample_missing.Goals as goal

pub returns : goal.returns
returns c = rw (c.missing-left.ensures, c.of.ensures) (samples_missing c.args.head c.requires)
