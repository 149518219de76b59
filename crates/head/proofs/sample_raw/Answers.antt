-- `sample_raw` meets its promise: taken, or refused.
use mathlib.Core.Path.{subst}
use Rattle.samples.proofs.Samples.{Sampling, samples_so}
use Rattle.head.proofs.sample_raw.Goals as goal

pub returns-in-Ok : goal.returns-in-Ok
returns-in-Ok c =
    let h = c.args.head in
    subst (Sampling h c.requires c.args.raw) c.in-Ok.is (samples_so h c.requires c.args.raw (rw c.of.ensures at c.raw-sampled.ensures))

pub returns-in-Err : goal.returns-in-Err
returns-in-Err c =
    let h = c.args.head in
    rw c.number.ensures (subst (Sampling h c.requires c.args.raw) c.in-Err.is (samples_so h c.requires c.args.raw (rw c.of.ensures at c.raw-sampled.ensures)))
