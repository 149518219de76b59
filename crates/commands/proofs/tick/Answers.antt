use native.Mathlib.Omega.{arith}
use Rattle.commands.proofs.Ticks.{tick_more, tick_all}
use Rattle.commands.proofs.tick.Goals as goal

pub loop-preserved : goal.loop-preserved
loop-preserved c = (tick_more c.loop.counter c.args.head c.loop.invariant.0 c.tick-next.ensures.0, c.tick-next.ensures.1)

pub returns : goal.returns
returns c = tick_all c.args.head c.loop.invariant.0 (omega (arith, c.loop.auto.counter-end, c.loop-test.false))
