-- `tick` meets its promise: where none may join the line stays.
use mathlib.Core.Path.{subst}
use Rattle.steps.proofs.Ticks.{Ticking, ticks_so}
use Rattle.head.proofs.tick.Goals as goal

pub returns-in-Some : goal.returns-in-Some
returns-in-Some c =
    let h = c.args.head in
    rw (c.joined-left.ensures, c.of-in-Some.ensures) (subst (Ticking h c.requires c.tick-ticked.result.timers) c.in-Some.is (ticks_so h c.requires (rw c.of.ensures at c.tick-ticked.ensures)))

pub returns-in_default : goal.returns-in_default
returns-in_default c =
    let h = c.args.head in
    subst (Ticking h c.requires c.tick-ticked.result.timers) c.in_default.is (ticks_so h c.requires (rw c.of.ensures at c.tick-ticked.ensures))
