-- A tick after which some kind may join, and one after which none may.
use mathlib.Core.Path.{subst}
use Rattle.steps.proofs.Ticks.{Ticking, ticks_so}
use Rattle.lent.proofs.haybleater_tick.Goals as goal

pub returns-in-Some : goal.returns-in-Some
returns-in-Some c =
    let h = c.args.head.now in
    rw (c.joined-left.ensures, c.of-in-Some.ensures) (subst (Ticking h c.requires c.tick-ticked.result.timers) c.in-Some.is (ticks_so h c.requires (rw c.of.ensures at c.tick-ticked.ensures)))

pub returns-in_default : goal.returns-in_default
returns-in_default c =
    let h = c.args.head.now in
    subst (Ticking h c.requires c.tick-ticked.result.timers) c.in_default.is (ticks_so h c.requires (rw c.of.ensures at c.tick-ticked.ensures))
