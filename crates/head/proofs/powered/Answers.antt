-- `powered` meets its contract: refused, or started.
use mathlib.Core.Path.{sym, ◌∙◌}
use borrow.Author.Tests.{eqb-false}
use Rattle.can.proofs.Refusals.{above_0}
use Rattle.head.proofs.PowerUps.{powered_refused, powered_taken}
use Rattle.head.proofs.powered.Goals as goal

pub returns-in-Ok : goal.returns-in-Ok
returns-in-Ok c =
    let a = c.args.setup in
    rw c.started.ensures
    (powered_taken a.node a.identity (sym (rw c.in-Ok.is at c.checked.ensures.value)) (rw c.in-Ok.is at c.checked.ensures.fits_identity))

pub returns-in-Err : goal.returns-in-Err
returns-in-Err c =
    let a = c.args.setup in
    let number = rw c.in-Err.is at c.checked.ensures.value in
    rw c.refused.ensures (powered_refused a.node a.identity (λ e. eqb-false _ 0 (above_0 _) (number ∙ e)))
