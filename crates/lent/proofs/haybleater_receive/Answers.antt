-- Obeyed, or refused.
use mathlib.Core.Path.{subst}
use Rattle.steps.proofs.Received.{Obeys, obeys_so, profile_valid}
use Rattle.lent.proofs.haybleater_receive.Goals as goal

pub obey-requires : goal.obey-requires
obey-requires c =
    let h = c.args.head.now in
    let f = c.args.frame in
    let so = subst (Obeys h c.requires f) c.in-Ok.is (obeys_so h c.requires f c.hear-heard.ensures) in
    record { valid = profile_valid h c.requires f; fits = so.1 }

pub returns-in-Ok : goal.returns-in-Ok
returns-in-Ok c =
    let so = subst (Obeys c.args.head.now c.requires c.args.frame) c.in-Ok.is
    (obeys_so c.args.head.now c.requires c.args.frame c.hear-heard.ensures) in
    rw c.obey.ensures so.0

pub returns-in-Err : goal.returns-in-Err
returns-in-Err c =
    rw c.number.ensures
    (subst (Obeys c.args.head.now c.requires c.args.frame) c.in-Err.is
    (obeys_so c.args.head.now c.requires c.args.frame c.hear-heard.ensures))
