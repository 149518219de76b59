-- Proves `Strong` of specs/Strong.antt by arguments and outcomes that show it. Assumes nothing.
use mathlib.Core.Path.{ap, subst}
use mathlib.Core.Bool.{false}
use mathlib.Core.List.{[]}
use lib.Dec.{T, eqb}
use Rattle.std.specs.Prelude.{Ok, Err}
use Rattle.can.specs.declared.Received.{Received}
use Rattle.can.specs.declared.Refusal.TheVariants.{BadIdentifier}
use Rattle.can.specs.Frame.{number_in}
use Rattle.promises.specs.States.{started}
use Rattle.promises.specs.Calls.{no_identity}
use Rattle.outcomes.specs.Strong.{Strong}

any : Received
any = record { bytes = []; identifier = 0; extended = false; remote = false; length = 0 }

pub strong : Strong
strong =
    record {
      two_answers = λ one. absurd (subst T (ap (λ x. eqb (number_in x.0) 1) (one tt (any, tt) (Err BadIdentifier, (tt, tt)) (Ok tt, (tt, tt)) tt tt)) tt);
      two_heads = λ κs a one. absurd (subst T (ap (λ x. eqb x.1.0.core.device.node 1) (one κs a (tt, (started 1 no_identity, tt)) (tt, (started 2 no_identity, tt)) tt tt)) tt);
      learns_more = λ says. says tt (any, tt) (Ok tt) (any, tt) tt;
      asks_something = λ asks. asks tt (any, tt);
      asks_more = λ asks. asks tt (any, tt) tt;
    }
