-- `waits` meets its contract: no place that is passed holds the kind.
use Rattle.std.proofs.Common.{rules}
use mathlib.Core.Path.{sym, ◌∙◌}
use Rattle.waiting.proofs.Loops.{look_found, look_past, look_end}
use Rattle.waiting.proofs.waits.Goals as goal

pub returns-then-place-kind : goal.returns-then-place-kind
returns-then-place-kind c =
    look_found c.args.kind c.args.line c.loop-place.place-index (search rules) c.if-place-kind.true ∙ c.loop-place.invariant

pub loop-place-preserved : goal.loop-place-preserved
loop-place-preserved c =
    sym (look_past c.args.kind c.args.line c.loop-place.place-index (search rules) c.if-place-kind.false) ∙ c.loop-place.invariant

pub returns : goal.returns
returns c = look_end c.args.kind c.args.line c.loop-place.place-index (search rules) ∙ c.loop-place.invariant
