-- `withdraw` meets its contract, from the last place to the first.
use Rattle.std.proofs.Common.{rules, ◌≤◌}
use mathlib.Core.Path.{refl, sym, ◌∙◌}
use Rattle.waiting.specs.Line.{places}
use Rattle.waiting.proofs.ByPlace.{onto_all, goes_at, stays_at, stays_end}
use Rattle.waiting.proofs.withdraw.Goals as goal
use Rattle.waiting.proofs.withdraw.Goals.{then-place-kind, else-place-kind}

pub loop-place-init : goal.loop-place-init
loop-place-init c = rw c.none-left.ensures (refl, onto_all c.args.kind c.args.line (search rules))

pub loop-place-preserved : goal.loop-place-preserved
loop-place-preserved c =
    let i = c.loop-place.invariant in
    elim c.if-place-kind.branch [
      | then-place-kind w ↦ rw w.left-is (refl, sym (stays_at _ _ _ _ i.0 c.loop-place-test.true w.if-place-kind.true) ∙ i.1)
      | else-place-kind w ↦ rw w.left-is (i.0, sym (goes_at _ _ _ _ c.loop-place-test.true w.if-place-kind.false) ∙ i.1)
    ]

pub returns : goal.returns
returns c =
    let h : places ≤ c.loop-place.place-index = search rules in
    sym (stays_end _ _ _ _ h) ∙ c.loop-place.invariant.1
