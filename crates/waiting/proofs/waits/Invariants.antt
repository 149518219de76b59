use Rattle.std.proofs.Common.{◌≡◌, drop}
use Rattle.waiting.specs.Line.{has}
use Rattle.waiting.proofs.waits.Given as goal

-- the places that are passed do not hold the kind
abbrev pub invariant-loop-place : goal.invariant-loop-place
invariant-loop-place l = has l.kind (drop l.place-index l.place-items) ≡ has l.kind l.fn.line
