use Rattle.std.proofs.Common.{◌≡◌, length, drop}
use Rattle.waiting.specs.Line.{places}
use Rattle.waiting.specs.Places.{withdraw_in}
use Rattle.waiting.proofs.ByPlace.{onto}
use Rattle.waiting.proofs.withdraw.Given as goal

-- withdrawn from the places that are left too, the kind is withdrawn from the line
abbrev pub invariant-loop-place : goal.invariant-loop-place
invariant-loop-place l =
    (length l.left ≡ places) × (onto l.left l.kind (drop l.place-index l.place-items) ≡ withdraw_in l.fn.line l.kind)
