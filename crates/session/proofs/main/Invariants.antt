-- The buffer keeps its length, and each turn leaves a valid head.
use Rattle.promises.specs.Valid.{Valid}
use Rattle.session.proofs.main.Given as goal

abbrev pub invariant-loop : goal.invariant-loop
invariant-loop l = Valid l.session.head
