use Rattle.feeding.proofs.Feeding.{Feeding}
use Rattle.feeding.proofs.chunk.Given as goal

abbrev pub invariant-loop-byte : goal.invariant-loop-byte
invariant-loop-byte l = Feeding l.initial.next l.input l.initial.out l.out l.next l.len l.byte-index
