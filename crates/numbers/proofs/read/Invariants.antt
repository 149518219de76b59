use Rattle.numbers.proofs.Reading.{Reading}
use Rattle.numbers.proofs.read.Given as goal

abbrev pub invariant-loop-byte : goal.invariant-loop-byte
invariant-loop-byte l = Reading l.base l.field l.value l.byte-index
