use Rattle.printing.proofs.Printing.{Written}
use Rattle.printing.proofs.frame.Given as goal

abbrev pub invariant-loop-byte : goal.invariant-loop-byte
invariant-loop-byte l = Written l.fn.frame.identifier l.fn.frame.length l.byte-items l.text l.byte-index
