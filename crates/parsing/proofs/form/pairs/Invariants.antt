use Rattle.parsing.proofs.Pairs.{Pairs}
use Rattle.parsing.proofs.form.pairs.Given as goal

abbrev pub invariant-loop-byte : goal.invariant-loop-byte
invariant-loop-byte l = Pairs l.line l.before l.length l.byte-items l.at l.byte-index
