-- `printing::frame` meets its contract, by the laws of its loop. Assumes nothing.
use mathlib.Core.Path.{◌∙◌}
use borrow.Author.Rules.{rules}
use Rattle.printing.proofs.Printing.{write_pair, write_end}
use Rattle.printing.proofs.frame.Goals as goal

pub loop-byte-preserved : goal.loop-byte-preserved
loop-byte-preserved c = search (write_pair, rules)

pub returns : goal.returns
returns c = c.push.ensures ∙ search (write_end, rules)
