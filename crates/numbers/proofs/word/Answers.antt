-- `numbers::word` meets its contract, by what stands before the first space. Assumes nothing.
use Rattle.std.proofs.Common.{rules}
use Rattle.numbers.proofs.Reading.{word_before}
use Rattle.numbers.proofs.word.Goals as goal

pub returns : goal.returns
returns c = search (word_before, rules)
