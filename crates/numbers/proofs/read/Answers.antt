-- `numbers::read` meets its contract, by the loop laws of Reading. Assumes nothing.
use Rattle.std.proofs.Common.{rules}
use Rattle.numbers.proofs.Reading.{word_rest, read_room, read_fits, read_bad, read_more}
use Rattle.numbers.proofs.read.Goals as goal

pub overflow_mul-value : goal.overflow_mul-value
overflow_mul-value c = record { fits = search (read_room, rules) }

pub returns-in_err-value : goal.returns-in_err-value
returns-in_err-value c =
    let a = c.args in
    let rest = c.in_ok-get.ensures.lookup.0.2 in
    let field = word_rest a.line.now a.at _ _ rest c.word-field.ensures in
    rw c.from_residual-in_err-value.ensures
    (read_bad a.base a.most a.at c.loop-byte.byte-index a.line.now c.word-field.result.now field (search rules) c.in_err-value.ensures)

pub overflow_add-value : goal.overflow_add-value
overflow_add-value c = record { fits = search (read_fits, rules) }

pub loop-byte-preserved : goal.loop-byte-preserved
loop-byte-preserved c = read_more c.loop-byte.invariant (search rules) c.in_ok-value.ensures
