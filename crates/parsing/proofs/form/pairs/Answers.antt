-- `form::pairs` meets its contract, by the loop laws of Pairs. Assumes nothing.
use Rattle.text.specs.Grammar.{hex}
use Rattle.parsing.proofs.Fields.{numbered_next, unread_next}
use Rattle.parsing.proofs.Pairs.{pairs_start, pairs_more}
use Rattle.parsing.proofs.Pairs.{pairs_none, pairs_short, pair_below, pairs_many}
use borrow.Author.Rules.{rules}
use Rattle.parsing.proofs.form.pairs.Goals as goal

pub loop-byte-init : goal.loop-byte-init
loop-byte-init c = search (pairs_start, rules)

pub returns-in_err-pair : goal.returns-in_err-pair
returns-in_err-pair c =
    let b = c.loop-byte in
    rw c.from_residual.ensures (pairs_none b.invariant c.args.identifier (search rules) (unread_next hex 2 c.args.line.now b.at c.in_err-pair.ensures))

pub returns-then-pair-at : goal.returns-then-pair-at
returns-then-pair-at c =
    let b = c.loop-byte in
    pairs_short b.invariant c.args.identifier (numbered_next hex 2 c.args.line.now b.at c.in_ok-pair.pair c.in_ok-pair.ensures) c.if-pair-at.true

pub overflow_cast-byte : goal.overflow_cast-byte
overflow_cast-byte c =
    let b = c.loop-byte in
    record { fits = pair_below b.invariant c.args.identifier (numbered_next hex 2 c.args.line.now b.at c.in_ok-pair.pair c.in_ok-pair.ensures) }

pub loop-byte-preserved : goal.loop-byte-preserved
loop-byte-preserved c =
    let b = c.loop-byte in
    pairs_more b.invariant c.args.identifier (numbered_next hex 2 c.args.line.now b.at c.in_ok-pair.pair c.in_ok-pair.ensures) (search rules) c.if-pair-at.false

pub returns-then-at-line : goal.returns-then-at-line
returns-then-at-line c = pairs_many c.loop-byte.invariant c.args.identifier (search rules) c.if-at-line.true
