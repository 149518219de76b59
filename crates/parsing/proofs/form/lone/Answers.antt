-- `form::lone` meets its contract: each return by the law of its way out. Assumes nothing.
use Rattle.text.specs.Grammar.{decimal, fields}
use Rattle.parsing.proofs.Fields.{numbered, unread}
use Rattle.parsing.proofs.Forms.{lone_not, lone_more, lone_good}
use Rattle.parsing.proofs.form.lone.Goals as goal

pub returns-in_err-number : goal.returns-in_err-number
returns-in_err-number c =
    let l = c.args.line.now in
    rw c.from_residual.ensures (lone_not l (fields l) c.args.most (unread decimal c.args.most l 0 c.in_err-number.ensures))

pub returns-then-number-line : goal.returns-then-number-line
returns-then-number-line c =
    let l = c.args.line.now in
    lone_more l (fields l) c.args.most (numbered decimal c.args.most l 0 c.in_ok-number.number c.in_ok-number.ensures) c.if-number-line.true

pub returns : goal.returns
returns c =
    let l = c.args.line.now in
    lone_good l (fields l) c.args.most (numbered decimal c.args.most l 0 c.in_ok-number.number c.in_ok-number.ensures) c.if-number-line.false
