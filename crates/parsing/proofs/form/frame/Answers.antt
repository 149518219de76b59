-- `form::frame` meets its contract: each return by the law of its way out. Assumes nothing.
use Rattle.text.specs.Grammar.{hex, decimal, fields}
use Rattle.parsing.proofs.Fields.{numbered, numbered_next, unread, unread_next}
use Rattle.parsing.proofs.Forms.{frame_not, frame_unsized, frame_good, frame_id, frame_len}
use mathlib.Core.Path.{◌∙◌}
use Rattle.parsing.proofs.form.frame.Goals as goal

pub returns-in_err-identifier : goal.returns-in_err-identifier
returns-in_err-identifier c =
    let l = c.args.line.now in
    rw c.from_residual.ensures (frame_not l (fields l) (unread hex 8 l 0 c.in_err-identifier.ensures))

pub returns-in_err-length : goal.returns-in_err-length
returns-in_err-length c =
    let l = c.args.line.now in
    let i = c.in_ok-identifier in
    rw c.from_residual-in_err-length.ensures
    (frame_unsized l (fields l) (numbered hex 8 l 0 i.identifier i.ensures) (unread_next decimal 1 l i.identifier.end c.in_err-length.ensures))

pub overflow_cast-identifier : goal.overflow_cast-identifier
overflow_cast-identifier c =
    let l = c.args.line.now in
    let i = c.in_ok-identifier in
    record { fits = frame_id l (fields l) (numbered hex 8 l 0 i.identifier i.ensures) }

pub overflow_cast-length : goal.overflow_cast-length
overflow_cast-length c =
    let l = c.args.line.now in
    let i = c.in_ok-identifier in
    let n = c.in_ok-length in
    record {
      fits =
          frame_len l (fields l) (numbered hex 8 l 0 i.identifier i.ensures)
          (numbered_next decimal 1 l i.identifier.end n.length n.ensures);
    }

pub returns : goal.returns
returns c =
    let l = c.args.line.now in
    let i = c.in_ok-identifier in
    let n = c.in_ok-length in
    c.pairs.ensures
    ∙ frame_good l (fields l) (numbered hex 8 l 0 i.identifier i.ensures) (numbered_next decimal 1 l i.identifier.end n.length n.ensures)
