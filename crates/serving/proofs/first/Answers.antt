-- `first` meets its contract: the client's abort, or 01's list.
use mathlib.Core.Path.{sym, ◌∙◌}
use Rattle.sdo.proofs.Due.{none_due, reply_due_law}
use Rattle.serving.proofs.first.Goals as goal

pub returns-then-is_abort : goal.returns-then-is_abort
returns-then-is_abort c = c.no_reply.ensures ∙ none_due _ _ _ (sym c.is_abort.ensures ∙ c.if-is_abort.true)

pub returns : goal.returns
returns c =
    c.reply_to.ensures
    ∙ rw c.taken_apart.ensures
    (reply_due_law _ _ _ (sym c.is_abort.ensures ∙ c.if-is_abort.false))
