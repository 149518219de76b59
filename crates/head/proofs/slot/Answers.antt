-- `slot` meets its promise: none waited, or one was sent.
use mathlib.Core.Path.{subst}
use Rattle.steps.proofs.Slots.{Sending, slots_so}
use Rattle.head.proofs.slot.Goals as goal

pub returns-in_default : goal.returns-in_default
returns-in_default c = subst (Sending c.args.head c.requires) c.in_default.is (slots_so c.args.head c.requires c.slot-slotted.ensures)

pub returns : goal.returns
returns c =
    rw c.send.ensures (subst (Sending c.args.head c.requires) c.in-Some.is (slots_so c.args.head c.requires c.slot-slotted.ensures))
