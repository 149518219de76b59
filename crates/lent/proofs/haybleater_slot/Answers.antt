-- None waited, or one was sent.
use mathlib.Core.Path.{subst}
use Rattle.steps.proofs.Slots.{Sending, slots_so}
use Rattle.lent.proofs.haybleater_slot.Goals as goal

pub returns-in_default : goal.returns-in_default
returns-in_default c = subst (Sending c.args.head.now c.requires) c.in_default.is (slots_so c.args.head.now c.requires c.slot-slotted.ensures)

pub returns : goal.returns
returns c =
    rw c.send.ensures (subst (Sending c.args.head.now c.requires) c.in-Some.is (slots_so c.args.head.now c.requires c.slot-slotted.ensures))
