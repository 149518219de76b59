-- The answer of a slot and the head, made from the answer of the lent call
-- and the head that it leaves. 01, chapter "The head and its neighbours".
use Rattle.parts.specs.declared.Head.{Head}
use Rattle.promises.specs.Calls.{SlotAnswer}
use Rattle.steps.specs.declared.slot.Outgoing.{Outgoing}

abbrev pub sent_as : Outgoing → Head → SlotAnswer
sent_as o h = record { waited = o.waited; frame = o.frame; head = h }
