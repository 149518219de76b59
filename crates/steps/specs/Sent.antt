-- The head after a slot, for each way that a slot can go. Reviewers can skip this file: it follows the
-- code, and proofs/Slots.antt proves that these heads are what `promises` says. 01, chapter "The waiting line".
use Rattle.waiting.specs.Places.{taken_in as taken_line}
use Rattle.parts.specs.declared.Head.{Head}
use Rattle.parts.specs.Put.{with_line, with_nmt, with_announced, with_inhibit}
use Rattle.promises.specs.States.{communication, good}
use Rattle.steps.specs.declared.slot.Way.{Way}
use Rattle.steps.specs.declared.slot.Way.TheVariants.{Boots, Announces, Sends}
use Rattle.steps.specs.Slot.{booted_of, announced_of}

abbrev pub booted_in : Head → Head
booted_in h = let z = booted_of (communication h.core).emergency (good h.core) in with_line (with_nmt h z.nmt) z.line

abbrev pub announced_in : Head → Head
announced_in h =
    let z = announced_of (communication h.core).inhibit (good h.core) h.line in
    with_line (with_inhibit (with_announced h z.announced) z.inhibit) z.line

abbrev pub taken_in : Head → Head
taken_in h = with_line h (taken_line h.line)

abbrev pub sent_in : Head → Way → Head
sent_in h Boots = booted_in h
sent_in h Announces = announced_in h
sent_in h Sends = taken_in h
