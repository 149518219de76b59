use Rattle.feeding.proofs.Ways.{feed_end, feed_byte}
use borrow.Author.Rules.{rules}
use Rattle.feeding.proofs.feed.Goals as goal

pub returns-then-byte-eq-END : goal.returns-then-byte-eq-END
returns-then-byte-eq-END c = search (feed_end, rules)

pub returns : goal.returns
returns c = search (feed_byte, rules)
