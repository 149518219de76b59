use Rattle.feeding.proofs.Feeding.{feed_start, feed_room, feed_more, feed_all, feed_out}
use borrow.Author.Rules.{rules}
use Rattle.feeding.proofs.chunk.Goals as goal

pub loop-byte-init : goal.loop-byte-init
loop-byte-init c = search (feed_start, rules)

pub put-len-requires : goal.put-len-requires
put-len-requires c = search feed_room

pub loop-byte-preserved : goal.loop-byte-preserved
loop-byte-preserved c =
    feed_more c.loop-byte.invariant (search rules) c.feed-fed.ensures.0 c.feed-fed.ensures.1 c.put-len.auto.out c.put-len.ensures

pub returns : goal.returns
returns c = search (feed_all, feed_out, rules)
