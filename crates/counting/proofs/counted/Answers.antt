-- `counted` meets its contract: each return by where the count stands.
use Rattle.counting.proofs.Periods.{past, below, reached}
use Rattle.counting.proofs.counted.Goals as goal

pub returns-then-period-count : goal.returns-then-period-count
returns-then-period-count c = past _ _ c.if-period-count.true

pub returns-then-next-period : goal.returns-then-next-period
returns-then-next-period c = below _ _ c.if-next-period.true

pub returns : goal.returns
returns c = reached _ _ c.if-period-count.false c.if-next-period.false
