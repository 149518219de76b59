-- Proves `Talks` of specs/Talks.antt: the clauses say it. Assumes nothing.
use Rattle.outcomes.specs.Talks.{Talks}

pub talks : Talks
talks = record { start = λ κs a r e x. x; answer = λ κs a r e x. x; feed = λ κs a r e x. x; chunk = λ κs a r e x. x; close = λ κs a r e x. x }
