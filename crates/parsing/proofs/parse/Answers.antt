-- `parse` meets its contract: each return by the law of its way out. Assumes nothing.
use borrow.Author.Rules.{rules}
use Rattle.parsing.proofs.Keys.{parse_empty, parse_slot, parse_one, parse_close, parse_F, parse_T, parse_S, parse_other}
use Rattle.parsing.proofs.parse.Goals as goal

pub returns-in-63 : goal.returns-in-63
returns-in-63 c = search (parse_slot, rules)

pub returns-in-70 : goal.returns-in-70
returns-in-70 c = search (parse_F, rules)

pub returns-in-84 : goal.returns-in-84
returns-in-84 c = search (parse_T, rules)

pub returns-in-83 : goal.returns-in-83
returns-in-83 c = search (parse_S, rules)

pub returns-in_default : goal.returns-in_default
returns-in_default c = search (parse_empty, rules)

pub returns-in_default-2 : goal.returns-in_default-2
returns-in_default-2 c = search (parse_one, rules)

pub returns-in_default-3 : goal.returns-in_default-3
returns-in_default-3 c = search (parse_close, rules)

pub returns-in_default-4 : goal.returns-in_default-4
returns-in_default-4 c = search (parse_close, rules)

pub returns-in_default-5 : goal.returns-in_default-5
returns-in_default-5 c = search (parse_close, rules)

pub returns-in_default-6 : goal.returns-in_default-6
returns-in_default-6 c = search (parse_other, rules)
