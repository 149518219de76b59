use Rattle.std.proofs.Common.{rules, refl, inl, inr}
use Rattle.lending.proofs.lend_on.Goals as goal

pub returns-in-1 : goal.returns-in-1
returns-in-1 g c =
    (c.first-left.result, c.first-left.ensures, refl, inl (c.in-1.is, c.second-lent.result, c.second-lent.ensures, refl))

pub returns-in_default : goal.returns-in_default
returns-in_default g c = (c.first-left.result, c.first-left.ensures, refl, inr (search rules, refl))
