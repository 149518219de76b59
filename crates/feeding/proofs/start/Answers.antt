use Rattle.feeding.proofs.start.Goals as goal

pub returns : goal.returns
returns c = (
  rw (c.power_up-up.ensures.0, c.empty.ensures, c.short-3.ensures, c.short-2.ensures, c.short.ensures),
  c.power_up-up.ensures.1,
)
