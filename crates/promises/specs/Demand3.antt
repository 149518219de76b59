-- Demand 3, in the customer's words: "Call each request for a frame to send a slot. A frame that begins to wait leaves by the fifth
-- slot after that, no matter what is called between, unless one of the withdrawals listed in 01 takes it back first. And if a reading
-- goes missing in Pre-operational or Operational and stays missing, with no inhibit time running at that sample, and with emergency
-- messages on and no stop or reset through the next five slots, then by the fifth of them the last emergency frame sent since boot-up
-- says "missing". No frame leaves with a position taken while the reading was missing." (Before 2/13 the last sentence was:
-- "From the missing sample to the next good one no position frame leaves at all.")
use Rattle.promises.specs.FiveSlots.{FiveSlots}
use Rattle.promises.specs.Gap.{Gap}
use Rattle.promises.specs.SyncFrames.{SyncFrames}

pub record Demand3 : Type 0 where
  -- A frame that begins to wait leaves by the fifth slot after that:
  -- `by_the_fifth`. The withdrawals, and no others: `only_so`, `withdrawn`.
  pub five_slots : FiveSlots
  -- by the fifth of them the last emergency frame sent since boot-up says "missing": `missing_is_told`
  pub gap : Gap
  -- no frame leaves with a position taken while the reading was missing: `taken_while_good`
  pub sync_frames : SyncFrames
