-- Proves `Demand3` of specs/Demand3.antt.
use Rattle.promises.specs.Demand3.{Demand3}
use Rattle.promises.proofs.FiveSlots.{five_slots}
use Rattle.promises.proofs.Gap.{gap}
use Rattle.promises.proofs.OneBeam.{sync_frames}

pub demand3 : Demand3
demand3 = record { five_slots = five_slots; gap = gap; sync_frames = sync_frames }
