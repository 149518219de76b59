-- `statements` ensures the runs.
use Rattle.runs.proofs.FullLine.{full_line}
use Rattle.runs.proofs.Busy.{busy_line_law}
use Rattle.runs.proofs.Joining.{joining}
use Rattle.runs.proofs.Codes.{codes_met}
use Rattle.runs.proofs.Service.{serving}
use Rattle.runs.proofs.Effects.{met}
use Rattle.runs.proofs.Readings.{positioning}
use Rattle.runs.proofs.ErrorList.{losing}
use Rattle.runs.proofs.Resets.{met_by_save, met_by_load, restoring}
use Rattle.runs.proofs.Starts.{starts_met}
use Rattle.runs.proofs.Names.{naming}
use Rattle.runs.proofs.SyncFrames.{fixed_at_sync}
use Rattle.runs.proofs.Rounding.{rounding}
use Rattle.runs.proofs.statements.Goals as goal

pub returns : goal.returns
returns c = (
  full_line,
  busy_line_law,
  joining,
  codes_met,
  serving,
  met,
  positioning,
  losing,
  met_by_save,
  met_by_load,
  restoring,
  starts_met,
  naming,
  fixed_at_sync,
  rounding,
)
