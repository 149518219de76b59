-- A setting that a reset restores, and a node number that is refused. They meet the
-- conditions of `Starts` of crate promises. 01, chapters "States" and "Refusal numbers".
use Rattle.std.specs.Prelude.{◌≡◌, Some as Number}
use Rattle.std.proofs.Math.Option.{some}
use Rattle.promises.specs.States.{of_node, to_reset}
use Rattle.promises.specs.Calls.{receive, step}
use Rattle.promises.specs.Meant.{Commands}
use Rattle.promises.specs.Histories.{after}
use Rattle.promises.specs.Readings.{reads_in}
use Rattle.promises.specs.Resets.{Saves, None}
use Rattle.promises.specs.Node1.{node1, to_all}
use Rattle.promises.specs.Demand1.{BadNode}
use Rattle.runs.specs.Resets.{beating}

-- Node 1, Pre-operational, 1017h = 1,000: it is 0 again after 81h.
pub record StartsMet : Type 0 where
  pub none_saves : None Saves node1 beating
  pub reads_written : reads_in (after node1 beating) 0x1017 0 ≡ some (Number 1000)
  pub commands : Commands (after node1 beating) (to_all 0x81) (to_reset of_node)
  pub reads_again : reads_in (step (after node1 beating) (receive (to_all 0x81))) 0x1017 0 ≡ some (Number 0)
  -- 128 is refused
  pub bad_node : BadNode 128
