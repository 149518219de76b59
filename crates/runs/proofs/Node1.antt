-- The heads of node 1 are reachable.
use mathlib.Core.Path.{◌≡◌}
use mathlib.Core.List.{List}
use Rattle.parts.specs.declared.Head.{Head}
use Rattle.promises.specs.Calls.{Call}
use Rattle.promises.specs.Histories.{after, PowerUp, Reachable}
use Rattle.dictionary.specs.Worked.{identity1}
use Rattle.dictionary.proofs.Worked.{named1}
use Rattle.promises.specs.Node1.{node1}

abbrev pub power_up_law : PowerUp
power_up_law =
    record {
      number = 1;
      identity = identity1;
      fits = named1.fits;
    }

pub reached : (cs : List Call) (h : Head) → h ≡ after node1 cs → Reachable h
reached cs h e = record { start = power_up_law; calls = cs; so = e }
