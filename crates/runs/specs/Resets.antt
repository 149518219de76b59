-- "save" and "load", followed by other calls and a reset. These runs meet the
-- conditions of `Resets` of crate promises. 01, chapters "States" and "Entries".
use Rattle.std.specs.Prelude.{ℕ, ◌≡◌, List, [], ◌∷◌, ◌++◌, Some as Number}
use Rattle.std.proofs.Math.Option.{some}
use Rattle.can.specs.declared.Received.{Received}
use Rattle.dictionary.specs.Worked.{save, load}
use Rattle.sdo.specs.Worked.{bytes}
use Rattle.parts.specs.declared.Head.{Head}
use Rattle.promises.specs.States.{of_node, to_reset}
use Rattle.promises.specs.Calls.{Call, slot, receive, step}
use Rattle.promises.specs.Meant.{Commands, Writes}
use Rattle.promises.specs.Histories.{after, Reachable}
use Rattle.promises.specs.Node1.{node1, writes, to_all, command}
use Rattle.promises.specs.Worked.{missing, at}
use Rattle.promises.specs.Readings.{reads_in}
use Rattle.promises.specs.Resets.{Saves, None}
use Rattle.runs.specs.Effects.{writing}
use Rattle.runs.specs.Readings.{to40}

-- Node 1 by calls from power-up: Pre-operational, 1017h = 1,000.
abbrev pub beating : List Call
beating = missing ++ writes (bytes 0x2B 0x17 0x10 0x00 0xE8 0x03 0 0)

-- the reply is sent, and then 1017h = 500
abbrev pub between : List Call
between = slot ∷ writes (bytes 0x2B 0x17 0x10 0x00 0xF4 0x01 0 0)

-- The head h meets the conditions of `Restores`: f is an accepted write of v to the entry of key k, and after 81h 1017h reads n.
pub record Met (h : Head) (f : Received) (k v n : ℕ) : Type 0 where
  pub reachable : Reachable h
  pub written : Writes h f k v
  pub none_saves : None Saves (step h (receive f)) between
  pub commands : Commands (after (step h (receive f)) between) (to_all 0x81) (to_reset of_node)
  pub reads_again : reads_in (step (after (step h (receive f)) between) (receive (to_all 0x81))) 0x1017 0 ≡ some (Number n)

-- "save": 1017h is 1,000 again; "load": it is 0, the factory's
abbrev pub MetBySave : Type 0
MetBySave = Met (after node1 beating) (writing (0x1010_01, save)) 0x1010_01 save 1000

abbrev pub MetByLoad : Type 0
MetByLoad = Met (after node1 beating) (writing (0x1011_01, load)) 0x1011_01 load 0

-- At 100 the position is set to 40 and saved; then 6000h = 8, and 1017h = 1,000.
abbrev pub saved : List Call
saved = at 100 ++ writes to40 ++ writes (bytes 0x23 0x10 0x10 0x01 0x73 0x61 0x76 0x65)

abbrev pub changed : List Call
changed = saved ++ writes (bytes 0x2B 0x00 0x60 0x00 0x08 0x00 0 0) ++ writes (bytes 0x2B 0x17 0x10 0x00 0xE8 0x03 0 0)

pub record Restoring : Type 0 where
  -- 6509h: −60 is FFFF FFC4h
  pub saves : reads_in (after node1 saved) 0x6509 0 ≡ some (Number 0xFFFFFFC4)
  pub changes : (reads_in (after node1 changed) 0x6509 0 ≡ some (Number 0)) × (reads_in (after node1 changed) 0x1017 0 ≡ some (Number 1000))
  -- 81h sets all settings to the saved set, the offset too
  pub all : (reads_in (after node1 (changed ++ command 0x81 ∷ [])) 0x6509 0 ≡ some (Number 0xFFFFFFC4))
      × (reads_in (after node1 (changed ++ command 0x81 ∷ [])) 0x1017 0 ≡ some (Number 0))
  -- 82h only those below 2000h
  pub below : (reads_in (after node1 (changed ++ command 0x82 ∷ [])) 0x6000 0 ≡ some (Number 8))
      × (reads_in (after node1 (changed ++ command 0x82 ∷ [])) 0x1017 0 ≡ some (Number 0))
