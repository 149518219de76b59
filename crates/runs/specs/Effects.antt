-- A head, made by calls from power-up, that takes a write to every rw entry, and requests that it aborts and answers.
-- It meets the conditions of `ServedRightly` of crate promises. 01, chapters "Entries" and "Service requests".
use Rattle.std.specs.Prelude.{ℕ, ◌/◌, ◌%◌, ◌≡◌, true, List, ◌∷◌, ◌++◌, map}
use Rattle.can.specs.Number.{low_first}
use Rattle.can.specs.declared.Received.{Received}
use Rattle.entries.specs.Table.{table}
use Rattle.dictionary.specs.Worked.{take_all, writes as allWrites}
use Rattle.sdo.specs.Service.{value, confirmation, abort}
use Rattle.sdo.specs.Service as service
use Rattle.sdo.specs.Worked.{bytes}
use Rattle.parts.specs.declared.Head.{Head}
use Rattle.parts.specs.declared.Sensor.TheVariants.{Raw}
use Rattle.promises.specs.Calls.{Call, sample, slot}
use Rattle.promises.specs.Meant.{Requests, due_to}
use Rattle.promises.specs.Histories.{after, Reachable}
use Rattle.promises.specs.Node1.{node1, to_node1, writes}

-- Node 1 by calls from power-up: Pre-operational at the raw position 100, both PDOs switched off, scaling on.
abbrev pub ready : List Call
ready =
    slot ∷ sample (Raw 100) ∷
    writes (bytes 0x23 0x00 0x18 0x01 0x81 0x01 0x00 0x80) ++
    writes (bytes 0x23 0x01 0x18 0x01 0x81 0x02 0x00 0x80) ++
    writes (bytes 0x2B 0x00 0x60 0x00 0x04 0x00 0 0)

-- a write of v to the entry of key k, of the entry's length
abbrev pub writing : ℕ × ℕ → Received
writing w = to_node1 (0x22 ∷ low_first 2 (w.0 / 256) ++ w.0 % 256 ∷ low_first 4 w.1)

pub record Met (h : Head) : Type 0 where
  pub reachable : Reachable h
  pub requests : (b : List ℕ) → Requests h (to_node1 b)
  -- the writes are those of the table's rw entries, in its order,
  pub each : take_all h.core.device table allWrites ≡ true
  -- and each is accepted
  pub accepted : map (λ w. due_to h (writing w)) allWrites ≡ map (λ w. confirmation w.0 w.1) allWrites
  pub aborted : due_to h (to_node1 (bytes 0x2F 0x17 0x10 0x00 0x88 0x13 0 0)) ≡ abort 0x06070013
  pub read : due_to h (to_node1 (bytes 0x40 0x01 0x65 0x00 0 0 0 0)) ≡ value 4 5000
  pub client_aborts : due_to h (to_node1 (bytes 0x80 0x01 0x65 0x00 0 0 0 0)) ≡ service.none

-- `ServedRightly` covers every rw entry, an abort, a value, and no reply.
abbrev pub MetWhenReady : Type 0
MetWhenReady = Met (after node1 ready)
