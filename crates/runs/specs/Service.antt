-- Requests to node 1, answered one after another. This run meets the
-- conditions of `Service` of crate promises. 01, chapter "Service requests".
use Rattle.std.specs.Prelude.{ℕ, ◌≡◌, true, List, [], ◌∷◌, ◌++◌}
use Rattle.std.proofs.Math.Option.{none, some}
use Rattle.sdo.specs.Worked.{bytes}
use Rattle.promises.specs.Calls.{Call, slot}
use Rattle.promises.specs.Meant.{Requests}
use Rattle.promises.specs.Histories.{after}
use Rattle.promises.specs.Node1.{node1, to_node1, request, command}
use Rattle.promises.specs.Worked.{answer, sends}
use Rattle.promises.specs.Service.{sends_reply, owed}

-- the requests of P1 and P3
abbrev pub p1 : List ℕ
p1 = bytes 0x40 0x01 0x65 0x00 0 0 0 0

abbrev pub p3 : List ℕ
p3 = bytes 0x2F 0x17 0x10 0x00 0x88 0x13 0 0

-- P1 while the emergency waits, P3 while P1's reply does, and the slot that sends the emergency
abbrev pub asked : List Call
asked = slot ∷ request p1 ∷ request p3 ∷ slot ∷ []

-- then the slot that sends the reply, and P3 again
abbrev pub asked_again : List Call
asked_again = asked ++ slot ∷ request p3 ∷ []

pub record Serving : Type 0 where
  pub requests : Requests (after node1 (slot ∷ [])) (to_node1 p1)
  pub sends_first : sends_reply (after node1 asked) ≡ true
  pub owes_first : owed node1 none asked ≡ some (bytes 0x43 0x01 0x65 0x00 0x88 0x13 0x00 0x00)
  pub answers_first : answer (after node1 asked) ≡ sends 0x581 8 (bytes 0x43 0x01 0x65 0x00 0x88 0x13 0x00 0x00)
  pub sends_next : sends_reply (after node1 asked_again) ≡ true
  pub owes_next : owed node1 none asked_again ≡ some (bytes 0x80 0x17 0x10 0x00 0x13 0x00 0x07 0x06)
  pub answers_next : answer (after node1 asked_again) ≡ sends 0x581 8 (bytes 0x80 0x17 0x10 0x00 0x13 0x00 0x07 0x06)
  pub withdrawn : owed node1 none (asked ++ command 0x02 ∷ []) ≡ none
