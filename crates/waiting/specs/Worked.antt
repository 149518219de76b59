-- Examples of the waiting line, in its places. 01, chapter "The waiting line".
use Rattle.std.specs.Prelude.{ℕ, ◌≡◌, true, false, List, [], ◌∷◌}
use Rattle.cases.specs.Padded.{pad}
use Rattle.waiting.specs.Line.{places, emergency, sdo_reply, heartbeat, tpdo1, tpdo2, order, has, first}
use Rattle.waiting.specs.Places.{join_in, withdraw_in, taken_in, waiting}
use Rattle.waiting.specs.Calls.{joins_in, withdraws_in, after_in, those_due}

abbrev pub none : List ℕ
none = pad places []

abbrev pub three : List ℕ
three = pad places (emergency ∷ heartbeat ∷ tpdo1 ∷ [])

-- all wait, the last to be named first
abbrev pub all_wait : List ℕ
all_wait = tpdo2 ∷ tpdo1 ∷ heartbeat ∷ sdo_reply ∷ emergency ∷ []

abbrev pub all : List ℕ
all = pad places all_wait

pub record Worked : Type 0 where
  -- three join, and leave in their order
  pub three_join : joins_in none (emergency ∷ heartbeat ∷ tpdo1 ∷ []) ≡ three
  pub emergency_first : first three ≡ emergency
  pub then_heartbeat : taken_in three ≡ pad places (heartbeat ∷ tpdo1 ∷ [])
  pub then_tpdo1 : taken_in (taken_in three) ≡ pad places (tpdo1 ∷ [])
  pub then_none : taken_in (taken_in (taken_in three)) ≡ none
  -- no frame is sent if none waits
  pub none_sent : first none ≡ 0
  pub none_taken : taken_in none ≡ none
  -- no priority: TPDO1 waits, then an SDO reply joins, and TPDO1 is sent first
  pub no_priority : first (join_in (pad places (tpdo1 ∷ [])) sdo_reply) ≡ tpdo1
  -- kinds that are due in one call join in the order given, behind those that wait
  pub in_turn : joins_in none (those_due (λ k. has k (tpdo2 ∷ heartbeat ∷ emergency ∷ [])) order)
      ≡ pad places (emergency ∷ heartbeat ∷ tpdo2 ∷ [])
  pub behind : joins_in three (those_due (λ k. has k (tpdo2 ∷ tpdo1 ∷ sdo_reply ∷ [])) order)
      ≡ pad places (emergency ∷ heartbeat ∷ tpdo1 ∷ sdo_reply ∷ tpdo2 ∷ [])
  -- joining again changes nothing, in a full line too
  pub once : join_in three heartbeat ≡ three
  pub full : join_in all emergency ≡ all
  pub last_place : join_in (pad places (tpdo2 ∷ tpdo1 ∷ heartbeat ∷ sdo_reply ∷ [])) emergency ≡ all
  -- the one in the middle is withdrawn, the others keep their order
  pub middle : withdraw_in three heartbeat ≡ pad places (emergency ∷ tpdo1 ∷ [])
  pub not_there : withdraw_in three sdo_reply ≡ three
  -- a missing sample takes both PDOs, if both are of types 254 and 255
  pub missing : withdraws_in all (tpdo1 ∷ tpdo2 ∷ []) ≡ pad places (heartbeat ∷ sdo_reply ∷ emergency ∷ [])
  -- entering Stopped takes all but the heartbeat
  pub stopped : withdraws_in all (emergency ∷ sdo_reply ∷ tpdo1 ∷ tpdo2 ∷ []) ≡ pad places (heartbeat ∷ [])
  -- a slot that sends the first, withdraws another and lets a third join
  pub slot : after_in true (tpdo1 ∷ []) (sdo_reply ∷ []) three ≡ pad places (heartbeat ∷ sdo_reply ∷ [])
  -- sent and due again, it goes to the end
  pub again : after_in true [] (emergency ∷ []) three ≡ pad places (heartbeat ∷ tpdo1 ∷ emergency ∷ [])
  pub some_wait : waiting three ≡ emergency ∷ heartbeat ∷ tpdo1 ∷ []
  pub it_waits : has heartbeat three ≡ true
  pub it_does_not : has sdo_reply three ≡ false
