-- The smallest head: a line, and calls that are slots or that withdraw some kinds and let others join. 01, chapter "The waiting line".
-- In it a waiting kind leaves by the n-th slot, for any n. An example shows a kind that does.
use Rattle.std.specs.Prelude.{ℕ, ◌≡◌, Bool, true, false, List, [], ◌∷◌}
use Rattle.waiting.specs.Line.{places, emergency, sdo_reply, heartbeat, tpdo1, tpdo2, has, Kinds}
use Rattle.waiting.specs.Calls.{after, Named}
use Rattle.waiting.specs.Worked.{all_wait}
use Rattle.waiting.specs.Trace.{Machine, slots, sent, LeavesBy, Leaves, Demand3, Recorded}

-- What a call withdraws does not join in it.
abbrev pub Apart : List ℕ → List ℕ → Type 0
Apart out into = (k : ℕ) → has k out ≡ true → has k into ≡ false

pub data Call (n : ℕ) : Type 0 where
  slot_call : Call n
  other_call : (out into : List ℕ) → Named n into → Apart out into → Call n

abbrev pub is_slot : {n : ℕ} → Call n → Bool
is_slot slot_call = true
is_slot (other_call out into m a) = false

abbrev pub out_of : {n : ℕ} → Call n → List ℕ
out_of slot_call = []
out_of (other_call out into m a) = out

abbrev pub into_of : {n : ℕ} → Call n → List ℕ
into_of slot_call = []
into_of (other_call out into m a) = into

abbrev pub plain : (n : ℕ) → Machine (List ℕ) (Call n)
plain n =
    record {
      step = λ ws c. after (is_slot c) (out_of c) (into_of c) ws;
      slot = is_slot;
      line = λ ws. ws;
      out = λ ws c. out_of c;
      into = λ ws c. into_of c;
      Good = Kinds n;
    }

pub record BySlotN (n : ℕ) : Type 0 where
  pub in_turn : Leaves (plain n)
  pub by_slot_n : Demand3 (plain n) n
  -- and what the slots sent shows it
  pub recorded : (b k : ℕ) (ws : List ℕ) (cs : List (Call n)) → LeavesBy (plain n) b k ws cs → Recorded (plain n) b k ws cs

-- All wait, the emergency last. TPDO1 is withdrawn, and joins again in a later call, as does TPDO2 once it is sent.
module _ (m : Named places (emergency ∷ [])) (a : Apart (tpdo1 ∷ []) (emergency ∷ [])) (m' : Named places (tpdo1 ∷ tpdo2 ∷ [])) (a' : Apart [] (tpdo1 ∷ tpdo2 ∷ [])) where
  abbrev pub calls : List (Call places)
  calls =
      other_call (tpdo1 ∷ []) (emergency ∷ []) m a ∷ slot_call ∷ slot_call ∷ other_call [] (tpdo1 ∷ tpdo2 ∷ []) m' a' ∷ slot_call ∷ slot_call ∷ slot_call ∷ []

pub record Example : Type 0 where
  pub kept : Named places (emergency ∷ [])
  pub other : Apart (tpdo1 ∷ []) (emergency ∷ [])
  pub again : Named places (tpdo1 ∷ tpdo2 ∷ [])
  pub none_out : Apart [] (tpdo1 ∷ tpdo2 ∷ [])
  pub leaves : LeavesBy (plain places) places emergency all_wait (calls kept other again none_out)
  pub five_slots : slots (plain places) (calls kept other again none_out) ≡ 5
  pub all_sent : sent (plain places) all_wait (calls kept other again none_out) ≡ tpdo2 ∷ heartbeat ∷ sdo_reply ∷ emergency ∷ tpdo1 ∷ []
