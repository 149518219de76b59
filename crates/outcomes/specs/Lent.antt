-- The demands hold for a head that a host lends: power-up makes such a head, and each call leaves the head `step h c`. What stands left of
-- the last arrow in each field is what the contracts of `lent` promise, as `Outcomes` shows. 01, chapter "The head and its neighbours".
use Rattle.std.specs.Prelude.{ℕ, ◌≡◌}
use Rattle.can.specs.declared.Received.{Received}
use Rattle.parts.specs.declared.Head.{Head}
use Rattle.parts.specs.declared.Sensor.{Sensor}
use Rattle.promises.specs.Calls.{Call, receive, tick, sample, slot, step, answered, powered_up, refusal_by, slot_answer, is_frame, frame_in}
use Rattle.promises.specs.Promised.{PowersUp, Receives, Ticks, Samples, Slots}
use Rattle.promises.specs.Histories.{PowerUp, powered, Reachable}
use Rattle.steps.specs.declared.slot.Outgoing.{Outgoing}
use Rattle.lent.specs.Steps.{sent_as}

-- h' is the head after the call, and reachable again
pub record Left (h : Head) (c : Call) (h' : Head) : Type 0 where
  pub is_step : h' ≡ step h c
  pub reachable : Reachable h'

pub record Lent : Type 0 where
  -- 4, 5 or 0 (`gives_4`, `gives_5` and `takes_node` of demand 1)
  pub powers_up : (p : PowerUp) (r : ℕ) (h : Head) → PowersUp p.number p.identity (answered r h)
      → (r ≡ (powered_up p.number p.identity).refusal) × (h ≡ powered p) × Reachable h
  pub receives : (f : Received) (r : ℕ) (h h' : Head) → Reachable h → Receives h f (answered r h')
      → (r ≡ refusal_by (receive f)) × Left h (receive f) h'
  pub ticks : (h h' : Head) → Reachable h → Ticks h h' → Left h tick h'
  pub samples : (s : Sensor) (r : ℕ) (h h' : Head) → Reachable h → Samples h s (answered r h')
      → (r ≡ refusal_by (sample s)) × Left h (sample s) h'
  pub slots : (o : Outgoing) (h h' : Head) → Reachable h → Slots h (sent_as o h')
      → (o.waited ≡ is_frame (slot_answer h)) × (o.frame ≡ frame_in (slot_answer h)) × Left h slot h'
