-- "A due moment with a missing reading is passed over": no frame joins at that moment, or later because of it, and the count goes on as if
-- one had joined. For every list of calls from power-up, counted from the calls as in specs/Moments.antt. 01, chapter "The waiting line".
use Rattle.std.specs.Prelude.{ℕ, ◌≡◌, ◌↔◌, true, false, List, ◌∷◌, ◌++◌}
use Rattle.can.specs.declared.Received.{Received}
use Rattle.dictionary.specs.Accepted.{on}
use Rattle.parts.specs.declared.Head.{Head}
use Rattle.parts.specs.declared.Sensor.TheVariants.{Missing, Raw}
use Rattle.promises.specs.States.{operational, is_in, PdoNumber, to_enter}
use Rattle.promises.specs.WaitingLine.{tpdo, frame_of}
use Rattle.promises.specs.Calls.{Call, receive, tick, step}
use Rattle.promises.specs.Valid.{waits}
use Rattle.promises.specs.Meant.{Commands, Synchronises}
use Rattle.promises.specs.Histories.{after, PowerUp, powered}
use Rattle.promises.specs.Readings.{last_sample}
use Rattle.promises.specs.Timers.{OnEvents, OnSyncs}
use Rattle.promises.specs.Moments.{since, pdo_of, EachOf, Counts, counts_after}
use Rattle.promises.specs.Moments.{ticks_anew, tick_counts, syncs_anew, synchronises}

-- A PDO's due moments, for any reading; n was counted before the call.
pub data Due (h : Head) (n : Counts) : Call → PdoNumber → Type 0 where
  -- Types 254 and 255: on entering Operational,
  enters : {f : Received} {w : PdoNumber} → Commands h f (to_enter operational) → is_in operational h.core ≡ false → OnEvents (pdo_of h w)
      → Due h n (receive f) w
  -- and every E ticks (sub 5 = E > 0)
  elapses : {w : PdoNumber} → is_in operational h.core ≡ true → OnEvents (pdo_of h w) → EachOf (pdo_of h w).event (n.ticks w)
      → Due h n tick w
  -- Types 1..240: at each n-th SYNC
  syncs : {f : Received} {w : PdoNumber} → Synchronises h f → OnSyncs (pdo_of h w) → EachOf (pdo_of h w).transmission (n.syncs w)
      → Due h n (receive f) w

pub record PassedOver (p : PowerUp) (cs : List Call) : Type 0 where
  -- With a missing reading it is passed over: no frame joins, and none is withdrawn,
  pub passes : let h = after (powered p) cs in (c : Call) (w : PdoNumber) → Due h (counts_after p cs) c w → last_sample Missing cs ≡ Missing
      → waits (step h c) (tpdo w) ≡ waits h (tpdo w)
  -- and a frame that waits carries what it carried. (Of types 254 and 255 none waits then: `only_while` of specs/FiveSlots.antt.)
  pub same_frame : let h = after (powered p) cs in (c : Call) (w : PdoNumber) → Due h (counts_after p cs) c w
      → last_sample Missing cs ≡ Missing → waits h (tpdo w) ≡ true → frame_of (step h c).core (tpdo w) ≡ frame_of h.core (tpdo w)
  -- With a good one, and switched on, the PDO joins.
  pub joins : let h = after (powered p) cs in (c : Call) (w : PdoNumber) (r : ℕ) → Due h (counts_after p cs) c w
      → last_sample Missing cs ≡ Raw r → on (pdo_of h w).identifier ≡ true → waits (step h c) (tpdo w) ≡ true
  -- No frame joins later for a moment that was passed over: a PDO starts to wait only at a due moment with a good reading.
  pub not_later : let h = after (powered p) cs in (c : Call) (w : PdoNumber) → waits h (tpdo w) ≡ false → waits (step h c) (tpdo w) ≡ true
      → Due h (counts_after p cs) c w × ((r : ℕ) × (last_sample Missing cs ≡ Raw r))
  -- The next moment is E ticks later, or at the n-th SYNC after it, whether a frame joined or not: for all calls ds
  -- that follow, a tick or a SYNC is due exactly when it is due if counted from the due moment.
  pub ticks_on : let h = after (powered p) cs in (c : Call) (w : PdoNumber) → Due h (counts_after p cs) c w → OnEvents (pdo_of h w)
      → (ds : List Call) → let period = (pdo_of h w).event in
      EachOf period ((counts_after p (cs ++ c ∷ ds)).ticks w) ↔ EachOf period (since (ticks_anew w) tick_counts (step h c) ds 0)
  pub syncs_on : let h = after (powered p) cs in (c : Call) (w : PdoNumber) → Due h (counts_after p cs) c w → OnSyncs (pdo_of h w)
      → (ds : List Call) → let period = (pdo_of h w).transmission in
      EachOf period ((counts_after p (cs ++ c ∷ ds)).syncs w) ↔ EachOf period (since (syncs_anew w) synchronises (step h c) ds 0)
