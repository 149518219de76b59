-- When a kind starts to wait: 01's moments, for every list of calls from power-up. Ticks and SYNCs are counted from
-- the calls, starting at the call that 01 names; the head's own timers are not read. 01, chapter "The waiting line".
use Rattle.std.specs.Prelude.{ℕ, suc, ◌%◌, ◌<◌, eqb, leb, ◌≡◌, ◌↔◌, Bool, true, false, not, ◌&&◌, ◌||◌, cond, List, [], ◌∷◌}
use Rattle.std.specs.Bool.{beq}
use Rattle.can.specs.declared.Received.{Received}
use Rattle.entries.specs.declared.Pdo.{Pdo}
use Rattle.dictionary.specs.Accepted.{on}
use Rattle.sdo.specs.Request.{aborting}
use Rattle.parts.specs.declared.Head.{Head}
use Rattle.promises.specs.States.{operational, stopped, pre_operational, is_in, is_initialising, is_live, node, communication}
use Rattle.promises.specs.States.{good, PdoNumber, one, two, pdo, Command, no_command, to_enter, to_reset, command_of}
use Rattle.promises.specs.Timers.{OnEvents, OnSyncs}
use Rattle.promises.specs.WaitingLine.{Kind, emergency, sdo_reply, heartbeat, tpdo}
use Rattle.promises.specs.Calls.{Call, receive, tick, sample, slot, is_slot, is_heard, step}
use Rattle.promises.specs.Valid.{waits}
use Rattle.promises.specs.Meant.{Commands, Requests, Synchronises, Writes, due_to}
use Rattle.promises.specs.Histories.{after, PowerUp, powered}
use Rattle.promises.specs.Service.{is_request, confirms}
use Rattle.promises.specs.Withdrawals.{identifier_key}

-- `Synchronises` and the command that enters Operational, as tests
abbrev pub is_sync : Head → Received → Bool
is_sync h f = is_heard h f && eqb f.identifier 0x080 && leb f.length 1 && is_in operational h.core

abbrev pub says_operational : Command → Bool
says_operational no_command = false
says_operational (to_enter operational) = true
says_operational (to_enter stopped) = false
says_operational (to_enter pre_operational) = false
says_operational (to_reset r) = false

abbrev pub is_entry : Head → Received → Bool
is_entry h f = is_heard h f && eqb f.identifier 0x000 && says_operational (command_of (node h.core) f) && not (is_in operational h.core)

-- a frame received that passes a test
abbrev pub receives : (Received → Bool) → Call → Bool
receives t (receive f) = t f
receives t tick = false
receives t (sample s) = false
receives t slot = false

abbrev pub writes : (ℕ → ℕ → Bool) → Head → Call → Bool
writes t h = receives (λ f. is_request h f && confirms t (due_to h f))

abbrev pub synchronises : Head → Call → Bool
synchronises h = receives (is_sync h)

abbrev pub enters_operational : Head → Call → Bool
enters_operational h = receives (is_entry h)

abbrev pub is_tick : Call → Bool
is_tick (receive f) = false
is_tick tick = true
is_tick (sample s) = false
is_tick slot = false

-- How many of the calls count, since the last one that restarts the count; n before these calls.
abbrev pub count_by : (anew counts : Head → Call → Bool) → Head → Call → ℕ → ℕ
count_by anew counts h c n = cond (anew h c) 0 (cond (counts h c) (suc n) n)

abbrev pub since : (anew counts : Head → Call → Bool) → Head → List Call → ℕ → ℕ
since anew counts h [] n = n
since anew counts h (c ∷ cs) n = since anew counts (step h c) cs (count_by anew counts h c n)

-- Heartbeat: .. counted from its write or from entry to Pre-operational after boot-up.
abbrev pub boots : Head → Call → Bool
boots h c = is_slot c && is_initialising h.core

abbrev pub is_period : ℕ → ℕ → Bool
is_period k v = eqb k 0x1017_00

abbrev pub beats_anew : Head → Call → Bool
beats_anew h c = boots h c || writes is_period h c

-- In Initialising .. timers stand.
abbrev pub beat_counts : Head → Call → Bool
beat_counts h c = is_tick c && not (is_initialising h.core)

-- Types 254 and 255: .. counted from entry, from switching on (bit 31 of sub 1 goes from 1 to 0), or from a write to sub 5.
abbrev pub pdo_of : Head → PdoNumber → Pdo
pdo_of h w = pdo (communication h.core) w

abbrev pub is_switch : PdoNumber → ℕ → ℕ → Bool
is_switch w k v = eqb k (identifier_key w) && on v

abbrev pub switches_on : PdoNumber → Head → Call → Bool
switches_on w h c = writes (is_switch w) h c && not (on (pdo_of h w).identifier)

-- 1800-5, and 6200-0: 1800-5 under a second index; 1801-5
abbrev pub is_sub5 : PdoNumber → ℕ → ℕ → Bool
is_sub5 one k v = eqb k 0x1800_05 || eqb k 0x6200_00
is_sub5 two k v = eqb k 0x1801_05

abbrev pub ticks_anew : PdoNumber → Head → Call → Bool
ticks_anew w h c = enters_operational h c || switches_on w h c || writes (is_sub5 w) h c

-- Only when Operational .. may it join: its ticks count in Operational only.
abbrev pub tick_counts : Head → Call → Bool
tick_counts h c = is_tick c && is_in operational h.core

-- Types 1..240: .. counted from entry or from switching on.
abbrev pub syncs_anew : PdoNumber → Head → Call → Bool
syncs_anew w h c = enters_operational h c || switches_on w h c

-- What has been counted: for the heartbeat, and for each PDO.
pub record Counts : Type 0 where
  pub beats : ℕ
  pub ticks : PdoNumber → ℕ
  pub syncs : PdoNumber → ℕ

abbrev pub counts_after : PowerUp → List Call → Counts
counts_after p cs =
    record {
      beats = since beats_anew beat_counts (powered p) cs 0;
      ticks = λ w. since (ticks_anew w) tick_counts (powered p) cs 0;
      syncs = λ w. since (syncs_anew w) synchronises (powered p) cs 0;
    }

-- every n ticks, at each n-th SYNC: n > 0, and the count, with this call, is a multiple of n
pub record EachOf (n count : ℕ) : Type 0 where
  pub some : 0 < n
  pub turn : suc count % n ≡ 0

-- Emergency: waits exactly while the state is Pre-operational or Operational, bit 31 of 1014h is 0, no
-- inhibit time runs, and the present reading (good or missing) differs from the one last announced.
pub record Alerting (h : Head) : Type 0 where
  pub live : is_live h.core ≡ true
  pub is_on_law : on (communication h.core).emergency ≡ true
  pub uninhibited : h.core.timers.inhibit ≡ 0
  pub differs : beq (good h.core) h.core.announced ≡ false

-- TPDO: .. switched on (bit 31 of sub 1 is 0) and the reading is good
pub record Ready (h : Head) (w : PdoNumber) : Type 0 where
  pub is_on_law : on (pdo_of h w).identifier ≡ true
  pub is_good_law : good h.core ≡ true

-- The calls at which a kind joins; n are the counts before the call.
pub data Begins (h : Head) (n : Counts) : Call → Kind → Type 0 where
  -- (No inhibit time runs: what is left of it is `inhibit_left` of specs/Gap.antt, and what was announced is `announced` there.)
  alerting : {c : Call} → Alerting (step h c) → Begins h n c emergency
  -- What is due is the reply that joins; 4 abort (no effect, no reply)
  replies : {f : Received} → Requests h f → aborting f.bytes ≡ false → Begins h n (receive f) sdo_reply
  -- 1017h = H ms; if H > 0 it joins every H ticks
  beats : is_initialising h.core ≡ false → EachOf (communication h.core).heartbeat n.beats → Begins h n tick heartbeat
  -- Types 254 and 255: on entering Operational,
  enters : {f : Received} {w : PdoNumber} → Commands h f (to_enter operational) → is_in operational h.core ≡ false → Ready h w
      → OnEvents (pdo_of h w)
      → Begins h n (receive f) (tpdo w)
  -- and every E ticks (sub 5 = E > 0)
  elapses : {w : PdoNumber} → is_in operational h.core ≡ true → Ready h w → OnEvents (pdo_of h w)
      → EachOf (pdo_of h w).event (n.ticks w) → Begins h n tick (tpdo w)
  -- Types 1..240: at each n-th SYNC
  syncs : {f : Received} {w : PdoNumber} → Synchronises h f → Ready h w → OnSyncs (pdo_of h w)
      → EachOf (pdo_of h w).transmission (n.syncs w)
      → Begins h n (receive f) (tpdo w)

pub record Moments (p : PowerUp) (cs : List Call) : Type 0 where
  -- What joins waits after the call,
  pub joins : let h = after (powered p) cs in (c : Call) (k : Kind) → Begins h (counts_after p cs) c k → waits (step h c) k ≡ true
  -- and nothing else begins to wait.
  pub only_then : let h = after (powered p) cs in (c : Call) (k : Kind) → waits h k ≡ false → waits (step h c) k ≡ true
      → Begins h (counts_after p cs) c k
  -- The tests find an accepted write, the command that enters Operational, and a SYNC.
  pub written : let h = after (powered p) cs in (f : Received) (t : ℕ → ℕ → Bool)
      → (writes t h (receive f) ≡ true) ↔ ((k : ℕ) × (v : ℕ) × (t k v ≡ true) × Writes h f k v)
  pub entered : let h = after (powered p) cs in (f : Received)
      → (enters_operational h (receive f) ≡ true) ↔ (Commands h f (to_enter operational) × (is_in operational h.core ≡ false))
  pub synchronised : let h = after (powered p) cs in (f : Received) → (synchronises h (receive f) ≡ true) ↔ Synchronises h f
  -- A PDO's settings are those that its entries read (specs/Parameters.antt).
  pub its_settings : let h = after (powered p) cs in (w : PdoNumber) → pdo_of h w ≡ pdo (communication h.core) w
