-- What a service request does: an accepted write has exactly the effects named for it, and an aborted write changes no entry.
-- What the entries then read is the list `effects` of crate dictionary. Which counts restart, and which kinds leave and
-- join the line, are tests by the key of the written entry, to compare with 01's chapter "The waiting line" line by line.
use Rattle.std.specs.Prelude.{ℕ, eqb, ◌≡◌, Bool, true, false, not, ◌&&◌, ◌||◌, cond, List, [], ◌∷◌, ◌++◌, map, Some as Number}
use Rattle.std.proofs.Math.Option.{some}
use Rattle.can.specs.declared.Received.{Received}
use Rattle.names.specs.declared.Transfer.{Transfer}
use Rattle.names.specs.Transfer.{no_transfer}
use Rattle.entries.specs.Table.{key_of}
use Rattle.dictionary.specs.Accepted.{on}
use Rattle.dictionary.specs.Effects.{effects, anew, saved_by, read_back}
use Rattle.sdo.specs.Request.{index_of, sub_of}
use Rattle.sdo.specs.Service.{value, confirmation, abort, upload, answer}
use Rattle.sdo.specs.Service as service
use Rattle.waiting.specs.Line as line
use Rattle.waiting.specs.Line.{has}
use Rattle.waiting.specs.Places.{waiting}
use Rattle.waiting.specs.Calls.{withdraws}
use Rattle.parts.specs.declared.Timers.{Timers}
use Rattle.parts.specs.declared.Core.{Core}
use Rattle.parts.specs.declared.Head.{Head}
use Rattle.parts.specs.Put.{with_transfer}
use Rattle.promises.specs.States.{operational, is_in, communication, good, PdoNumber, one, two, pdo, clock}
use Rattle.promises.specs.WaitingLine.{Kind, emergency, sdo_reply, heartbeat, tpdo, those, may_alert}
use Rattle.promises.specs.Calls.{receive, step}
use Rattle.promises.specs.Valid.{waits}
use Rattle.promises.specs.Meant.{Requests, due_to}
use Rattle.promises.specs.Histories.{Reachable}
use Rattle.promises.specs.Withdrawals.{identifier_key}
use Rattle.promises.specs.Readings.{reads_in}

-- A write of v to the entry of key k switches a PDO on: bit 31 of sub 1 goes from 1 to 0; or off.
abbrev pub switches_on : Core → ℕ → ℕ → PdoNumber → Bool
switches_on c k v w = eqb k (identifier_key w) && (not (on (pdo (communication c) w).identifier) && on v)

abbrev pub switches_off : ℕ → ℕ → PdoNumber → Bool
switches_off k v w = eqb k (identifier_key w) && not (on v)

-- What is counted: the heartbeat's ticks, a PDO's ticks, its SYNCs.
pub data Counted : Type 0 where
  beats : Counted
  events : PdoNumber → Counted
  syncs : PdoNumber → Counted

abbrev pub count : Timers → Counted → ℕ
count t beats = t.heartbeat
count t (events w) = (clock t w).ticks
count t (syncs w) = (clock t w).syncs

-- Which counts a write restarts.
abbrev pub restarts : Core → ℕ → ℕ → Counted → Bool
-- counted from its write
restarts c k v beats = eqb k 0x1017_00
-- counted .. from switching on, or from a write to sub 5
restarts c k v (events one) = eqb k 0x1800_05 || eqb k 0x6200_00 || switches_on c k v one
restarts c k v (events two) = eqb k 0x1801_05 || switches_on c k v two
-- counted .. from switching on
restarts c k v (syncs w) = switches_on c k v w

-- Withdrawals: .. switching a PDO off takes that PDO; writing 0 to 1017h takes the heartbeat; the emergency goes when its condition ends.
abbrev pub takes : ℕ → ℕ → Kind → Bool
takes k v emergency = eqb k 0x1014_00 && not (on v)
takes k v sdo_reply = false
takes k v heartbeat = eqb k 0x1017_00 && eqb v 0
takes k v (tpdo w) = switches_off k v w

-- What is due is the reply that joins; before it the emergency, if the write of 1014h starts its condition.
abbrev pub brings : Head → ℕ → ℕ → Kind → Bool
brings h k v emergency =
    let c = h.core in
    eqb k 0x1014_00 && (not (waits h emergency) && may_alert c.nmt v c.timers.inhibit (good c) c.announced)
brings h k v sdo_reply = true
brings h k v heartbeat = false
brings h k v (tpdo w) = false

-- From head h to head a only the reply, the transfer and the line change: the reply joins at the line's end.
pub record OnlyReplied (f : Received) (h a : Head) : Type 0 where
  pub entries : (i j : ℕ) → reads_in a i j ≡ reads_in h i j
  -- settings, saved set, reading and error list
  pub device : a.core.device ≡ h.core.device
  pub nmt : a.core.nmt ≡ h.core.nmt
  pub announced : a.core.announced ≡ h.core.announced
  pub timers : a.core.timers ≡ h.core.timers
  pub fixed : a.core.fixed ≡ h.core.fixed
  pub reply : a.core.reply ≡ (answer f.bytes (due_to h f)).bytes
  pub transfer : a.transfer ≡ (answer f.bytes (due_to h f)).transfer
  pub line : waiting a.line ≡ waiting h.line ++ line.sdo_reply ∷ []

-- All that a write of v to the entry of key k changes, from head h to head a.
pub record Effects (f : Received) (k v : ℕ) (h a : Head) : Type 0 where
  -- the named entries read their new values, every other entry reads as before, and no entry appears or disappears
  pub entries : (i j : ℕ) → reads_in a i j ≡ anew (effects h.core.device (is_in operational h.core) k v) (key_of i j) (reads_in h i j)
  pub others : (i j : ℕ) → has (key_of i j) (map (λ e. e.0) (effects h.core.device (is_in operational h.core) k v)) ≡ false
      → reads_in a i j ≡ reads_in h i j
  -- the entry that the request names reads what was written
  pub own : reads_in a (index_of f.bytes) (sub_of f.bytes) ≡ some (Number (read_back k v))
  pub saved : a.core.device.saved ≡ saved_by h.core.device k
  pub node : a.core.device.node ≡ h.core.device.node
  pub identity : a.core.device.identity ≡ h.core.device.identity
  pub reading : a.core.device.reading ≡ h.core.device.reading
  pub nmt : a.core.nmt ≡ h.core.nmt
  pub announced : a.core.announced ≡ h.core.announced
  -- Writing 1015h doesn't alter a running one; nor does any write.
  pub inhibit : a.core.timers.inhibit ≡ h.core.timers.inhibit
  pub counts : (c : Counted) → count a.core.timers c ≡ cond (restarts h.core k v c) 0 (count h.core.timers c)
  -- Later writes do not change a fixed position.
  pub still_fixed : a.core.fixed ≡ h.core.fixed
  pub reply : a.core.reply ≡ (answer f.bytes (confirmation k v)).bytes
  -- a write ends the transfer
  pub transfer : a.transfer ≡ no_transfer
  -- the kinds that were taken are gone, the others keep their order, and those that joined stand at the end
  pub line : waiting a.line ≡ withdraws (waiting h.line) (those (takes k v)) ++ those (brings h k v)
  pub who_waits : (x : Kind) → waits a x ≡ ((not (takes k v x) && waits h x) || brings h k v x)

-- What a service request that is served does, for each kind of reply due to it.
pub record Served (h : Head) (f : Received) : Type 0 where
  -- an aborted write alters no entry,
  pub aborted : (code : ℕ) → due_to h f ≡ abort code → OnlyReplied f h (step h (receive f))
  -- nor does a read,
  pub read : (width n : ℕ) → due_to h f ≡ value width n → OnlyReplied f h (step h (receive f))
  -- nor does a segment request while a name is read,
  pub segment : (b : List ℕ) (t : Transfer) → due_to h f ≡ upload b t → OnlyReplied f h (step h (receive f))
  -- nor does 4 abort (no effect, no reply), but that it ends a transfer.
  pub client_aborts : due_to h f ≡ service.none → step h (receive f) ≡ with_transfer h no_transfer
  pub accepted : (k v : ℕ) → due_to h f ≡ confirmation k v → Effects f k v h (step h (receive f))

abbrev pub ServedRightly : Type 0
ServedRightly = (h : Head) → Reachable h → (f : Received) → Requests h f → Served h f
