-- A name is read by CiA 301's segmented SDO upload: what each call does to the transfer, and what each request of it gets.
-- Change request 1/13, read as docs/DECISIONS.md says. A transfer is the number of a name, 0 for none, and its segments answered so far.
use Rattle.std.specs.Prelude.{ℕ, suc, ◌+◌, ◌*◌, ◌/◌, ◌%◌, ◌<◌, ◌≤◌, get_or, ◌≡◌, true, false, List, ◌∷◌}
use Rattle.can.specs.declared.Received.{Received}
use Rattle.can.specs.Number.{low_first}
use Rattle.names.specs.declared.Name.{Name}
use Rattle.names.specs.declared.Transfer.{Transfer}
use Rattle.names.specs.Segment.{segment_of}
use Rattle.entries.specs.Identity.{name_of}
use Rattle.sdo.specs.Exactly.{Reads, Writes, ClientAborts}
use Rattle.sdo.specs.UploadLaws.{AsksName, AsksSegment, Runs}
use Rattle.parts.specs.declared.Head.{Head}
use Rattle.parts.specs.declared.Sensor.{Sensor}
use Rattle.parts.specs.Put.{with_transfer}
use Rattle.promises.specs.States.{stopped, is_live, node, Reset, to_enter, to_reset}
use Rattle.promises.specs.WaitingLine.{sdo_reply}
use Rattle.promises.specs.Calls.{Call, receive, tick, sample, slot, step}
use Rattle.promises.specs.Valid.{waits}
use Rattle.promises.specs.Meant.{Commands, Requests}
use Rattle.promises.specs.Histories.{PowerUp, powered, Reachable}
use Rattle.promises.specs.Gap.{is_command, stops_or_resets}

abbrev pub over : Transfer
over = record { name = 0; segments = 0 }

-- name k of the head: 1008h, 1009h, 100Ah
abbrev pub its : Head → ℕ → Name
its h k = name_of h.core.device.identity k

-- What a request that is served leaves, from head h to head a: this reply waits, this transfer runs, and no entry is altered.
pub record Leaves (h a : Head) (bytes : List ℕ) (t : Transfer) : Type 0 where
  pub replies : waits a sdo_reply ≡ true
  pub reply : a.core.reply ≡ bytes
  pub transfer : a.transfer ≡ t
  pub device : a.core.device ≡ h.core.device

-- A frame that leaves a transfer as it is: no service request to node n, and no command that stops or resets it.
abbrev pub Harmless : ℕ → Received → Type 0
Harmless n f = (f.identifier ≡ 0x600 + n → ⊥) × (is_command n stops_or_resets (receive f) ≡ false)

-- "Whatever else is called between": slots, ticks, samples, and every frame that is harmless
abbrev pub Between : ℕ → Call → Type 0
Between n (receive f) = Harmless n f
Between n tick = Unit {0}
Between n (sample s) = Unit {0}
Between n slot = Unit {0}

-- "(slots, ticks, samples, SYNC)", and commands that neither stop nor reset, or name another node
pub data Besides (n : ℕ) : Call → Type 0 where
  a_slot : Besides n slot
  a_tick : Besides n tick
  a_sample : (s : Sensor) → Besides n (sample s)
  a_sync : (f : Received) → f.identifier ≡ 0x080 → Besides n (receive f)
  -- 01h Operational, 80h Pre-operational
  starting : (f : Received) → f.identifier ≡ 0x000 → get_or f.bytes 0 0 ≡ 0x01 → Besides n (receive f)
  pausing : (f : Received) → f.identifier ≡ 0x000 → get_or f.bytes 0 0 ≡ 0x80 → Besides n (receive f)
  elsewhere : (f : Received) → f.identifier ≡ 0x000 → (get_or f.bytes 1 0 ≡ 0 → ⊥) → (get_or f.bytes 1 0 ≡ n → ⊥)
      → Besides n (receive f)

-- for a head that comes from power-up, and a request that is served
pub record InTransfer (h : Head) (f : Received) : Type 0 where
  -- A read of such an entry is answered 41h, bytes 1..3 repeated, size in bytes 4..7, for every length, also 1 to 4.
  pub begins : (k : ℕ) → Reads f.bytes → AsksName k f.bytes
      → let b = f.bytes in
      Leaves h (step h (receive f)) (0x41 ∷ get_or b 1 0 ∷ get_or b 2 0 ∷ get_or b 3 0 ∷ low_first 4 (its h k).length)
      (record { name = k; segments = 0 })
  -- Bit 4 is the toggle, 0 first. Each but the last carries 7.
  pub goes_on : Runs h.transfer → AsksSegment f.bytes → let t = h.transfer in get_or f.bytes 0 0 / 16 % 2 ≡ t.segments % 2
      → 7 * suc t.segments < (its h t.name).length
      → Leaves h (step h (receive f)) (segment_of (its h t.name) t.segments) (record { name = t.name; segments = suc t.segments })
  -- The last segment's reply ends the transfer.
  pub last : Runs h.transfer → AsksSegment f.bytes → let t = h.transfer in get_or f.bytes 0 0 / 16 % 2 ≡ t.segments % 2
      → (its h t.name).length ≤ 7 * suc t.segments
      → Leaves h (step h (receive f)) (segment_of (its h t.name) t.segments) over
  -- A wrong toggle: 0503 0000h naming the entry of the transfer, and the transfer is over.
  pub wrong_toggle_law : Runs h.transfer → AsksSegment f.bytes → let t = h.transfer in
      (get_or f.bytes 0 0 / 16 % 2 ≡ t.segments % 2 → ⊥)
      → Leaves h (step h (receive f)) (0x80 ∷ (0x07 + t.name) ∷ 0x10 ∷ 0x00 ∷ low_first 4 0x05030000) over
  -- With no transfer running a segment request is 0504 0001h with its own bytes 1..3.
  pub no_transfer_law : h.transfer.name ≡ 0 → AsksSegment f.bytes
      → let b = f.bytes in
      Leaves h (step h (receive f)) (0x80 ∷ get_or b 1 0 ∷ get_or b 2 0 ∷ get_or b 3 0 ∷ low_first 4 0x05040001) over
  -- A write to it is 0601 0002h (step 3, before lengths).
  pub read_only : (k : ℕ) → Writes f.bytes → AsksName k f.bytes
      → let b = f.bytes in
      Leaves h (step h (receive f)) (0x80 ∷ get_or b 1 0 ∷ get_or b 2 0 ∷ get_or b 3 0 ∷ low_first 4 0x06010002) over
  -- Every one but a segment request ends the transfer, whatever is answered: a read, a write, other top bits; a read of a name starts another.
  pub ends : (Runs h.transfer → AsksSegment f.bytes → ⊥) → ((k : ℕ) → Reads f.bytes → AsksName k f.bytes → ⊥)
      → (step h (receive f)).transfer ≡ over
  -- The client's abort ends the transfer without a reply.
  pub client : ClientAborts f.bytes → step h (receive f) ≡ with_transfer h over

pub record Transfers : Type 0 where
  -- with no transfer running at power-up
  pub starts : (p : PowerUp) → (powered p).transfer ≡ over
  pub requests : (h : Head) → Reachable h → (f : Received) → Requests h f → InTransfer h f
  -- A reset and entering Stopped end it;
  pub resets : (h : Head) → Reachable h → (f : Received) (r : Reset) → Commands h f (to_reset r) → (step h (receive f)).transfer ≡ over
  -- (A reply withdrawn by Stopped goes with its transfer.)
  pub stops : (h : Head) → Reachable h → (f : Received) → Commands h f (to_enter stopped) → (step h (receive f)).transfer ≡ over
  -- entering Pre-operational from Operational does not, nor does any other call that is no service request.
  pub stays : (h : Head) → Reachable h → (c : Call) → Between (node h.core) c → (step h c).transfer ≡ h.transfer
  pub between : (n : ℕ) (c : Call) → Besides n c → Between n c
  -- So a transfer is of one of the three names, some of it is still to be sent, and it runs in Pre-operational or Operational only.
  pub running : (h : Head) → Reachable h → Runs h.transfer
      → (h.transfer.name ≤ 3) × (7 * h.transfer.segments < (its h h.transfer.name).length) × (is_live h.core ≡ true)
