-- Which frames are meant for the head, and which are not: 01, chapters "States", "The waiting line" (SYNC) and "Service requests".
use Rattle.std.specs.Prelude.{ℕ, ◌+◌, ◌<◌, ◌≤◌, ◌≡◌, true, false, ◌||◌}
use Rattle.can.specs.declared.Received.{Received}
use Rattle.can.specs.Frame.{refusal_of}
use Rattle.names.specs.Transfer.{no_transfer}
use Rattle.sdo.specs.Request.{aborting}
use Rattle.sdo.specs.Service.{Due, confirmation}
use Rattle.sdo.specs.Upload.{due_in}
use Rattle.parts.specs.declared.Head.{Head}
use Rattle.promises.specs.States.{CommandedState, operational, is_in, is_initialising, is_live, node, Reset}
use Rattle.promises.specs.States.{Command, no_command, to_enter, to_reset, command, byte_of, command_of}
use Rattle.promises.specs.WaitingLine.{sdo_reply}
use Rattle.promises.specs.Valid.{waits}

-- A frame that is not refused: a data frame with an 11-bit identifier, to a head that is not Initialising.
pub record Heard (h : Head) (f : Received) : Type 0 where
  pub unrefused : refusal_of f ≡ 0
  pub heard : (f.extended || f.remote || is_initialising h.core) ≡ false

-- NMT command: identifier 000h, data, length 2, second byte 0 or N; it says k to this head.
pub record Commands (h : Head) (f : Received) (k : Command) : Type 0 where
  pub hears : Heard h f
  pub identifier : f.identifier ≡ 0x000
  pub says : command_of (node h.core) f ≡ k

-- A service request that is served: identifier 600h+N, data, length 8, Pre-operational or Operational, and no reply waits.
pub record Requests (h : Head) (f : Received) : Type 0 where
  pub hears : Heard h f
  pub identifier : f.identifier ≡ 0x600 + node h.core
  pub length : f.length ≡ 8
  pub live : is_live h.core ≡ true
  pub free : waits h sdo_reply ≡ false

-- SYNC (080h, data, length 0 or 1, Operational only)
pub record Synchronises (h : Head) (f : Received) : Type 0 where
  pub hears : Heard h f
  pub identifier : f.identifier ≡ 0x080
  pub length : f.length ≤ 1
  pub operational : is_in operational h.core ≡ true

-- The frames that are meant for the head: commands that name another state, resets, SYNC, service requests that get a reply,
-- and the client's abort of a transfer.
pub data MeantFor (h : Head) (f : Received) : Type 0 where
  to_enter_law : (g : CommandedState) → Commands h f (to_enter g) → is_in g h.core ≡ false → MeantFor h f
  to_reset_law : (r : Reset) → Commands h f (to_reset r) → MeantFor h f
  to_synchronise : Synchronises h f → MeantFor h f
  to_serve : Requests h f → aborting f.bytes ≡ false → MeantFor h f
  -- The client's abort ends the transfer without a reply.
  to_end : Requests h f → aborting f.bytes ≡ true → (h.transfer ≡ no_transfer → ⊥) → MeantFor h f

-- Why a frame is not meant for the head.
pub data NotMeant (h : Head) (f : Received) : Type 0 where
  -- Out: remote frames, 29-bit identifiers
  remote : f.remote ≡ true → NotMeant h f
  of_29_bits : f.extended ≡ true → NotMeant h f
  -- In Initialising frames have no effect
  not_booted : is_initialising h.core ≡ true → NotMeant h f
  other_identifier : (f.identifier ≡ 0x000 → ⊥) → (f.identifier ≡ 0x080 → ⊥) → (f.identifier ≡ 0x600 + node h.core → ⊥) → NotMeant h f
  -- NMT command: identifier 000h, data, length 2,
  command_length : f.identifier ≡ 0x000 → (f.length ≡ 2 → ⊥) → NotMeant h f
  -- second byte 0 or N.
  other_node : f.identifier ≡ 0x000 → (byte_of f 1 ≡ 0 → ⊥) → (byte_of f 1 ≡ node h.core → ⊥) → NotMeant h f
  -- others have no effect,
  other_command : f.identifier ≡ 0x000 → command (byte_of f 0) ≡ no_command → NotMeant h f
  -- nor does a command naming the present state
  state_held : (g : CommandedState) → f.identifier ≡ 0x000 → command (byte_of f 0) ≡ to_enter g → is_in g h.core ≡ true → NotMeant h f
  -- SYNC (080h, data, length 0 or 1, Operational only)
  sync_length : f.identifier ≡ 0x080 → 1 < f.length → NotMeant h f
  sync_state : f.identifier ≡ 0x080 → is_in operational h.core ≡ false → NotMeant h f
  -- Identifier 600h+N, data, length 8, Pre-operational or Operational; otherwise no effect.
  request_length : f.identifier ≡ 0x600 + node h.core → (f.length ≡ 8 → ⊥) → NotMeant h f
  request_state : f.identifier ≡ 0x600 + node h.core → is_live h.core ≡ false → NotMeant h f
  -- While a reply waits, a further request has no effect.
  reply_waits : f.identifier ≡ 0x600 + node h.core → waits h sdo_reply ≡ true → NotMeant h f
  -- 4 abort (no effect, no reply), while no name is being read
  client_abort : f.identifier ≡ 0x600 + node h.core → aborting f.bytes ≡ true → h.transfer ≡ no_transfer → NotMeant h f

-- what is due to it
abbrev pub due_to : Head → Received → Due
due_to h f = due_in h.core.device (is_in operational h.core) h.transfer f.bytes

-- A write of v to the entry of key k that is accepted.
pub record Writes (h : Head) (f : Received) (k v : ℕ) : Type 0 where
  pub requests : Requests h f
  pub accepted : due_to h f ≡ confirmation k v
