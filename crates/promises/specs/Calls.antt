-- The calls, what each means to a head in its state, and what it answers: 01, chapters "The head and its neighbours"
-- and "Refusal numbers", with the conditions of "States", "The waiting line" (SYNC) and "Service requests".
use Rattle.std.specs.Prelude.{ℕ, ◌+◌, eqb, leb, ltb, Bool, true, false, not, ◌&&◌, ◌||◌, cond, [], ◌∷◌, map}
use Rattle.std.proofs.Math.Option.{Option, none, some}
use Rattle.cases.specs.Cases.{first_of}
use Rattle.cases.specs.Tests.{within}
use Rattle.can.specs.declared.Frame.{Frame}
use Rattle.can.specs.declared.Received.{Received}
use Rattle.can.specs.Frame.{refusal_of}
use Rattle.position.specs.Profile.{highest_raw}
use Rattle.names.specs.declared.Transfer.{Transfer}
use Rattle.names.specs.Name.{unknown}
use Rattle.names.specs.Transfer.{no_transfer}
use Rattle.entries.specs.declared.Identity.{Identity}
use Rattle.entries.specs.Identity.{has_names}
use Rattle.sdo.specs.declared.reply.Served.{Served}
use Rattle.sdo.specs.Reply.{replies}
use Rattle.sdo.specs.Service.{answer}
use Rattle.sdo.specs.Upload.{due_in}
use Rattle.waiting.specs.Line as line
use Rattle.waiting.specs.Line.{has, first}
use Rattle.parts.specs.declared.Core.{Core}
use Rattle.parts.specs.declared.Head.{Head}
use Rattle.parts.specs.declared.Answer.{Answer}
use Rattle.parts.specs.declared.Sensor.{Sensor}
use Rattle.parts.specs.declared.Sensor.TheVariants.{Missing, Raw}
use Rattle.parts.specs.Put.{with_transfer}
use Rattle.promises.specs.States.{operational, stopped, pre_operational, is_in, is_initialising, is_live, node, started}
use Rattle.promises.specs.States.{Command, no_command, to_enter, to_reset, command_of}
use Rattle.promises.specs.WaitingLine.{kinds, number, frame}
use Rattle.promises.specs.Acts.{Act, nothing, enter, reset, boot, idle, send, take, lose, time, sync, serve, act, frame_by}

-- Calls, after power-up: frame received, tick (1 ms), sample (a raw position or "missing"), slot.
pub data Call : Type 0 where
  receive : Received → Call
  tick : Call
  sample : Sensor → Call
  slot : Call

abbrev pub is_slot : Call → Bool
is_slot (receive f) = false
is_slot tick = false
is_slot (sample s) = false
is_slot slot = true

-- others have no effect, nor does a command naming the present state
abbrev pub commanded : Core → Command → Act
commanded c no_command = nothing
commanded c (to_enter g) = cond (is_in g c) nothing (enter g)
commanded c (to_reset r) = reset r

-- SYNC (080h, data, length 0 or 1, Operational only)
abbrev pub synchronised : Core → ℕ → Act
synchronised c length = cond (leb length 1 && is_in operational c) sync nothing

-- 4 abort (no reply, and no effect but on a transfer)
abbrev pub served : Served → Act
served s = cond (replies s.effect) (serve s) nothing

-- Identifier 600h+N, data, length 8, Pre-operational or Operational; otherwise no
-- effect. While a reply waits, a further request has no effect.
abbrev pub is_served : Head → Received → Bool
is_served h f = eqb f.length 8 && is_live h.core && not (has line.sdo_reply h.line)

abbrev pub requested : Head → Received → Act
requested h f =
    let c = h.core in
    cond (is_served h f) (served (answer f.bytes (due_in c.device (is_in operational c) h.transfer f.bytes))) nothing

-- A frame neither refused nor meant for the head changes nothing.
abbrev pub heard_unrefused : Head → Received → Act
heard_unrefused h f =
    let c = h.core in
    first_of (
    -- Out: remote frames, 29-bit identifiers. In Initialising frames have no effect.
    (f.extended || f.remote || is_initialising c, nothing) ∷
    (eqb f.identifier 0x000, commanded c (command_of (node c) f)) ∷
    (eqb f.identifier 0x080, synchronised c f.length) ∷
    (eqb f.identifier (0x600 + node c), requested h f) ∷ [])
    nothing

abbrev pub heard : Head → Received → Act
heard h f = cond (eqb (refusal_of f) 0) (heard_unrefused h f) nothing

-- a frame that is not refused, and a service request that is served
abbrev pub is_heard : Head → Received → Bool
is_heard h f = eqb (refusal_of f) 0 && not (f.extended || f.remote || is_initialising h.core)

abbrev pub is_asked : Head → Received → Bool
is_asked h f = is_heard h f && eqb f.identifier (0x600 + node h.core) && is_served h f

-- In Initialising timers stand.
abbrev pub timed : Core → Act
timed c = cond (is_initialising c) nothing time

-- raw sample above 1,048,575
abbrev pub bad_sample : Sensor → Bool
bad_sample Missing = false
bad_sample (Raw r) = ltb highest_raw r

-- In Initialising .. samples are taken, as in every state.
abbrev pub sampled_as : Sensor → Act
sampled_as Missing = lose
sampled_as (Raw r) = cond (bad_sample (Raw r)) nothing (take r)

-- A slot sends the first. k is the first number in the line: a kind's, or 0 for none.
abbrev pub sent_as : ℕ → Act
sent_as k = first_of (map (λ kind. (eqb k (number kind), send kind)) kinds) idle

-- The slot that sends the boot-up frame enters Pre-operational.
abbrev pub sent_by : Core → ℕ → Act
sent_by c k = cond (is_initialising c) boot (sent_as k)

-- What a call means.
abbrev pub meant : Head → Call → Act
meant h (receive f) = heard h f
meant h tick = timed h.core
meant h (sample s) = sampled_as s
meant h slot = sent_by h.core (first h.line)

-- A reset and entering Stopped end a running transfer.
abbrev pub ends_transfer : Act → Bool
ends_transfer (reset r) = true
ends_transfer (enter stopped) = true
ends_transfer (enter operational) = false
ends_transfer (enter pre_operational) = false
ends_transfer nothing = false
ends_transfer boot = false
ends_transfer idle = false
ends_transfer (send k) = false
ends_transfer (take r) = false
ends_transfer lose = false
ends_transfer time = false
ends_transfer sync = false
ends_transfer (serve s) = false

-- The transfer after a call. A request that is served leaves the one that its answer says; the client's abort has no other effect.
abbrev pub transfer_after : Head → Call → Transfer
transfer_after h (receive f) =
    let c = h.core in
    cond (is_asked h f) (answer f.bytes (due_in c.device (is_in operational c) h.transfer f.bytes)).transfer
    (cond (ends_transfer (meant h (receive f))) no_transfer h.transfer)
transfer_after h tick = h.transfer
transfer_after h (sample s) = h.transfer
transfer_after h slot = h.transfer

-- The head after a call.
abbrev pub step : Head → Call → Head
step h c = with_transfer (act (is_slot c) h (meant h c)) (transfer_after h c)

abbrev pub answered : ℕ → Head → Answer
answered n h = record { refusal = n; head = h }

abbrev pub no_identity : Identity
no_identity =
    record { vendor = 0; product = 0; revision = 0; serial = 0; name = unknown; hardware = unknown; software = unknown }

-- the number, and a head of node 1 with identity numbers 0 and "?" for each name
abbrev pub refused_with : ℕ → Answer
refused_with n = answered n (started 1 no_identity)

-- 4: node number at power-up not 1..127; then 5: a name length out of range
abbrev pub powered_up : ℕ → Identity → Answer
powered_up n i = first_of ((not (within 1 127 n), refused_with 4) ∷ (not (has_names i), refused_with 5) ∷ []) (answered 0 (started n i))

-- The number that a call answers, 0 for no refusal: 1 and 2 for a frame, 3 for a raw sample above 1,048,575.
abbrev pub refusal_by : Call → ℕ
refusal_by (receive f) = refusal_of f
refusal_by tick = 0
refusal_by (sample s) = cond (bad_sample s) 3 0
refusal_by slot = 0

-- slot (answers one frame, or none exactly if none waits)
abbrev pub slot_answer : Head → Option Frame
slot_answer h = frame_by h.core (meant h slot)

abbrev pub no_frame : Frame
no_frame = frame 0 0 []

-- one frame, or none
abbrev pub is_frame : Option Frame → Bool
is_frame none = false
is_frame (some f) = true

abbrev pub frame_in : Option Frame → Frame
frame_in none = no_frame
frame_in (some f) = f

-- the answer of a slot and the head: a frame that is all 0 if none waited
pub record SlotAnswer : Type 0 where
  pub waited : Bool
  pub frame : Frame
  pub head : Head

abbrev pub sent_with : Option Frame → Head → SlotAnswer
sent_with f h = record { waited = is_frame f; frame = frame_in f; head = h }
