-- Demand 2 for service requests: each request that is served gets the reply
-- due to it, over any sequence of calls. 01, chapter "Service requests".
use Rattle.std.specs.Prelude.{ℕ, ◌+◌, ◌≤◌, eqb, ◌≡◌, ◌↔◌, Bool, true, false, not, ◌&&◌, cond, List, [], ◌∷◌, ◌++◌}
use Rattle.std.proofs.Math.Option.{Option, none, some}
use Rattle.cases.specs.Cases.{first_of}
use Rattle.can.specs.declared.Frame.{Frame}
use Rattle.can.specs.declared.Received.{Received}
use Rattle.sdo.specs.declared.reply.Served.{Served}
use Rattle.sdo.specs.Request.{aborting}
use Rattle.sdo.specs.Reply.{carried_out}
use Rattle.sdo.specs.Service.{Due, value, confirmation, abort, upload, answer}
use Rattle.waiting.specs.Places.{waiting}
use Rattle.parts.specs.declared.Head.{Head}
use Rattle.promises.specs.States.{operational, stopped, pre_operational, is_live}
use Rattle.promises.specs.States.{node, Command, no_command, to_enter, to_reset, command_of}
use Rattle.promises.specs.WaitingLine.{sdo_reply, number}
use Rattle.promises.specs.Calls.{Call, receive, tick, sample, slot, is_heard, step, slot_answer, is_frame, frame_in}
use Rattle.promises.specs.Valid.{waits}
use Rattle.promises.specs.Meant.{Requests, due_to}
use Rattle.promises.specs.Histories.{after, sent, PowerUp, powered}

-- the reply due to a request, and what it does
abbrev pub reply_due : Head → Received → Served
reply_due h f = answer f.bytes (due_to h f)

-- What is due is the reply that joins: it waits, behind all others. Its bytes
-- are the ones due, and the request did to the device what was due.
pub record Replied (h : Head) (f : Received) (then : Head) : Type 0 where
  pub ahead : List ℕ
  pub joins : waiting then.line ≡ ahead ++ number sdo_reply ∷ []
  pub bytes : then.core.reply ≡ (reply_due h f).bytes
  pub device : then.core.device ≡ carried_out h.core.device (reply_due h f).effect
  pub transfer : then.transfer ≡ (reply_due h f).transfer

-- `Requests` as a test; 4 abort (no reply): every other request is answered.
abbrev pub is_request : Head → Received → Bool
is_request h f =
    is_heard h f
    && eqb f.identifier (0x600 + node h.core)
    && eqb f.length 8
    && is_live h.core
    && not (waits h sdo_reply)

abbrev pub is_answered : Head → Received → Bool
is_answered h f = is_request h f && not (aborting f.bytes)

-- the confirmation of a write whose key and value pass a test
abbrev pub confirms : (ℕ → ℕ → Bool) → Due → Bool
confirms t Due.none = false
confirms t (value w n) = false
confirms t (confirmation k v) = t k v
confirms t (abort code) = false
confirms t (upload b u) = false

-- Reply: 580h+N, 8 bytes
abbrev pub reply_frame : ℕ → List ℕ → Frame
reply_frame n bytes = record { identifier = 0x580 + n; length = 8; bytes = bytes }

-- the slot answers a frame 580h+N
abbrev pub sends_reply : Head → Bool
sends_reply h = is_frame (slot_answer h) && eqb (frame_in (slot_answer h)).identifier (0x580 + node h.core)

-- Withdrawals: a reset takes all; entering Stopped takes all but the heartbeat. The command takes the reply.
abbrev pub takes_reply : Command → Bool
takes_reply no_command = false
takes_reply (to_enter operational) = false
takes_reply (to_enter stopped) = true
takes_reply (to_enter pre_operational) = false
takes_reply (to_reset r) = true

abbrev pub withdraws_reply : Head → Received → Bool
withdraws_reply h f = is_heard h f && eqb f.identifier 0x000 && takes_reply (command_of (node h.core) f)

-- The bytes due to the last request that was answered; none before the first,
-- none once a slot has sent them or a withdrawal has taken them.
abbrev pub owed_by : Head → Option (List ℕ) → Call → Option (List ℕ)
owed_by h o (receive f) = first_of ((is_answered h f, some (reply_due h f).bytes) ∷ (withdraws_reply h f, none) ∷ []) o
owed_by h o tick = o
owed_by h o (sample s) = o
owed_by h o slot = cond (sends_reply h) none o

abbrev pub owed : Head → Option (List ℕ) → List Call → Option (List ℕ)
owed h o [] = o
owed h o (c ∷ cs) = owed (step h c) (owed_by h o c) cs

-- the bytes of the reply that waits
abbrev pub pending : Head → Option (List ℕ)
pending h = cond (waits h sdo_reply) (some h.core.reply) none

-- how many requests are answered, and how many replies of node n are among the frames
abbrev pub answers_by : Head → Call → Bool
answers_by h (receive f) = is_answered h f
answers_by h tick = false
answers_by h (sample s) = false
answers_by h slot = false

abbrev pub answered_in : Head → List Call → ℕ
answered_in h [] = 0
answered_in h (c ∷ cs) = cond (answers_by h c) 1 0 + answered_in (step h c) cs

abbrev pub replies_in : ℕ → List Frame → ℕ
replies_in n [] = 0
replies_in n (f ∷ fs) = cond (eqb f.identifier (0x580 + n)) 1 0 + replies_in n fs

-- For every reachable head.
pub record Serves (h : Head) : Type 0 where
  pub is_request_law : (f : Received) → (is_request h f ≡ true) ↔ Requests h f
  -- First that applies
  pub gets_what_is_due : (f : Received) → Requests h f → aborting f.bytes ≡ false → Replied h f (step h (receive f))
  -- While a reply waits, a further request has no effect.
  pub busy : (f : Received) → f.identifier ≡ 0x600 + node h.core → waits h sdo_reply ≡ true → step h (receive f) ≡ h

-- For every sequence of calls from power-up.
pub record Answers (p : PowerUp) (cs : List Call) : Type 0 where
  -- a reply waits exactly while it is owed, and with these bytes
  pub exactly : pending (after (powered p) cs) ≡ owed (powered p) none cs
  -- no other request is answered before the reply has gone
  pub alone : (b : List ℕ) → owed (powered p) none cs ≡ some b → (f : Received) → is_answered (after (powered p) cs) f ≡ false
  -- and what a slot sends as a reply is what is owed
  pub sends : let h = after (powered p) cs in sends_reply h ≡ true
      → (b : List ℕ) × (owed (powered p) none cs ≡ some b) × (frame_in (slot_answer h) ≡ reply_frame (node (powered p).core) b)
  -- to each request at most one reply
  pub at_most_one : replies_in (node (powered p).core) (sent (powered p) cs) ≤ answered_in (powered p) cs
