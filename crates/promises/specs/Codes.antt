-- The state code after any list of calls, computed from the calls, and the frames
-- that carry it: 01, chapters "States" and "The waiting line", in their own numbers.
use Rattle.std.specs.Prelude.{ℕ, ◌+◌, eqb, ◌≡◌, ◌⊎◌, ◌↔◌, Bool, true, false, ◌||◌, cond, List, [], ◌∷◌}
use Rattle.cases.specs.Cases.{first_of}
use Rattle.can.specs.declared.Received.{Received}
use Rattle.waiting.specs.Line.{first}
use Rattle.waiting.specs.Places.{waiting}
use Rattle.parts.specs.declared.Core.{Core}
use Rattle.parts.specs.declared.Head.{Head}
use Rattle.promises.specs.States.{operational, stopped, pre_operational, is_in, is_initialising, is_live, of_node}
use Rattle.promises.specs.States.{of_communication, PdoNumber, Command, to_enter, to_reset}
use Rattle.promises.specs.WaitingLine.{Kind, sdo_reply, heartbeat, tpdo, number}
use Rattle.promises.specs.Calls.{Call, receive, tick, sample, slot, slot_answer, is_frame, frame_in}
use Rattle.promises.specs.Valid.{waits}
use Rattle.promises.specs.Meant.{Commands, Requests}
use Rattle.promises.specs.Histories.{after, PowerUp, powered}
use Rattle.promises.specs.Service.{reply_frame}
use Rattle.promises.specs.Parameters.{parameters, Reads}
use Rattle.promises.specs.FiveSlots.{one_byte}
use Rattle.promises.specs.Gap.{node_of, is_command}

-- an NMT command to node n whose first byte is b
abbrev pub says : ℕ → ℕ → Call → Bool
says n b c = is_command n (λ x. eqb x b) c

-- The state's code after a call, `present` before it: Stopped 04h, Operational 05h, Pre-operational 7Fh; 00h is Initialising.
abbrev pub code_by : ℕ → ℕ → Call → ℕ
-- In Initialising frames have no effect. 01h Operational, 02h Stopped, 80h
-- Pre-operational, 81h reset node, 82h reset communication; others have no effect.
code_by n present (receive f) =
    cond (eqb present 0x00) 0x00
    (first_of (
    (says n 0x01 (receive f), 0x05) ∷
    (says n 0x02 (receive f), 0x04) ∷
    (says n 0x80 (receive f), 0x7F) ∷
    (says n 0x81 (receive f), 0x00) ∷
    (says n 0x82 (receive f), 0x00) ∷ [])
    present)
code_by n present tick = present
code_by n present (sample s) = present
-- The slot that sends the boot-up frame enters Pre-operational.
code_by n present slot = cond (eqb present 0x00) 0x7F present

abbrev pub code_from : ℕ → ℕ → List Call → ℕ
code_from n present [] = present
code_from n present (c ∷ cs) = code_from n (code_by n present c) cs

-- Power-up .. starts in Initialising
abbrev pub code_after : ℕ → List Call → ℕ
code_after n cs = code_from n 0x00 cs

-- The state that a head is in depends on this code and on nothing else: where 01 names a state, it is the one that the calls entered.
pub record InState (c : Core) (code : ℕ) : Type 0 where
  pub is_initialising_law : is_initialising c ≡ eqb code 0x00
  pub is_stopped : is_in stopped c ≡ eqb code 0x04
  pub is_operational_law : is_in operational c ≡ eqb code 0x05
  pub is_pre_operational : is_in pre_operational c ≡ eqb code 0x7F
  -- Pre-operational or Operational
  pub is_live_law : is_live c ≡ (eqb code 0x7F || eqb code 0x05)

-- 01h Operational, 02h Stopped, 80h Pre-operational, 81h reset node, 82h reset communication
abbrev pub command_bytes : List (ℕ × Command)
command_bytes =
    (0x01, to_enter operational) ∷ (0x02, to_enter stopped) ∷ (0x80, to_enter pre_operational) ∷ (0x81, to_reset of_node)
    ∷ (0x82, to_reset of_communication) ∷ []

-- a property of each element of a list
abbrev pub All : {A : Type 0} → (A → Type 0) → List A → Type 0
All P [] = Unit {0}
All P (x ∷ xs) = P x × All P xs

-- A command with this first byte, to a node that has booted, is this command.
abbrev pub IsSaid : ℕ × Command → Type 0
IsSaid x =
    (p : PowerUp) (cs : List Call) (f : Received) → let h = after (powered p) cs in
    is_initialising h.core ≡ false → says (node_of p) x.0 (receive f) ≡ true → Commands h f x.1

-- A service request to node n in the state with this code: identifier 600h+N, data, length 8, Pre-operational or Operational.
pub record Asks (n present : ℕ) (f : Received) : Type 0 where
  pub of_11_bits : f.extended ≡ false
  pub is_data : f.remote ≡ false
  pub identifier : f.identifier ≡ 0x600 + n
  pub length : f.length ≡ 8
  pub state : (present ≡ 0x7F) ⊎ (present ≡ 0x05)

-- The kind k is the first of the line.
abbrev pub IsFirst : Kind → Head → Type 0
IsFirst k h = first (waiting h.line) ≡ number k

pub record Codes : Type 0 where
  pub codes : (p : PowerUp) (cs : List Call) → (after (powered p) cs).core.nmt.code ≡ code_after (node_of p) cs
  pub in_state : (p : PowerUp) (cs : List Call) → InState (after (powered p) cs).core (code_after (node_of p) cs)
  pub said : All IsSaid command_bytes
  -- Exactly such a service request is served, and only while no reply waits.
  pub requests : (p : PowerUp) (cs : List Call) (f : Received) → let h = after (powered p) cs in
      Requests h f ↔ (Asks (node_of p) (code_after (node_of p) cs) f × (waits h sdo_reply ≡ false))
  -- Heartbeat: 700h+N, one byte, the state code.
  pub beats : (p : PowerUp) (cs : List Call) → let h = after (powered p) cs in IsFirst heartbeat h
      → (is_frame (slot_answer h) ≡ true) × (frame_in (slot_answer h) ≡ one_byte (0x700 + node_of p) (code_after (node_of p) cs))
  -- Reply: 580h+N, 8 bytes: those that wait (`exactly` of specs/Service.antt)
  pub replies : (p : PowerUp) (cs : List Call) → let h = after (powered p) cs in IsFirst sdo_reply h
      → (is_frame (slot_answer h) ≡ true) × (frame_in (slot_answer h) ≡ reply_frame (node_of p) h.core.reply)
  -- TPDO: 4 bytes; the identifier is that of its own sub 1
  pub shows : (p : PowerUp) (cs : List Call) (w : PdoNumber) → let h = after (powered p) cs in IsFirst (tpdo w) h
      → (is_frame (slot_answer h) ≡ true) × ((frame_in (slot_answer h)).length ≡ 4)
      × Reads h (parameters w) 1 (frame_in (slot_answer h)).identifier
