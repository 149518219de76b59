-- Demand 3, first sentence, and what a slot answers: for every head that comes
-- from power-up, and every list of calls. 01, chapter "The waiting line".
use Rattle.std.specs.Prelude.{ℕ, ◌+◌, ◌<◌, ◌≤◌, ◌≡◌, ◌⊎◌, ◌↔◌, Bool, true, false, List, [], ◌∷◌, ◌++◌}
use Rattle.std.specs.Bool.{beq}
use Rattle.can.specs.declared.Frame.{Frame}
use Rattle.dictionary.specs.Accepted.{on}
use Rattle.waiting.specs.Line.{places, has, Kinds, first}
use Rattle.waiting.specs.Places.{waiting}
use Rattle.waiting.specs.Laws.{Among}
use Rattle.parts.specs.declared.Head.{Head}
use Rattle.promises.specs.States.{operational, is_in, is_initialising, is_live, node, communication, good, one, two, pdo}
use Rattle.promises.specs.Timers.{OnEvents}
use Rattle.promises.specs.WaitingLine.{Kind, emergency, sdo_reply, heartbeat, tpdo, number, boot_up_frame, frame_of}
use Rattle.promises.specs.Calls.{Call, slot, step, no_frame, slot_answer, is_frame, frame_in}
use Rattle.promises.specs.Valid.{waits}
use Rattle.promises.specs.Histories.{after, slots, Reachable}
use Rattle.promises.specs.Withdrawals.{Withdrawal}

-- A slot sends the first: the call is a slot, k is the first that waits, and the slot answers k's frame.
pub record Sends (h : Head) (c : Call) (k : Kind) : Type 0 where
  pub is_slot_law : c ≡ slot
  pub is_first : first (waiting h.line) ≡ number k
  pub waited : is_frame (slot_answer h) ≡ true
  pub answer : frame_in (slot_answer h) ≡ frame_of h.core k

-- k waits in the head, and after each of the calls
abbrev pub WaitsThrough : Head → List Call → Kind → Type 0
WaitsThrough h [] k = waits h k ≡ true
WaitsThrough h (c ∷ cs) k = (waits h k ≡ true) × WaitsThrough (step h c) cs k

-- One of the calls cs, with fewer than b slots before it, sends k or withdraws k. Until then k waits, so that the same frame leaves;
-- after it k no longer waits.
pub record LeavesBy (b : ℕ) (h : Head) (cs : List Call) (k : Kind) : Type 0 where
  pub before : List Call
  pub call : Call
  pub rest : List Call
  pub split : cs ≡ before ++ call ∷ rest
  pub early : slots before < b
  pub until : WaitsThrough h before k
  pub how : Sends (after h before) call k ⊎ Withdrawal (after h before) call k
  pub gone : waits (step (after h before) call) k ≡ false

-- A kind joins at the end; one that waits already keeps its place. Several joining in one call join in the order just given.
pub record Lined (h : Head) (c : Call) : Type 0 where
  pub stayed : List ℕ
  pub joined : List ℕ
  pub line : waiting (step h c).line ≡ stayed ++ joined
  pub in_places : Among stayed (waiting h.line)
  pub in_order : Among joined (number emergency ∷ number sdo_reply ∷ number heartbeat ∷ number (tpdo one) ∷ number (tpdo two) ∷ [])
  pub keeps : (k : Kind) → waits h k ≡ true → waits (step h c) k ≡ true → has (number k) stayed ≡ true

-- slot (answers one frame, or none exactly if none waits): the boot-up frame in Initialising, else the frame of the first that waits.
pub data Answered (h : Head) : Bool → Frame → Type 0 where
  boot_up : is_initialising h.core ≡ true → waiting h.line ≡ [] → Answered h true (boot_up_frame h.core)
  kind : (k : Kind) → is_initialising h.core ≡ false → first (waiting h.line) ≡ number k → Answered h true (frame_of h.core k)
  none : is_initialising h.core ≡ false → waiting h.line ≡ [] → Answered h false no_frame

-- a frame of one byte
abbrev pub one_byte : ℕ → ℕ → Frame
one_byte i b = record { identifier = i; length = 1; bytes = b ∷ 0 ∷ 0 ∷ 0 ∷ 0 ∷ 0 ∷ 0 ∷ 0 ∷ [] }

-- The head is in Initialising, no kind waits, and a slot answers the boot-up frame of node n (700h+N, one byte 00h).
pub record BootUpWaits (n : ℕ) (h : Head) : Type 0 where
  pub initialising : is_initialising h.core ≡ true
  pub only : (k : Kind) → waits h k ≡ false
  pub waited : is_frame (slot_answer h) ≡ true
  pub answer : frame_in (slot_answer h) ≡ one_byte (0x700 + n) 0x00

-- 01's condition for a kind: it waits only while this holds.
abbrev pub May : Head → Kind → Type 0
-- Emergency: .. (and it waits exactly then: `waits_exactly` of specs/Gap.antt)
May h emergency =
    let c = h.core in
    (is_live c ≡ true) × (on (communication c).emergency ≡ true) × (c.timers.inhibit ≡ 0) × (beq (good c) c.announced ≡ false)
-- Service requests: .. Pre-operational or Operational
May h sdo_reply = is_live h.core ≡ true
-- Heartbeat: .. if H > 0; in Initialising only the boot-up frame waits
May h heartbeat = (is_initialising h.core ≡ false) × (0 < (communication h.core).heartbeat)
-- TPDO: only when Operational, switched on (bit 31 of sub 1 is 0) and, for types 254 and 255, the reading is good
May h (tpdo w) =
    let c = h.core in
    let p = pdo (communication c) w in
    (is_in operational c ≡ true) × (on p.identifier ≡ true) × (OnEvents p → good c ≡ true)

pub record FiveSlots : Type 0 where
  -- A kind waits exactly if it stands in the line.
  pub stands : (h : Head) (k : Kind) → (waits h k ≡ true) ↔ ((a : List ℕ) × (b : List ℕ) × (waiting h.line ≡ a ++ number k ∷ b))
  -- A frame that begins to wait leaves by the fifth slot after that, no matter what is called between, unless a withdrawal takes it first.
  -- (For every head in which k waits, whenever it began: so also for the head after the call that makes it wait.)
  pub by_the_fifth : (h : Head) → Reachable h → (cs : List Call) (k : Kind) → waits h k ≡ true → 5 ≤ slots cs → LeavesBy 5 h cs k
  -- Withdrawals, and no others: what waited and no longer waits was sent, or one of the list took it.
  pub only_so : (h : Head) → Reachable h → (c : Call) (k : Kind) → waits h k ≡ true → waits (step h c) k ≡ false
      → Sends h c k ⊎ Withdrawal h c k
  -- What a withdrawal takes no longer waits and does not join again in the same call. The same holds for what is sent.
  pub withdrawn : (h : Head) → Reachable h → (c : Call) (k : Kind) → Withdrawal h c k → waits (step h c) k ≡ false
  pub sent : (h : Head) → Reachable h → (c : Call) (k : Kind) → Sends h c k → waits (step h c) k ≡ false
  -- Five kinds can wait: ..; each at most once; and each only under 01's condition for it.
  pub once : (h : Head) → Reachable h → Kinds places (waiting h.line)
  pub only_while : (h : Head) → Reachable h → (k : Kind) → waits h k ≡ true → May h k
  -- (Each kind has its own number in the line; 0 is no kind's.)
  pub numbered : (j k : Kind) → number j ≡ number k → j ≡ k
  pub not_0 : (k : Kind) → 0 < number k
  pub lines_up : (h : Head) → Reachable h → (c : Call) → Lined h c
  -- In Initialising .. only the boot-up frame .. waits: until the next slot, whatever is called before it, and that slot answers it.
  pub boots : (h : Head) → Reachable h → is_initialising h.core ≡ true → (cs : List Call) → slots cs ≡ 0
      → BootUpWaits (node h.core) (after h cs)
  pub answers : (h : Head) → Reachable h → Answered h (is_frame (slot_answer h)) (frame_in (slot_answer h))
  -- none exactly if none waits: neither the boot-up frame nor a kind
  pub none_exactly : (h : Head) → Reachable h
      → (is_frame (slot_answer h) ≡ false) ↔ ((is_initialising h.core ≡ false) × ((k : Kind) → waits h k ≡ false))
