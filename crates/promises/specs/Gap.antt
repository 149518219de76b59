-- "A gap has to arrive as a gap": the head reports a missing reading, and no position frame joins meanwhile. Demand 3, second
-- sentence, and the emergency of 01's chapter "The waiting line", over every list of calls. Frames are recognised by
-- identifier, length and bytes. The third sentence is in specs/SyncFrames.antt.
use Rattle.std.specs.Prelude.{ℕ, suc, ◌+◌, ◌-◌, ◌*◌, ◌<◌, ◌≤◌, eqb, leb, get_or, ◌≡◌, Bool, true, false, not, ◌&&◌, ◌||◌, cond, List, [], ◌∷◌, ◌++◌}
use Rattle.std.specs.Bool.{beq}
use Rattle.std.proofs.Math.Option.{Option, none, some}
use Rattle.can.specs.declared.Frame.{Frame}
use Rattle.cases.specs.Tests.{within}
use Rattle.entries.specs.declared.Identity.{Identity}
use Rattle.dictionary.specs.Accepted.{on}
use Rattle.parts.specs.declared.Head.{Head}
use Rattle.parts.specs.declared.Sensor.TheVariants.{Missing, Raw}
use Rattle.promises.specs.States.{pre_operational, operational, is_in, is_initialising, is_live, node, communication, good, one, two}
use Rattle.promises.specs.WaitingLine.{Kind, emergency, sdo_reply, heartbeat, tpdo, boot_up_frame, frame_of}
use Rattle.promises.specs.Timers.{inhibit_ticks}
use Rattle.promises.specs.Calls.{Call, receive, tick, sample, slot, step}
use Rattle.promises.specs.Valid.{waits}
use Rattle.promises.specs.Histories.{after, slots, frames, sent, PowerUp, powered}

-- strings of 1 to 32 bytes
abbrev pub names_fit : Identity → Bool
names_fit i = within 1 32 i.name.length && within 1 32 i.hardware.length && within 1 32 i.software.length

-- Power-up is not refused.
abbrev pub is_taken : PowerUp → Bool
is_taken p = within 1 127 p.number && names_fit p.identity

-- The node number N of power-up; a power-up that is refused leaves a head of node 1.
abbrev pub node_of : PowerUp → ℕ
node_of p = cond (is_taken p) p.number 1

-- whether one of a list passes a test
abbrev pub among : {A : Type 0} → (A → Bool) → List A → Bool
among t [] = false
among t (x ∷ xs) = t x || among t xs

-- how many of a list pass a test
abbrev pub how_many : {A : Type 0} → (A → Bool) → List A → ℕ
how_many t [] = 0
how_many t (x ∷ xs) = cond (t x) (suc (how_many t xs)) (how_many t xs)

-- the boot-up frame (700h+N, one byte 00h)
abbrev pub is_boot_up : ℕ → Frame → Bool
is_boot_up n f = eqb f.identifier (0x700 + n) && eqb f.length 1 && eqb (get_or f.bytes 0 0) 0x00

-- an emergency frame, whatever it says: 80h+N
abbrev pub is_emergency : ℕ → Frame → Bool
is_emergency n f = eqb f.identifier (0x80 + n)

-- "the last emergency frame sent since boot-up": `last` before the frames, and each boot-up starts again
abbrev pub last_after : ℕ → Option Frame → List Frame → Option Frame
last_after n last [] = last
last_after n last (f ∷ fs) = last_after n (cond (is_boot_up n f) none (cond (is_emergency n f) (some f) last)) fs

abbrev pub last_emergency : ℕ → List Frame → Option Frame
last_emergency n fs = last_after n none fs

-- Frame 80h+N, 8 bytes: 00 50 01 and five zeros for missing (code 5000h), eight zeros for good.
abbrev pub says_missing : ℕ → Frame
says_missing n = record { identifier = 0x80 + n; length = 8; bytes = 0x00 ∷ 0x50 ∷ 0x01 ∷ 0 ∷ 0 ∷ 0 ∷ 0 ∷ 0 ∷ [] }

abbrev pub says_good : ℕ → Frame
says_good n = record { identifier = 0x80 + n; length = 8; bytes = 0 ∷ 0 ∷ 0 ∷ 0 ∷ 0 ∷ 0 ∷ 0 ∷ 0 ∷ [] }

-- What the last emergency frame said, true for good; good if there is none.
pub data Said (n : ℕ) : Option Frame → Bool → Type 0 where
  unsaid : Said n none true
  said_good : Said n (some (says_good n)) true
  said_missing : Said n (some (says_missing n)) false

-- the kind whose frame is an emergency frame, and those whose are position frames: "the last two are the position frames"
abbrev pub alerts : Kind → Bool
alerts emergency = true
alerts sdo_reply = false
alerts heartbeat = false
alerts (tpdo w) = false

abbrev pub shows_position : Kind → Bool
shows_position emergency = false
shows_position sdo_reply = false
shows_position heartbeat = false
shows_position (tpdo w) = true

-- a position frame, by its identifier: 181h..57Fh
abbrev pub is_position : Frame → Bool
is_position f = within 0x181 0x57F f.identifier

-- how many position frames wait
abbrev pub waiting_positions : Head → ℕ
waiting_positions h = cond (waits h (tpdo one)) 1 0 + cond (waits h (tpdo two)) 1 0

-- what the tests say about a frame
pub record Known (n : ℕ) (f : Frame) (boots alerts shows : Bool) : Type 0 where
  pub boot_up : is_boot_up n f ≡ boots
  pub emergency : is_emergency n f ≡ alerts
  pub position : is_position f ≡ shows

-- a good sample; one above 1,048,575 is refused
abbrev pub is_good_sample : Call → Bool
is_good_sample (receive f) = false
is_good_sample tick = false
is_good_sample (sample Missing) = false
is_good_sample (sample (Raw r)) = leb r 1048575
is_good_sample slot = false

-- NMT command: identifier 000h, data, length 2, second byte 0 or N; its first byte passes a test. Out: remote frames, 29-bit identifiers.
abbrev pub is_command : ℕ → (ℕ → Bool) → Call → Bool
is_command n t (receive f) =
    not (f.extended || f.remote)
    && eqb f.identifier 0x000
    && eqb f.length 2
    && (eqb (get_or f.bytes 1 0) 0 || eqb (get_or f.bytes 1 0) n)
    && t (get_or f.bytes 0 0)
is_command n t tick = false
is_command n t (sample s) = false
is_command n t slot = false

-- 81h reset node, 82h reset communication
abbrev pub resets : ℕ → Bool
resets b = eqb b 0x81 || eqb b 0x82

-- 02h Stopped
abbrev pub stops_or_resets : ℕ → Bool
stops_or_resets b = eqb b 0x02 || resets b

-- The ticks that an inhibit time still runs after a call; t before it. Sending the emergency starts it, from 1015h; each tick
-- takes one off; a reset ends it; writing 1015h doesn't alter a running one, nor does any other call.
abbrev pub left_by : ℕ → Head → Call → ℕ → ℕ
left_by n h (receive f) t = cond (is_command n resets (receive f)) 0 t
left_by n h tick t = t - 1
left_by n h (sample s) t = t
left_by n h slot t = cond (among (is_emergency n) (frames h slot)) (inhibit_ticks (communication h.core).inhibit) t

abbrev pub left : ℕ → Head → List Call → ℕ → ℕ
left n h [] t = t
left n h (x ∷ cs) t = left n (step h x) cs (left_by n h x t)

-- emergency messages are off: bit 31 of 1014h is 1
abbrev pub is_off : Head → Bool
is_off h = not (on (communication h.core).emergency)

-- the head, and the heads after each of the calls
abbrev pub heads : Head → List Call → List Head
heads h [] = h ∷ []
heads h (c ∷ cs) = h ∷ heads (step h c) cs

-- "stays missing, .. and with emergency messages on and no stop or reset": from the head h on, through the calls
pub record Unrelieved (n : ℕ) (h : Head) (cs : List Call) : Type 0 where
  pub missing : among is_good_sample cs ≡ false
  pub alerting : among is_off (heads h cs) ≡ false
  pub running : among (is_command n stops_or_resets) cs ≡ false

pub record Gap : Type 0 where
  -- Power-up takes a node number N; no call alters it.
  pub same_node : (p : PowerUp) (cs : List Call) → node (after (powered p) cs).core ≡ node_of p
  -- Emergency: waits exactly while the state is Pre-operational or Operational, bit 31 of 1014h is 0, no
  -- inhibit time runs, and the present reading (good or missing) differs from the one last announced.
  pub waits_exactly : (p : PowerUp) (cs : List Call) → let h = after (powered p) cs in let c = h.core in
      waits h emergency ≡ ((is_in pre_operational c || is_in operational c) && on (communication c).emergency && eqb c.timers.inhibit 0
      && not (beq (good c) c.announced))
  -- .. no inhibit time runs: what is left of it, since the last emergency frame
  pub inhibit_left : (p : PowerUp) (cs : List Call) → (after (powered p) cs).core.timers.inhibit ≡ left (node_of p) (powered p) cs 0
  -- for 1015h = v .. none if v = 0, else v/10 rounded up, plus 1, ticks: t is the least with v ≤ 10 t
  pub no_inhibit : inhibit_ticks 0 ≡ 0
  pub rounded_up : (v : ℕ) → 0 < v → (t : ℕ) × (inhibit_ticks v ≡ t + 1) × (v ≤ t * 10) × (t * 10 < v + 10)
  -- What is counted as announced is what the last emergency frame since boot-up said, good if none.
  pub announced : (p : PowerUp) (cs : List Call) → let h = after (powered p) cs in
      is_initialising h.core ≡ false → Said (node_of p) (last_emergency (node_of p) (sent (powered p) cs)) h.core.announced
  -- Both [resets] enter Initialising, .. end any inhibit time and forget what was announced ("good" counts as announced).
  pub forgotten : (p : PowerUp) (cs : List Call) → let h = after (powered p) cs in
      is_initialising h.core ≡ true → (h.core.announced ≡ true) × (h.core.timers.inhibit ≡ 0)
  -- Among the frames that can be sent, each test finds its own and no other: the heartbeat has the boot-up
  -- frame's identifier but not its byte, and while a PDO is on its identifier is in 181h..57Fh.
  pub known : (p : PowerUp) (cs : List Call) (k : Kind) → let h = after (powered p) cs in waits h k ≡ true
      → Known (node_of p) (frame_of h.core k) false (alerts k) (shows_position k)
  pub known_boot_up : (p : PowerUp) (cs : List Call) → Known (node_of p) (boot_up_frame (after (powered p) cs).core) true false false
  -- From the missing sample to the next good one none joins: only those position frames leave that still wait after the sample, each once.
  -- These are of types 1 to 240: `withdrawn` of specs/FiveSlots.antt.
  pub no_more_positions : (p : PowerUp) (before cs : List Call) → let h = step (after (powered p) before) (sample Missing) in
      among is_good_sample cs ≡ false → how_many is_position (sent h cs) ≤ waiting_positions h
  -- From the frame that says "missing" to the next good sample no position frame leaves at all.
  pub silent_once_told : (p : PowerUp) (before cs : List Call) → let h = after (powered p) before in
      frames h slot ≡ says_missing (node_of p) ∷ [] → among is_good_sample cs ≡ false → among is_position (sent (step h slot) cs) ≡ false
  -- Nor from power-up to the first good sample: it starts with the reading missing.
  pub no_position_at_first : (p : PowerUp) (cs : List Call) → among is_good_sample cs ≡ false → among is_position (sent (powered p) cs) ≡ false
  -- If a reading goes missing in Pre-operational or Operational and stays missing, with no inhibit time running at
  -- that sample, and with emergency messages on and no stop or reset through the next five slots, then by the fifth
  -- of them the last emergency frame sent since boot-up says "missing". (The calls that end with the fifth slot are
  -- one such list; it stays so for longer ones. The reading before may be good or missing.)
  pub missing_is_told : (p : PowerUp) (before cs : List Call) → let h = after (powered p) before in
      is_live h.core ≡ true
      → h.core.timers.inhibit ≡ 0
      → Unrelieved (node_of p) (step h (sample Missing)) cs
      → 5 ≤ slots cs
      → last_emergency (node_of p) (sent (powered p) (before ++ sample Missing ∷ cs)) ≡ some (says_missing (node_of p))
  -- The same from each moment of a gap at which no inhibit time runs, not only from its sample: for example
  -- from the boot-up of a head without a reading, or from the end of an inhibit time.
  pub gap_is_told : (p : PowerUp) (before cs : List Call) → let h = after (powered p) before in
      is_live h.core ≡ true
      → good h.core ≡ false
      → h.core.timers.inhibit ≡ 0
      → Unrelieved (node_of p) h cs
      → 5 ≤ slots cs
      → last_emergency (node_of p) (sent (powered p) (before ++ cs)) ≡ some (says_missing (node_of p))
