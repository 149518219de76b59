-- The terms in which the theorems state their conditions, in 01's own numbers and for one call: a head that comes from power-up and
-- calls, a command, a SYNC, what is due, an accepted write, which call changes what. So no theorem is about fewer heads or calls than 01.
use Rattle.std.specs.Prelude.{ℕ, suc, ◌<◌, ◌≤◌, eqb, get_or, ◌≡◌, ◌⊎◌, ◌↔◌, Bool, true, false, List, [], ◌∷◌}
use Rattle.can.specs.declared.Received.{Received}
use Rattle.can.specs.Number.{AreBytes}
use Rattle.sdo.specs.Exactly.{Exactly, ValueWritten}
use Rattle.sdo.specs.UploadLaws.{AsksSegment, Runs}
use Rattle.waiting.specs.Places.{waiting}
use Rattle.parts.specs.declared.Head.{Head}
use Rattle.parts.specs.declared.Sensor.{Sensor}
use Rattle.parts.specs.declared.Sensor.TheVariants.{Missing, Raw}
use Rattle.promises.specs.States.{Reset, Command, to_reset}
use Rattle.promises.specs.WaitingLine.{Kind, number}
use Rattle.promises.specs.Calls.{Call, receive, sample, slot, step, slot_answer, is_frame, frame_in}
use Rattle.promises.specs.Meant.{Commands, Requests, Synchronises, due_to, Writes}
use Rattle.promises.specs.Histories.{after, slots, sent, PowerUp, powered, Reachable}
use Rattle.promises.specs.Gap.{node_of, is_command}
use Rattle.promises.specs.Resets.{restored_by82}
use Rattle.promises.specs.Demand1.{NamesFit}
use Rattle.promises.specs.Codes.{code_after, command_bytes, All, IsFirst}

-- A list of calls, call by call: the head after it, its slots, and the frames that the slots send.
pub record Follows (h : Head) (cs : List Call) : Type 0 where
  pub none : (after h [] ≡ h) × (slots [] ≡ 0) × (sent h [] ≡ [])
  pub next : (c : Call) → after h (c ∷ cs) ≡ after (step h c) cs
  pub counts : slots (slot ∷ cs) ≡ suc (slots cs)
  pub sends : is_frame (slot_answer h) ≡ true → sent h (slot ∷ cs) ≡ frame_in (slot_answer h) ∷ sent (step h slot) cs
  pub sends_none : is_frame (slot_answer h) ≡ false → sent h (slot ∷ cs) ≡ sent (step h slot) cs
  -- no other call is a slot
  pub others : (c : Call) → (c ≡ slot → ⊥) → (slots (c ∷ cs) ≡ slots cs) × (sent h (c ∷ cs) ≡ sent (step h c) cs)

-- An NMT command to node n whose first byte is b: identifier 000h, data, length 2, second byte 0 or N.
pub record Orders (n b : ℕ) (f : Received) : Type 0 where
  pub of_11_bits : f.extended ≡ false
  pub is_data : f.remote ≡ false
  pub identifier : f.identifier ≡ 0x000
  pub length : f.length ≡ 2
  pub to_node : (get_or f.bytes 1 0 ≡ 0) ⊎ (get_or f.bytes 1 0 ≡ n)
  pub first_byte : get_or f.bytes 0 0 ≡ b

-- Exactly such a frame, to a node that has booted, is this command. In Initialising frames have no effect.
abbrev pub IsCommand : ℕ × Command → Type 0
IsCommand x =
    (p : PowerUp) (cs : List Call) (f : Received) → let h = after (powered p) cs in
    Commands h f x.1 ↔ (Orders (node_of p) x.0 f × (code_after (node_of p) cs ≡ 0x00 → ⊥))

-- SYNC (080h, data, length 0 or 1, Operational only), in the state with this code
pub record Syncs (present : ℕ) (f : Received) : Type 0 where
  pub of_11_bits : f.extended ≡ false
  pub is_data : f.remote ≡ false
  pub identifier : f.identifier ≡ 0x080
  pub length : f.length ≤ 1
  pub state : present ≡ 0x05

-- an accepted write to some entry, or a reset
abbrev pub WritesOrResets : Head → Received → Type 0
WritesOrResets h f = ((k : ℕ) × (v : ℕ) × Writes h f k v) ⊎ ((r : Reset) × Commands h f (to_reset r))

-- an accepted write of 1010-1 or 1011-1
abbrev pub SavesOrLoads : Head → Received → Type 0
SavesOrLoads h f = (v : ℕ) × (Writes h f 0x1010_01 v ⊎ Writes h f 0x1011_01 v)

pub record Words : Type 0 where
  -- Power-up takes a node number N, four identity numbers and three names: the head has these after any calls.
  pub taken : (p : PowerUp) (cs : List Call) → 1 ≤ p.number → p.number ≤ 127 → NamesFit p.identity
      → let d = (after (powered p) cs).core.device in (d.node ≡ p.number) × (d.identity ≡ p.identity)
  pub follows : (h : Head) (cs : List Call) → Follows h cs
  -- NMT command: ..
  pub ordered : (n : ℕ) (t : ℕ → Bool) (f : Received) → (is_command n t (receive f) ≡ true) ↔ ((b : ℕ) × (t b ≡ true) × Orders n b f)
  pub commands : All IsCommand command_bytes
  -- SYNC ..
  pub synchronises : (p : PowerUp) (cs : List Call) (f : Received)
      → Synchronises (after (powered p) cs) f ↔ Syncs (code_after (node_of p) cs) f
  -- First that applies: for the device as it is, Operational or not. (`requests` of specs/Codes.antt says what is served,
  -- specs/Transfers.antt what is due to a segment request while a name is read.)
  pub due : (p : PowerUp) (cs : List Call) (f : Received) → AreBytes f.bytes → let h = after (powered p) cs in
      (Runs h.transfer → AsksSegment f.bytes → ⊥)
      → Exactly h.core.device (eqb (code_after (node_of p) cs) 0x05) f.bytes (due_to h f)
  -- An accepted write is a served request that gives the entry of key k the value v.
  pub writes : (h : Head) (f : Received) (k v : ℕ) → AreBytes f.bytes
      → Writes h f k v ↔ (Requests h f × ValueWritten h.core.device f.bytes k v)
  -- 82h only those below 2000h; 6200-0 is 1800-5 under a second index
  pub below_2000h : (i : ℕ) → (restored_by82 i ≡ true) ↔ ((i < 0x2000) ⊎ (i ≡ 0x6200))
  -- A slot sends the first.
  pub firsts : (k : Kind) (h : Head) → IsFirst k h ↔ ((ks : List ℕ) × (waiting h.line ≡ number k ∷ ks))
  -- For one call: no other changes the settings, the saved set,
  pub settings_by : (h : Head) → Reachable h → (c : Call)
      → ((step h c).core.device.settings ≡ h.core.device.settings) ⊎ ((f : Received) × (c ≡ receive f) × WritesOrResets h f)
  pub saved_by_law : (h : Head) → Reachable h → (c : Call)
      → ((step h c).core.device.saved ≡ h.core.device.saved) ⊎ ((f : Received) × (c ≡ receive f) × SavesOrLoads h f)
  -- or the reading: a sample (a raw position or "missing"), above 1,048,575 refused
  pub raw : (h : Head) → Reachable h → (r : ℕ) → r ≤ 1048575
      → (step h (sample (Raw r))).core.device.reading ≡ record { good = true; raw = r }
  pub missing : (h : Head) → Reachable h → (step h (sample Missing)).core.device.reading.good ≡ false
  pub reading_by : (h : Head) → Reachable h → (c : Call)
      → ((step h c).core.device.reading ≡ h.core.device.reading) ⊎ ((s : Sensor) × (c ≡ sample s))
