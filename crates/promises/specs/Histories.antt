-- Sequences of calls: the head after them, the frames that their slots send, and the heads that come from power-up.
-- "Every head comes from power-up and is altered by calls only": 01, chapter "The head and its neighbours".
use Rattle.std.specs.Prelude.{ℕ, ◌+◌, ◌≡◌, cond, List, [], ◌∷◌, ◌++◌}
use Rattle.can.specs.declared.Frame.{Frame}
use Rattle.entries.specs.declared.Identity.{Identity}
use Rattle.dictionary.specs.Valid.{FitsIdentity}
use Rattle.parts.specs.declared.Head.{Head}
use Rattle.promises.specs.Calls.{Call, receive, tick, sample, slot, is_slot, step, powered_up, slot_answer, is_frame, frame_in}

-- the head after the calls, taken in their order
abbrev pub after : Head → List Call → Head
after h [] = h
after h (c ∷ cs) = after (step h c) cs

-- Call each request for a frame to send a slot.
abbrev pub slots : List Call → ℕ
slots [] = 0
slots (c ∷ cs) = cond (is_slot c) 1 0 + slots cs

-- the frame that a call answers, if it does: slot (answers one frame, or none exactly if none waits)
abbrev pub frames : Head → Call → List Frame
frames h (receive f) = []
frames h tick = []
frames h (sample s) = []
frames h slot = cond (is_frame (slot_answer h)) (frame_in (slot_answer h) ∷ []) []

-- the frames that the calls send, in order
abbrev pub sent : Head → List Call → List Frame
sent h [] = []
sent h (c ∷ cs) = frames h c ++ sent (step h c) cs

-- Power-up takes a node number N, four identity numbers of 32 bits, and three names, each in an array of 32 bytes;
-- a number that is not 1..127 is refused, and so is a name length out of range. Both leave a head too.
pub record PowerUp : Type 0 where
  pub number : ℕ
  pub identity : Identity
  pub fits : FitsIdentity identity

abbrev pub powered : PowerUp → Head
powered p = (powered_up p.number p.identity).head

-- a head that comes from power-up and was altered by calls only
pub record Reachable (h : Head) : Type 0 where
  pub start : PowerUp
  pub calls : List Call
  pub so : h ≡ after (powered start) calls
