-- What a command does to the head and what it prints: 01, chapter "Worked
-- numbers", "Session program", and refusal 9 of chapter "Refusal numbers".
-- A command is what a line says (`text`, specs/Grammar.antt). `promises`, specs/Calls.antt, defines what the head does and answers.
use Rattle.std.specs.Prelude.{ℕ, zero, suc, false, cond, None, Some, List, [], eqb}
use Rattle.can.specs.declared.Received.{Received}
use Rattle.parts.specs.declared.Head.{Head}
use Rattle.parts.specs.declared.Answer.{Answer}
use Rattle.parts.specs.declared.Sensor.TheVariants.{Missing as missing, Raw}
use Rattle.promises.specs.Calls.{SlotAnswer, Call, receive, tick, sample, slot, step, answered, refusal_by, slot_answer, sent_with}
use Rattle.text.specs.Printed.{frame_text, none_text, refusal_text}
use Rattle.text.specs.Grammar.{Parsed}
use Rattle.text.specs.declared.Command.TheVariants.{Frame, Ticks, Sample, Missing, Slot}

-- the head afterwards, and the bytes that are printed
pub record Outcome : Type 0 where
  pub head : Head
  pub text : List ℕ

abbrev pub outcome : Head → List ℕ → Outcome
outcome h t = record { head = h; text = t }

-- Only a slot and a refusal print.
abbrev pub silent : Head → Outcome
silent h = outcome h []

-- a refusal prints `E` and its number
abbrev pub refused : ℕ → Head → Outcome
refused n h = outcome h (refusal_text n)

-- The head answers a refusal's number, 0 for none.
unfoldable pub told : Answer → Outcome
told a = cond (eqb a.refusal 0) (silent a.head) (refused a.refusal a.head)

-- A slot prints identifier (3 digits), length and bytes, capitals, or `-`
abbrev pub shown : SlotAnswer → Outcome
shown s = outcome s.head (cond s.waited (frame_text s.frame) none_text)

-- an 11-bit identifier; remote frames are out
abbrev pub frame_in : ℕ → ℕ → List ℕ → Received
frame_in id len bytes = record { identifier = id; extended = false; remote = false; length = len; bytes = bytes }

abbrev pub ticks : ℕ → Head → Head
ticks zero h = h
ticks (suc n) h = step (ticks n h) tick

-- a call that may be refused
abbrev pub called : Head → Call → Answer
called h c = answered (refusal_by c) (step h c)

abbrev pub obeyed : Head → Parsed → Outcome
-- 9: a line not of its form: prints E 9; head unchanged
obeyed h None = refused 9 h
-- `F id len bytes`
obeyed h (Some (Frame id len bytes)) = told (called h (receive (frame_in id len bytes)))
-- `T n`
obeyed h (Some (Ticks n)) = silent (ticks n h)
-- `S r`; r may be any number: above 1,048,575 it is refused
obeyed h (Some (Sample r)) = told (called h (sample (Raw r)))
-- or `S -`
obeyed h (Some Missing) = told (called h (sample missing))
-- `?` (slot)
obeyed h (Some Slot) = shown (sent_with (slot_answer h) (step h slot))
