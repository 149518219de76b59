-- 01's chapter "Worked numbers" by calls from power-up: P1 to P12 at node
-- 1, Pre-operational, factory settings; and the session printed there.
use Rattle.std.specs.Prelude.{ℕ, ◌≡◌, Bool, true, false, List, [], ◌∷◌, ◌++◌, map}
use Rattle.can.specs.declared.Frame.{Frame}
use Rattle.sdo.specs.Worked.{bytes}
use Rattle.parts.specs.declared.Head.{Head}
use Rattle.parts.specs.declared.Sensor.TheVariants.{Missing, Raw}
use Rattle.promises.specs.WaitingLine.{frame}
use Rattle.promises.specs.Calls.{Call, receive, tick, sample, slot, step, no_frame, slot_answer, is_frame, frame_in}
use Rattle.promises.specs.Histories.{after}
use Rattle.promises.specs.Node1.{node1, request, read6004, asks, writes}

-- what a slot answers: a frame, or none
abbrev pub answer : Head → Bool × Frame
answer h = (is_frame (slot_answer h), frame_in (slot_answer h))

abbrev pub sends : ℕ → ℕ → List ℕ → Bool × Frame
sends identifier length content = (true, frame identifier length content)

-- Pre-operational: the boot-up frame sent, the reading missing and told
abbrev pub missing : List Call
missing = slot ∷ slot ∷ []

-- at the raw position r
abbrev pub at : ℕ → List Call
at r = sample (Raw r) ∷ slot ∷ []

-- 6000h = 8: inverted, scaling off
abbrev pub inverted : List Call
inverted = writes (bytes 0x2B 0x00 0x60 0x00 0x08 0x00 0 0)

-- 6000h = 4, then 6005h = 10,000
abbrev pub coarse : List Call
coarse = writes (bytes 0x2B 0x00 0x60 0x00 0x04 0x00 0 0) ++ writes (bytes 0x23 0x05 0x60 0x01 0x10 0x27 0 0)

-- 6003h = 40
abbrev pub preset : List Call
preset = writes (bytes 0x23 0x03 0x60 0x00 0x28 0 0 0)

-- what the slots among the calls answer
abbrev pub answers : Head → List Call → List (Bool × Frame)
answers h [] = []
answers h (receive f ∷ cs) = answers (step h (receive f)) cs
answers h (tick ∷ cs) = answers (step h tick) cs
answers h (sample s ∷ cs) = answers (step h (sample s)) cs
answers h (slot ∷ cs) = answer h ∷ answers (step h slot) cs

-- `?`, `?`, `S 69637`, `?`, `F 601 8 40 04 60 00 00 00 00 00`, `?`, `S -`, `?`, `?`
abbrev pub session : List Call
session = slot ∷ slot ∷ sample (Raw 69637) ∷ slot ∷ asks ∷ slot ∷ sample Missing ∷ slot ∷ slot ∷ []

-- A worked number: after the calls, the request gets the reply.
pub record Number : Type 0 where
  pub calls : List Call
  pub asked : List ℕ
  pub reply : List ℕ

abbrev number : List Call → List ℕ → List ℕ → Number
number cs f r = record { calls = cs; asked = f; reply = r }

abbrev pub numbers : List Number
numbers =
    -- P1 to P5
    number missing (bytes 0x40 0x01 0x65 0x00 0 0 0 0) (bytes 0x43 0x01 0x65 0x00 0x88 0x13 0x00 0x00) ∷
    number missing (bytes 0x2B 0x00 0x62 0x00 0x64 0x00 0 0) (bytes 0x60 0x00 0x62 0x00 0 0 0 0) ∷
    number missing (bytes 0x2F 0x17 0x10 0x00 0x88 0x13 0 0) (bytes 0x80 0x17 0x10 0x00 0x13 0x00 0x07 0x06) ∷
    number missing (bytes 0x20 0x02 0x21 0x00 0xF4 0x01 0 0) (bytes 0x80 0x02 0x21 0x00 0x01 0x00 0x04 0x05) ∷
    number missing (bytes 0x2B 0x00 0x60 0x00 0x01 0x00 0 0) (bytes 0x80 0x00 0x60 0x00 0x30 0x00 0x09 0x06) ∷
    -- P6, P7
    number missing read6004 (bytes 0x80 0x04 0x60 0x00 0x24 0x00 0x00 0x08) ∷
    number (at 69637) read6004 (bytes 0x43 0x04 0x60 0x00 0x05 0x10 0x01 0x00) ∷
    -- P8: 1,048,575
    number (at 0 ++ inverted) read6004 (bytes 0x43 0x04 0x60 0x00 0xFF 0xFF 0x0F 0x00) ∷
    -- P9 gives 3 and 4 from then on (4/13)
    number (at 6 ++ coarse) read6004 (bytes 0x43 0x04 0x60 0x00 3 0 0 0) ∷
    number (at 7 ++ coarse) read6004 (bytes 0x43 0x04 0x60 0x00 4 0 0 0) ∷
    -- P10: 6509h is −60; then r = 50 reads 1,048,566
    number (at 100 ++ preset) (bytes 0x40 0x09 0x65 0x00 0 0 0 0) (bytes 0x43 0x09 0x65 0x00 0xC4 0xFF 0xFF 0xFF) ∷
    number (at 100 ++ preset ++ sample (Raw 50) ∷ []) read6004 (bytes 0x43 0x04 0x60 0x00 0xF6 0xFF 0x0F 0x00) ∷
    -- P11
    number missing (bytes 0x40 0x01 0x18 0x03 0 0 0 0) (bytes 0x80 0x01 0x18 0x03 0x11 0x00 0x09 0x06) ∷
    -- P12: 999, and 1,000 with scaling off
    number missing (bytes 0x23 0x02 0x60 0x00 0xE7 0x03 0 0) (bytes 0x80 0x02 0x60 0x00 0x30 0x00 0x09 0x06) ∷
    number missing (bytes 0x23 0x02 0x60 0x00 0xE8 0x03 0 0) (bytes 0x80 0x02 0x60 0x00 0x22 0x00 0x00 0x08) ∷
    []

-- "all of P1 to P12 are proved from the definitions, as one list under a single statement"
abbrev pub Worked : Type 0
Worked = map (λ n. answer (after node1 (n.calls ++ request n.asked ∷ []))) numbers ≡ map (λ n. sends 0x581 8 n.reply) numbers

-- Input .. prints the whole of:
abbrev pub Printed : Type 0
Printed =
    answers node1 session
    ≡ sends 0x701 1 (0x00 ∷ [])
    ∷ sends 0x081 8 (bytes 0x00 0x50 0x01 0 0 0 0 0)
    ∷ sends 0x081 8 (bytes 0 0 0 0 0 0 0 0)
    ∷ sends 0x581 8 (bytes 0x43 0x04 0x60 0x00 0x05 0x10 0x01 0x00)
    ∷ sends 0x081 8 (bytes 0x00 0x50 0x01 0 0 0 0 0)
    ∷ (false, no_frame)
    ∷ []
