-- The session byte by byte, as the calls take the input: what each call has to answer. 01, chapter "Worked numbers", "Session program".
-- Law `whole` states that this prints what Talk prints line by line.
use Rattle.std.specs.Prelude.{ℕ, ◌+◌, ◌≤◌, ◌≡◌, cond, List, [], ◌∷◌, ◌++◌, eqb, length, take, drop}
use Prim.Native.Char.{code}
use Rattle.parts.specs.declared.Head.{Head}
use Rattle.promises.specs.Node1.{node1}
use Rattle.text.specs.Lines.{longest, line_of, blank, held, pushed}
use Rattle.text.specs.Grammar.{says_line}
use Rattle.text.specs.declared.Line.{Line}
use Rattle.transcript.specs.declared.Reply.{Reply}
use Rattle.transcript.specs.declared.Session.{Session}
use Rattle.transcript.specs.declared.Fed.{Fed}
use Rattle.transcript.specs.declared.Done.{Done}
use Rattle.transcript.specs.Commands.{Outcome, obeyed}

abbrev pub reply_of : Outcome → Reply
reply_of o = record { head = o.head; text = line_of o.text }

-- what a line does once it is gathered byte by byte
unfoldable pub answered : Head → Line → Reply
answered h r = reply_of (obeyed h (says_line r))

-- a head, and what has arrived of a line
abbrev pub session : Head → Line → Session
session h r = record { head = h; line = r }

-- no byte of the first line has arrived
abbrev pub started : Session
started = session node1 blank

-- the session after a byte
abbrev pub stepped : Session → ℕ → Session
stepped s b =
    cond (eqb b (code "\n")) (session (answered s.head s.line).head blank) (session s.head (pushed s.line b))

-- what it prints: the answer to the line that it ends
abbrev pub spoken : Session → ℕ → Line
spoken s b = cond (eqb b (code "\n")) (answered s.head s.line).text blank

unfoldable pub fed : Session → ℕ → Fed
fed s b = record { session = stepped s b; text = spoken s b }

-- many bytes
abbrev pub after : Session → List ℕ → Session
after s [] = s
after s (b ∷ bs) = after (fed s b).session bs

abbrev pub prints : Session → List ℕ → List ℕ
prints s [] = []
prints s (b ∷ bs) = held (fed s b).text ++ prints (fed s b).session bs

abbrev pub chunked : Session → List ℕ → Done
chunked s bs = record { session = after s bs; len = length (prints s bs) }

-- a buffer with a text written after its first `at` bytes; the other bytes stay
abbrev pub placed : List ℕ → ℕ → List ℕ → List ℕ
placed old at text = take at old ++ text ++ drop (at + length text) old

-- the same for the text of one line: where it ends, and the buffer
pub record Put (old : List ℕ) (at : ℕ) (text new : List ℕ) (end : ℕ) : Type 0 where
  pub ends : end ≡ at + length text
  pub few : length text ≤ longest
  pub buffer : new ≡ placed old at text

-- the end of input ends a line, but none after a last 0Ah
abbrev pub closing : Session → Line
closing s = cond (eqb s.line.len 0) blank (answered s.head s.line).text
