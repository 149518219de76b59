-- `Laws`: what holds for every input. The calls print byte by byte what 01 prints line by line, wherever the
-- input is cut into chunks, and each call leaves a valid head. 01, chapter "Worked numbers", "Session program".
use Rattle.std.specs.Prelude.{ℕ, ◌≤◌, ◌<◌, ◌≡◌, Some, List, ◌++◌, length}
use Rattle.parts.specs.declared.Head.{Head}
use Rattle.promises.specs.Valid.{Valid}
use Rattle.text.specs.Lines.{lines, longest, line_of, blank, held}
use Rattle.text.specs.Grammar.{malformed, says}
use Rattle.text.specs.declared.Command.TheVariants.{Frame, Sample}
use Rattle.text.specs.declared.Line.{Line}
use Rattle.transcript.specs.declared.Session.{Session}
use Rattle.transcript.specs.Commands.{refused, obeyed}
use Rattle.transcript.specs.Talk.{reply, talk, transcript}
use Rattle.transcript.specs.Bytes.{reply_of, answered, session, started, fed, after, prints, closing}

pub record Laws : Type 0 where
  -- the bytes of an input, one after another, and its end print what its lines print in turn
  pub whole : (h : Head) (input : List ℕ)
      → prints (session h blank) input ++ held (closing (after (session h blank) input)) ≡ talk h (lines input)
  -- and so does the program
  pub program : (input : List ℕ) → prints started input ++ held (closing (after started input)) ≡ transcript input
  -- a gathered line gets the answer of the line
  pub line_answered : (h : Head) (l : List ℕ) → answered h (line_of l) ≡ reply_of (reply h l)
  -- An input may be cut into chunks anywhere.
  pub cut : (s : Session) (a b : List ℕ) → after s (a ++ b) ≡ after (after s a) b
  pub cut_prints : (s : Session) (a b : List ℕ) → prints s (a ++ b) ≡ prints s a ++ prints (after s a) b
  -- 1: an 11-bit identifier above 7FFh: the number; head unchanged
  pub identifier_refused : (h : Head) (bytes : List ℕ) (id len : ℕ) → 0x7FF < id → obeyed h (Some (Frame id len bytes)) ≡ refused 1 h
  -- 2: frame length above 8 (1 comes first)
  pub length_refused : (h : Head) (bytes : List ℕ) (id len : ℕ) → id ≤ 0x7FF → 8 < len → obeyed h (Some (Frame id len bytes)) ≡ refused 2 h
  -- 3: raw sample above 1,048,575, of any size
  pub sample_refused : (h : Head) (r : ℕ) → 1048575 < r → obeyed h (Some (Sample r)) ≡ refused 3 h
  -- 9: a line not of its form, and one of more than 64 bytes: prints E 9; head unchanged
  pub malformed_refused : (h : Head) (l : List ℕ) → says l ≡ malformed → reply h l ≡ refused 9 h
  pub too_long : (h : Head) (l : List ℕ) → longest < length l → reply h l ≡ refused 9 h
  -- power-up and each call are proved to leave a valid head
  pub start_valid : Valid started.head
  pub line_valid : (h : Head) (l : List ℕ) → Valid h → Valid (reply h l).head
  pub answer_valid : (h : Head) (r : Line) → Valid h → Valid (answered h r).head
  pub byte_valid : (s : Session) (b : ℕ) → Valid s.head → Valid (fed s b).session.head
  pub input_valid : (s : Session) (bs : List ℕ) → Valid s.head → Valid (after s bs).head
