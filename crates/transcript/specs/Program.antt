-- The whole program, from what its calls promise (specs/Promised.antt): starting, passing on the input byte by byte or in
-- chunks, and closing prints the transcript. 01, chapter "Worked numbers", "Session program": standard input to output.
use Rattle.std.specs.Prelude.{ℕ, ◌≡◌, List, [], ◌∷◌, ◌++◌, take, drop}
use Rattle.parts.specs.declared.Head.{Head}
use Rattle.text.specs.Lines.{line_of}
use Rattle.text.specs.declared.Line.{Line}
use Rattle.transcript.specs.declared.Reply.{Reply}
use Rattle.transcript.specs.declared.Session.{Session}
use Rattle.transcript.specs.declared.Fed.{Fed}
use Rattle.transcript.specs.declared.Done.{Done}
use Rattle.transcript.specs.Talk.{reply, transcript}
use Rattle.transcript.specs.Promised.{Starts, Answers, Feeds, Chunks, Closes}

-- the bytes of a text
abbrev pub bytes_of : Line → List ℕ
bytes_of r = take r.len r.bytes

-- calls that pass on an input and print a text: the session before them, and the session after them
pub data Run : Session → List ℕ → List ℕ → Session → Type 0 where
  none : {s : Session} → Run s [] [] s
  byte : {s t : Session} {b : ℕ} {bs text : List ℕ} (r : Fed) → Feeds s b r → Run r.session bs text t
      → Run s (b ∷ bs) (bytes_of r.text ++ text) t
  -- what a chunk prints are the first bytes of the buffer
  chunk : {s t : Session} {rest text : List ℕ} (input out printed : List ℕ) (r : Done) → Chunks s input out r printed
      → Run r.session rest text t → Run s (input ++ rest) (take r.len printed ++ text) t

pub record Program : Type 0 where
  pub whole : {s t : Session} {input text : List ℕ} {end : Line} → Starts s → Run s input text t → Closes t end
      → text ++ bytes_of end ≡ transcript input
  -- a line by itself
  pub line : (h : Head) (l : List ℕ) (r : Reply) → Answers h (line_of l) r → (r.head ≡ (reply h l).head) × (bytes_of r.text ≡ (reply h l).text)
  -- the rest of the buffer stays as it was
  pub rest_stays : (s : Session) (input out printed : List ℕ) (r : Done) → Chunks s input out r printed → drop r.len printed ≡ drop r.len out
