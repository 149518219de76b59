-- What each call of a session promises: its answer is the one in specs/Bytes.antt, and it leaves a valid
-- head. The contracts of crate feeding are these promises. 01, chapter "Worked numbers", "Session program".
use Rattle.std.specs.Prelude.{ℕ, ◌≡◌, List}
use Rattle.parts.specs.declared.Head.{Head}
use Rattle.promises.specs.Valid.{Valid}
use Rattle.text.specs.declared.Line.{Line}
use Rattle.transcript.specs.declared.Reply.{Reply}
use Rattle.transcript.specs.declared.Session.{Session}
use Rattle.transcript.specs.declared.Fed.{Fed}
use Rattle.transcript.specs.declared.Done.{Done}
use Rattle.transcript.specs.Bytes.{answered, started, fed, chunked, prints, placed, closing}

abbrev pub Starts : Session → Type 0
Starts r = (r ≡ started) × Valid r.head

abbrev pub Answers : Head → Line → Reply → Type 0
Answers h l r = (r ≡ answered h l) × Valid r.head

abbrev pub Feeds : Session → ℕ → Fed → Type 0
Feeds s b r = (r ≡ fed s b) × Valid r.session.head

-- `out` is the buffer before, `printed` the buffer after
abbrev pub Chunks : Session → List ℕ → List ℕ → Done → List ℕ → Type 0
Chunks s input out r printed = (r ≡ chunked s input) × (printed ≡ placed out 0 (prints s input)) × Valid r.session.head

abbrev pub Closes : Session → Line → Type 0
Closes s r = r ≡ closing s
