-- The segments of a name, and what is due while its transfer runs. Change request 1/13, read as docs/DECISIONS.md says.
use Rattle.std.specs.Prelude.{ℕ, eqb, Bool, ◌&&◌, cond, List}
use Rattle.names.specs.declared.Transfer.{Transfer}
use Rattle.names.specs.Segment.{toggle_of, segment_of}
use Rattle.names.specs.Transfer.{no_transfer, runs, following, naming}
use Rattle.entries.specs.declared.Device.{Device}
use Rattle.entries.specs.declared.Identity.{Identity}
use Rattle.entries.specs.Identity.{name_of}
use Rattle.sdo.specs.AbortCodes.{wrong_toggle}
use Rattle.sdo.specs.Request.{byte, is_segment, toggle_in}
use Rattle.sdo.specs.Reply.{framed}
use Rattle.sdo.specs.Service.{Due, upload, due}

-- whether a segment request whose first byte is b has the toggle that is due
abbrev pub is_toggled : Transfer → ℕ → Bool
is_toggled t b = eqb (toggle_in b) (toggle_of t.segments)

-- The segment that is due; for a wrong toggle, abort 0503 0000h, its bytes 1..3 naming the entry.
abbrev pub upload_bytes : Identity → Transfer → ℕ → List ℕ
upload_bytes i t b = cond (is_toggled t b) (segment_of (name_of i t.name) t.segments) (framed 0x80 (naming t.name) wrong_toggle)

-- The last segment's reply ends the transfer, and so does a wrong toggle.
abbrev pub upload_leaves : Identity → Transfer → ℕ → Transfer
upload_leaves i t b = cond (is_toggled t b) (following t (name_of i t.name).length) no_transfer

-- a segment request while a transfer runs
abbrev pub in_transfer : Transfer → List ℕ → Bool
in_transfer t f = runs t && is_segment (byte f 0)

-- What is due: in the place of step 1, and before all others, a segment request while a transfer runs.
unfoldable pub due_in : Device → Bool → Transfer → List ℕ → Due
due_in d o t f =
    let b = byte f 0 in
    cond (in_transfer t f) (upload (upload_bytes d.identity t b) (upload_leaves d.identity t b)) (due d o f)
