-- `Laws`: what holds for every input and every printed text. 01, chapter "Worked numbers", "Session program".
-- No line is lost or made up, no short enough line loses a byte, a number is within its bounds, and a printed frame can be read again.
use Rattle.std.specs.Prelude.{ℕ, ◌≤◌, ◌≡◌, None, Some, List, [], ◌∷◌, ◌++◌, map, length, take}
use Rattle.can.specs.Number.{AreBytes}
use Rattle.can.specs.declared.Frame.{Frame as Sent}
use Rattle.text.specs.Ascii.{ascii}
use Rattle.text.specs.Lines.{lines, line_of, blank, held, pushed, handed}
use Rattle.text.specs.Grammar.{Parsed, made, parsed, says, says_line}
use Rattle.text.specs.Printed.{frame_shown, frame_text, none_text, refusal_text}
use Rattle.text.specs.declared.Command.TheVariants.{Frame, Ticks, Sample, Missing, Slot}

-- id 1..8 hex digits; len one digit; 1..1000 ticks; r 1..10 digits
abbrev pub Within : Parsed → Type 0
Within None = Unit {0}
Within (Some (Frame id len bytes)) = (id ≤ 0xFFFFFFFF) × (len ≤ 9)
Within (Some (Ticks n)) = (1 ≤ n) × (n ≤ 1000)
Within (Some (Sample r)) = r ≤ 9999999999
Within (Some Missing) = Unit {0}
Within (Some Slot) = Unit {0}

pub record Laws : Type 0 where
  -- a reader that takes byte after byte passes on exactly the lines of the input
  pub handed_lines : (bs : List ℕ) → handed blank bs ≡ map line_of (lines bs)
  pub push_line : (l : List ℕ) (b : ℕ) → pushed (line_of l) b ≡ line_of (l ++ b ∷ [])
  -- lines of at most 64 bytes are kept complete
  pub held_line : (l : List ℕ) → length l ≤ 64 → held (line_of l) ≡ l
  -- and so is all that is printed
  pub held_frame : (f : Sent) → length f.bytes ≡ 8 → held (line_of (frame_text f)) ≡ frame_text f
  pub held_none : held (line_of none_text) ≡ none_text
  pub held_refusal : (n : ℕ) → held (line_of (refusal_text n)) ≡ refusal_text n
  -- a printed frame is one line
  pub one_line : (f : Sent) → lines (frame_text f) ≡ frame_shown f ∷ []
  -- what a gathered line says is what its bytes say
  pub says_line_law : (l : List ℕ) → says_line (line_of l) ≡ says l
  pub within : (l : List ℕ) → Within (parsed l)
  -- three digits and as many bytes as the length says: a frame is read again from what is printed of it
  pub frame_back : (f : Sent) → f.identifier ≤ 0xFFF → f.length ≤ 8 → length f.bytes ≡ 8 → AreBytes f.bytes
      → map parsed (lines (ascii "F " ++ frame_text f)) ≡ made (Frame f.identifier f.length) (take f.length f.bytes) ∷ []
