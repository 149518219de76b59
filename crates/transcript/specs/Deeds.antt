-- What each line asks of the head and what it prints, from the line's bytes (`text`, specs/Forms.antt)
-- and the calls (`promises`, specs/Calls.antt): 01, chapter "Worked numbers", "Session program". `Deeds`
-- states this for `reply`, `talk` and `transcript`, and states which head a session starts with.
use Rattle.std.specs.Prelude.{ℕ, ◌-◌, ◌≤◌, ◌<◌, ◌≡◌, false, List, [], ◌∷◌, ◌++◌, length, replicate}
use Rattle.can.specs.declared.Frame.{Frame as Data}
use Rattle.can.specs.declared.Received.{Received}
use Rattle.names.specs.declared.Name.{Name}
use Rattle.parts.specs.declared.Head.{Head}
use Rattle.parts.specs.declared.Sensor.TheVariants.{Missing as missing, Raw}
use Rattle.promises.specs.Calls.{Call, receive, tick, sample, slot, powered_up}
use Rattle.promises.specs.Histories.{after, sent}
use Rattle.text.specs.Ascii.{ascii}
use Rattle.text.specs.Lines.{lines}
use Rattle.text.specs.Printed.{frame_text}
use Rattle.text.specs.Forms.{Form, parted, filled}
use Rattle.text.specs.declared.Command.{Command}
use Rattle.text.specs.declared.Command.TheVariants.{Frame, Ticks, Sample}
use Rattle.transcript.specs.Talk.{reply, talk, transcript}
use Rattle.transcript.specs.Bytes.{started, after as afterBytes}

-- a line makes these calls, one after another, and prints these bytes
pub record Does (h : Head) (l : List ℕ) (calls : List Call) (text : List ℕ) : Type 0 where
  pub head : (reply h l).head ≡ after h calls
  pub prints : (reply h l).text ≡ text

-- a data frame of an 11-bit identifier
abbrev pub data11 : ℕ → ℕ → List ℕ → Received
data11 id len bytes = record { identifier = id; extended = false; remote = false; length = len; bytes = filled bytes }

-- a name in its array of 32 bytes
abbrev pub called_by : List ℕ → Name
called_by text = record { bytes = text ++ replicate (32 - length text) 0; length = length text }

-- node 1, identity 1, 2, 3, 4; the names are HEAD, 1 and 1
abbrev pub first : Head
first =
    (powered_up 1 (record {
      vendor = 1;
      product = 2;
      revision = 3;
      serial = 4;
      name = called_by (ascii "HEAD");
      hardware = called_by (ascii "1");
      software = called_by (ascii "1");
    })).head

-- the head of a session: power-up, and calls
pub record Called (h : Head) : Type 0 where
  pub calls : List Call
  pub so : h ≡ after first calls

pub record Deeds : Type 0 where
  -- `F id len bytes`: a frame received
  pub frame_taken : (h : Head) (bytes : List ℕ) {fs : List (List ℕ)} {id len : ℕ} → Form fs (Frame id len (filled bytes)) → id ≤ 0x7FF → len ≤ 8
      → Does h (parted fs) (receive (data11 id len bytes) ∷ []) []
  -- a refusal prints `E` and its number; head unchanged
  pub identifier_refused : (h : Head) {fs : List (List ℕ)} {bytes : List ℕ} {id len : ℕ} → Form fs (Frame id len bytes) → 0x7FF < id
      → Does h (parted fs) [] (ascii "E 1\n")
  pub length_refused : (h : Head) {fs : List (List ℕ)} {bytes : List ℕ} {id len : ℕ} → Form fs (Frame id len bytes) → id ≤ 0x7FF → 8 < len
      → Does h (parted fs) [] (ascii "E 2\n")
  -- `T n`: n ticks
  pub ticks_taken : (h : Head) {fs : List (List ℕ)} {n : ℕ} → Form fs (Ticks n) → Does h (parted fs) (replicate n tick) []
  -- `S r`: a raw position
  pub sample_taken : (h : Head) {fs : List (List ℕ)} {r : ℕ} → Form fs (Sample r) → r ≤ 1048575
      → Does h (parted fs) (sample (Raw r) ∷ []) []
  pub sample_refused : (h : Head) {fs : List (List ℕ)} {r : ℕ} → Form fs (Sample r) → 1048575 < r
      → Does h (parted fs) [] (ascii "E 3\n")
  -- or `S -`: "missing"
  pub sample_missing_law : (h : Head) → Does h (ascii "S -") (sample missing ∷ []) []
  -- `?` (slot): it prints the frame that is sent, or `-`
  pub slot_sends : (h : Head) (f : Data) → sent h (slot ∷ []) ≡ f ∷ [] → Does h (ascii "?") (slot ∷ []) (frame_text f)
  pub slot_none : (h : Head) → sent h (slot ∷ []) ≡ [] → Does h (ascii "?") (slot ∷ []) (ascii "-\n")
  -- 9: a line not of its form, or of more than 64 bytes: prints E 9; head unchanged
  pub malformed : (h : Head) (l : List ℕ) → ((fs : List (List ℕ)) (c : Command) → Form fs c → parted fs ≡ l → ⊥)
      → Does h l [] (ascii "E 9\n")
  pub too_long : (h : Head) (l : List ℕ) → 64 < length l → Does h l [] (ascii "E 9\n")
  -- each line in turn, on the head that the line before it left
  pub in_turn : (h : Head) (l : List ℕ) (ls : List (List ℕ)) (calls : List Call) (text : List ℕ) → Does h l calls text
      → talk h (l ∷ ls) ≡ text ++ talk (after h calls) ls
  pub nothing : (h : Head) → talk h [] ≡ []
  -- node 1, identity 1, 2, 3, 4, names HEAD, 1 and 1, standard input to output
  pub begins : (input : List ℕ) → transcript input ≡ talk first (lines input)
  -- and so do the calls that take the input byte by byte: the head always comes from power-up and calls
  pub begins_bytes : started.head ≡ first
  pub called : (input : List ℕ) → Called (afterBytes started input).head
