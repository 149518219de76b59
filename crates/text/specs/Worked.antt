-- Examples of lines: those of the session in 01's chapter "Worked numbers",
-- as read and as printed; and lines that are just of their form, or just not.
use Rattle.std.specs.Prelude.{ℕ, ◌≡◌, true, false, List, [], ◌∷◌, ◌++◌, replicate}
use Rattle.cases.specs.Padded.{pad}
use Rattle.can.specs.declared.Frame.{Frame as Sent}
use Rattle.text.specs.Ascii.{ascii}
use Rattle.text.specs.Lines.{lines, line_of}
use Rattle.text.specs.Grammar.{parsed, says, made, only, malformed}
use Rattle.text.specs.Printed.{frame_text, none_text, refusal_text}
use Rattle.text.specs.declared.Command.TheVariants.{Frame, Ticks, Sample, Missing, Slot}

abbrev pub sent : ℕ → ℕ → List ℕ → Sent
sent id len bytes = record { identifier = id; length = len; bytes = pad 8 bytes }

pub record Worked : Type 0 where
  -- quoted text as bytes, every letter that 01's session has
  pub letters : ascii "FTS?-E \n" ≡ 0x46 ∷ 0x54 ∷ 0x53 ∷ 0x3F ∷ 0x2D ∷ 0x45 ∷ 0x20 ∷ 0x0A ∷ []
  pub numerals : ascii "0123456789" ≡ 0x30 ∷ 0x31 ∷ 0x32 ∷ 0x33 ∷ 0x34 ∷ 0x35 ∷ 0x36 ∷ 0x37 ∷ 0x38 ∷ 0x39 ∷ []
  pub hex_letters : ascii "ABCDEFabcdef" ≡ 0x41 ∷ 0x42 ∷ 0x43 ∷ 0x44 ∷ 0x45 ∷ 0x46 ∷ 0x61 ∷ 0x62 ∷ 0x63 ∷ 0x64 ∷ 0x65 ∷ 0x66 ∷ []
  -- 01's session: its input, its lines, and what they say
  pub session : lines (ascii "?\n?\nS 69637\n?\nF 601 8 40 04 60 00 00 00 00 00\n?\nS -\n?\n?\n")
      ≡ ascii "?" ∷ ascii "?" ∷ ascii "S 69637" ∷ ascii "?" ∷ ascii "F 601 8 40 04 60 00 00 00 00 00" ∷ ascii "?"
      ∷ ascii "S -" ∷ ascii "?" ∷ ascii "?" ∷ []
  pub slot : parsed (ascii "?") ≡ only Slot
  pub sample : parsed (ascii "S 69637") ≡ only (Sample 69637)
  pub frame : parsed (ascii "F 601 8 40 04 60 00 00 00 00 00") ≡ made (Frame 0x601 8) (0x40 ∷ 0x04 ∷ 0x60 ∷ [])
  pub missing : parsed (ascii "S -") ≡ only Missing
  -- and what it prints
  pub boot_up : frame_text (sent 0x701 1 []) ≡ ascii "701 1 00\n"
  pub emergency : frame_text (sent 0x081 8 (0x00 ∷ 0x50 ∷ 0x01 ∷ [])) ≡ ascii "081 8 00 50 01 00 00 00 00 00\n"
  pub emergency_over : frame_text (sent 0x081 8 []) ≡ ascii "081 8 00 00 00 00 00 00 00 00\n"
  pub reply : frame_text (sent 0x581 8 (0x43 ∷ 0x04 ∷ 0x60 ∷ 0x00 ∷ 0x05 ∷ 0x10 ∷ 0x01 ∷ [])) ≡ ascii "581 8 43 04 60 00 05 10 01 00\n"
  pub none : none_text ≡ ascii "-\n"
  pub refusals : (refusal_text 1 ≡ ascii "E 1\n") × (refusal_text 2 ≡ ascii "E 2\n")
      × (refusal_text 3 ≡ ascii "E 3\n") × (refusal_text 9 ≡ ascii "E 9\n")
  -- capitals; a frame of no bytes
  pub capitals : frame_text (sent 0x7AB 2 (0xCD ∷ 0xEF ∷ [])) ≡ ascii "7AB 2 CD EF\n"
  pub no_bytes : frame_text (sent 0x080 0 []) ≡ ascii "080 0\n"
  -- the end of input ends a line; none after a last 0Ah
  pub end_of_input : lines (ascii "?\n\nS -") ≡ ascii "?" ∷ [] ∷ ascii "S -" ∷ []
  pub no_input : lines [] ≡ []
  -- at most 64 bytes
  pub longest_line : (line_of (replicate 64 0x3F)).long ≡ false
  pub too_long : (line_of (replicate 65 0x3F)).long ≡ true
  pub long_refused : says (replicate 65 0x3F) ≡ malformed
  -- hex digits of either case; id 1..8 hex digits
  pub either_case : parsed (ascii "F 7aB 2 cD Ef") ≡ made (Frame 0x7AB 2) (0xCD ∷ 0xEF ∷ [])
  pub eight_digits : parsed (ascii "F fFfFfFfF 0") ≡ made (Frame 0xFFFFFFFF 0) []
  pub nine_digits : parsed (ascii "F 000000601 0") ≡ malformed
  -- len one digit; as many hex pairs, but 8 where len is 9
  pub hex_len : parsed (ascii "F 601 A 40 04 60 00 00 00 00 00") ≡ malformed
  pub no_len : parsed (ascii "F 601") ≡ malformed
  pub eight_for_nine : parsed (ascii "F 601 9 40 04 60 00 00 00 00 00") ≡ made (Frame 0x601 9) (0x40 ∷ 0x04 ∷ 0x60 ∷ [])
  pub nine_for_nine : parsed (ascii "F 601 9 40 04 60 00 00 00 00 00 00") ≡ malformed
  pub pair_missing : parsed (ascii "F 601 2 40") ≡ malformed
  pub pair_over : parsed (ascii "F 601 0 40") ≡ malformed
  pub half_pair : parsed (ascii "F 601 1 4") ≡ malformed
  -- 1..4 digits, 1..1000 ticks
  pub fewest : parsed (ascii "T 1") ≡ only (Ticks 1)
  pub most : parsed (ascii "T 1000") ≡ only (Ticks 1000)
  pub leading_zeros : parsed (ascii "T 0001") ≡ only (Ticks 1)
  pub five_digits : parsed (ascii "T 00001") ≡ malformed
  pub no_ticks : parsed (ascii "T 0") ≡ malformed
  pub too_many : parsed (ascii "T 1001") ≡ malformed
  -- 1..10 digits
  pub wide : parsed (ascii "S 4294967296") ≡ only (Sample 4294967296)
  pub ten_digits : parsed (ascii "S 9999999999") ≡ only (Sample 9999999999)
  pub eleven_digits : parsed (ascii "S 99999999999") ≡ malformed
  pub minus_one : parsed (ascii "S -1") ≡ malformed
  -- fields parted by one space
  pub two_spaces : parsed (ascii "T  1") ≡ malformed
  pub space_first : parsed (ascii " ?") ≡ malformed
  pub space_last : (parsed (ascii "? ") ≡ malformed) × (parsed (ascii "T 1 ") ≡ malformed) × (parsed (ascii "S - ") ≡ malformed)
  pub field_over : (parsed (ascii "? 1") ≡ malformed) × (parsed (ascii "T 1 1") ≡ malformed)
  pub no_field : (parsed (ascii "T") ≡ malformed) × (parsed (ascii "T ") ≡ malformed)
      × (parsed (ascii "S") ≡ malformed) × (parsed (ascii "F") ≡ malformed)
  pub no_space : parsed (ascii "T1") ≡ malformed
  pub empty : parsed [] ≡ malformed
  -- carriage return, tab, 00h
  pub return : parsed (ascii "?" ++ 0x0D ∷ []) ≡ malformed
  pub tab : parsed (ascii "T" ++ 0x09 ∷ ascii "1") ≡ malformed
  pub nul : (parsed (0x00 ∷ []) ≡ malformed) × (parsed (ascii "T 1" ++ 0x00 ∷ []) ≡ malformed)
