-- Proves the examples of specs/Worked.antt by computation. Assumes nothing.
use mathlib.Core.Path.{refl}
use Rattle.text.specs.Lines.{line_of}
use Rattle.text.specs.Grammar.{parsed}
use Rattle.text.specs.Printed.{frame_text, refusal_text}
use Rattle.text.specs.Worked.{Worked}

pub worked : Worked
unfolding line_of parsed frame_text refusal_text
worked =
    record {
      letters = refl;
      numerals = refl;
      hex_letters = refl;
      session = refl;
      slot = refl;
      sample = refl;
      frame = refl;
      missing = refl;
      boot_up = refl;
      emergency = refl;
      emergency_over = refl;
      reply = refl;
      none = refl;
      refusals = (refl, refl, refl, refl);
      capitals = refl;
      no_bytes = refl;
      end_of_input = refl;
      no_input = refl;
      longest_line = refl;
      too_long = refl;
      long_refused = refl;
      either_case = refl;
      eight_digits = refl;
      nine_digits = refl;
      hex_len = refl;
      no_len = refl;
      eight_for_nine = refl;
      nine_for_nine = refl;
      pair_missing = refl;
      pair_over = refl;
      half_pair = refl;
      fewest = refl;
      most = refl;
      leading_zeros = refl;
      five_digits = refl;
      no_ticks = refl;
      too_many = refl;
      wide = refl;
      ten_digits = refl;
      eleven_digits = refl;
      minus_one = refl;
      two_spaces = refl;
      space_first = refl;
      space_last = (refl, refl, refl);
      field_over = (refl, refl);
      no_field = (refl, refl, refl, refl);
      no_space = refl;
      empty = refl;
      return = refl;
      tab = refl;
      nul = (refl, refl);
    }
