-- Proves `Laws` of specs/Laws.antt. Assumes nothing.
use native.Mathlib.Omega.{arith}
use lib.ListN.{length-take}
use Rattle.text.specs.Printed.{frame_text, none_text, refusal_text}
use Rattle.text.specs.Laws.{Laws}
use Rattle.text.proofs.Growing.{push_line, held_line, says_line_law, handed_lines}
use Rattle.text.proofs.Bounds.{in_bounds}
use Rattle.text.proofs.Roundtrip.{one_line, frame_back, frame_short}

pub laws : Laws
unfolding refusal_text
laws =
    record {
      handed_lines = handed_lines;
      push_line = push_line;
      held_line = held_line;
      held_frame = λ f h. held_line (frame_text f) (frame_short f (omega (arith, length-take f.length f.bytes)));
      held_none = held_line none_text (omega arith);
      held_refusal = λ n. held_line (refusal_text n) (omega arith);
      one_line = one_line;
      says_line_law = says_line_law;
      within = in_bounds;
      frame_back = frame_back;
    }
