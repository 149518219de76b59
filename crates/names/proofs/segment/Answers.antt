-- `segment` meets its contract, by its eight bytes.
use native.Mathlib.Nat.{mul_comm}
use Rattle.names.proofs.Segments.{segment_of_law}
use Rattle.names.proofs.segment.Goals as goal

pub returns : goal.returns
returns c =
    rw (
      c.byte_at-7.ensures,
      c.byte_at-6.ensures,
      c.byte_at-5.ensures,
      c.byte_at-4.ensures,
      c.byte_at-3.ensures,
      c.byte_at-2.ensures,
      c.byte_at.ensures,
    )
    (segment_of_law _ _ _ _ c.command.ensures (mul_comm _ 7))
