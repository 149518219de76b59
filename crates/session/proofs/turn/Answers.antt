-- What a chunk prints is a part of the buffer.
use Rattle.std.proofs.Math.Seq.{length-take-le}
use Rattle.std.proofs.Common.{sym}
use Rattle.feeding.proofs.Feeding.{chunk_share}
use Rattle.session.proofs.turn.Goals as goal

pub slice_bounds-print-end : goal.slice_bounds-print-end
slice_bounds-print-end c = chunk_share _ _ _ c.chunk-done.ensures.0 c.chunk-done.ensures.1 c.chunk-done.auto.out

pub slice_bounds-print-end-in-Ok : goal.slice_bounds-print-end-in-Ok
slice_bounds-print-end-in-Ok c =
    sym (length-take-le _ _ (chunk_share _ _ _ c.chunk-done.ensures.0 c.chunk-done.ensures.1 c.chunk-done.auto.out))
