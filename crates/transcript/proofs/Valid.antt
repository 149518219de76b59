-- Every line, every byte and every input leaves a valid head.
use Prim.Native.Nat.{ℕ}
use mathlib.Core.List.{List}
use native.Mathlib.Omega.{arith}
use Rattle.dictionary.proofs.Worked.{named1}
use Rattle.parts.specs.declared.Head.{Head}
use Rattle.promises.specs.Valid.{Valid}
use Rattle.promises.proofs.Valid.{valid_step, valid_started}
use Rattle.text.specs.Grammar.{Parsed}
use Rattle.text.specs.declared.Line.{Line}
use Rattle.transcript.specs.declared.Session.{Session}
use Rattle.transcript.specs.Commands.{obeyed}
use Rattle.transcript.specs.Bytes.{answered, started, fed, after}
use Rattle.transcript.proofs.Kept.{obeyed_kept, answered_kept, fed_kept, after_kept}

pub valid_obeyed : (h : Head) (p : Parsed) → Valid h → Valid (obeyed h p).head
valid_obeyed = obeyed_kept Valid valid_step

pub valid_answered : (h : Head) (r : Line) → Valid h → Valid (answered h r).head
valid_answered = answered_kept Valid valid_step

pub valid_fed : (s : Session) (b : ℕ) → Valid s.head → Valid (fed s b).session.head
valid_fed = fed_kept Valid valid_step

pub valid_after : (s : Session) (bs : List ℕ) → Valid s.head → Valid (after s bs).head
valid_after = after_kept Valid valid_step

pub valid_start : Valid started.head
valid_start =
    valid_started 1 _ (omega arith) (omega arith) named1
