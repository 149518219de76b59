-- A refusal prints its number and leaves the head unchanged.
use Prim.Native.Nat.{ℕ, ◌≤◌, ◌<◌}
use mathlib.Core.Path.{◌≡◌}
use mathlib.Core.List.{List}
use native.Mathlib.Omega.{arith}
use lib.ListN.{length}
use Rattle.std.specs.Prelude.{Some}
use borrow.Author.Tests.{lt-ltb, le-ltb, ne_eqb}
use Rattle.can.specs.declared.Received.{Received}
use Rattle.can.specs.Frame.{refusal_of}
use Rattle.parts.specs.declared.Head.{Head}
use Rattle.parts.specs.declared.Answer.{Answer}
use Rattle.parts.specs.declared.Sensor.TheVariants.{Raw}
use Rattle.promises.specs.Calls.{receive, sample, refusal_by}
use Rattle.promises.proofs.Demand1.{demand1}
use Rattle.text.specs.Lines.{longest}
use Rattle.text.specs.Grammar.{malformed, says}
use Rattle.text.specs.declared.Command.TheVariants.{Frame, Sample}
use Rattle.transcript.specs.Commands.{refused, told, frame_in, called, obeyed}
use Rattle.transcript.specs.Talk.{reply}

told_refused : {h : Head} {n : ℕ} (a : Answer) → (a.refusal ≡ 0 → ⊥) → a.refusal ≡ n → a.head ≡ h → told a ≡ refused n h
unfolding told
told_refused a z e p = rw (ne_eqb a.refusal 0 z, e, p)

frame_refused : (h : Head) (f : Received) {n : ℕ} → 0 < n → refusal_of f ≡ n → told (called h (receive f)) ≡ refused n h
frame_refused h f {n} b e =
    let z : refusal_of f ≡ 0 → ⊥ = λ q. omega arith in
    told_refused (called h (receive f)) z e (demand1.frame_refused h f z)

module _ (h : Head) (bytes : List ℕ) (id len : ℕ) where
  pub identifier_refused : 0x7FF < id → obeyed h (Some (Frame id len bytes)) ≡ refused 1 h
  identifier_refused b = frame_refused h (frame_in id len bytes) (omega arith) (rw (lt-ltb 0x7FF id b))

  pub length_refused : id ≤ 0x7FF → 8 < len → obeyed h (Some (Frame id len bytes)) ≡ refused 2 h
  length_refused a b = frame_refused h (frame_in id len bytes) (omega arith) (rw (le-ltb 0x7FF id a, lt-ltb 8 len b))

pub sample_refused : (h : Head) (r : ℕ) → 1048575 < r → obeyed h (Some (Sample r)) ≡ refused 3 h
sample_refused h r b =
    let e : refusal_by (sample (Raw r)) ≡ 3 = rw (lt-ltb 1048575 r b) in
    let z : refusal_by (sample (Raw r)) ≡ 0 → ⊥ = λ q. omega arith in
    told_refused (called h (sample (Raw r))) z e (demand1.sample_refused h (Raw r) z)

pub malformed_refused : (h : Head) (l : List ℕ) → says l ≡ malformed → reply h l ≡ refused 9 h
malformed_refused h l e = rw e

pub too_long : (h : Head) (l : List ℕ) → longest < length l → reply h l ≡ refused 9 h
too_long h l b = rw (lt-ltb longest (length l) b)
