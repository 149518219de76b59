-- A property that every call keeps is kept by every line, every byte and every input.
use Prim.Native.Nat.{ℕ, zero, suc}
use Prim.Native.Char.{code}
use mathlib.Core.List.{List, [], ◌∷◌}
use lib.Dec.{eqb}
use Rattle.cases.proofs.Cases.{by}
use Rattle.parts.specs.declared.Head.{Head}
use Rattle.parts.specs.declared.Answer.{Answer}
use Rattle.parts.specs.declared.Sensor.TheVariants.{Missing as missing, Raw}
use Rattle.promises.specs.Calls.{Call, receive, tick, sample, slot, step}
use Rattle.std.specs.Prelude.{None, Some}
use Rattle.text.specs.Grammar.{Parsed, says_line}
use Rattle.text.specs.declared.Command.TheVariants.{Frame, Ticks, Sample, Missing, Slot}
use Rattle.text.specs.declared.Line.{Line}
use Rattle.transcript.specs.declared.Session.{Session}
use Rattle.transcript.specs.Commands.{Outcome, told, frame_in, ticks, called, obeyed}
use Rattle.transcript.specs.Bytes.{answered, fed, after}

module _ (Good : Head → Type 0) (kept : (h : Head) (c : Call) → Good h → Good (step h c)) where
  told_kept : (a : Answer) → Good a.head → Good (told a).head
  unfolding told
  told_kept a v = by (λ (o : Outcome). Good o.head) (eqb a.refusal 0) (λ _. v) (λ _. v)

  ticks_kept : (n : ℕ) (h : Head) → Good h → Good (ticks n h)
  ticks_kept zero h v = v
  ticks_kept (suc n) h v = kept (ticks n h) tick (ticks_kept n h v)

  pub obeyed_kept : (h : Head) (p : Parsed) → Good h → Good (obeyed h p).head
  obeyed_kept h None v = v
  obeyed_kept h (Some (Frame id len bytes)) v = let f = frame_in id len bytes in told_kept (called h (receive f)) (kept h (receive f) v)
  obeyed_kept h (Some (Ticks n)) v = ticks_kept n h v
  obeyed_kept h (Some (Sample r)) v = told_kept (called h (sample (Raw r))) (kept h (sample (Raw r)) v)
  obeyed_kept h (Some Missing) v = told_kept (called h (sample missing)) (kept h (sample missing) v)
  obeyed_kept h (Some Slot) v = kept h slot v

  pub answered_kept : (h : Head) (r : Line) → Good h → Good (answered h r).head
  unfolding answered
  answered_kept h r v = obeyed_kept h (says_line r) v

  pub fed_kept : (s : Session) (b : ℕ) → Good s.head → Good (fed s b).session.head
  unfolding fed
  fed_kept s b v = by (λ (t : Session). Good t.head) (eqb b (code "\n")) (λ _. answered_kept s.head s.line v) (λ _. v)

  pub after_kept : (s : Session) (bs : List ℕ) → Good s.head → Good (after s bs).head
  after_kept s [] v = v
  after_kept s (b ∷ bs) v = after_kept (fed s b).session bs (fed_kept s b v)
