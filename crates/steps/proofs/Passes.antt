-- Proves `Laws` of specs/Passes.antt.
use mathlib.Core.Path.{◌≡◌, sym, ap}
use mathlib.Core.Bool.{true}
use borrow.Author.Tests.{ne_eqb}
use Rattle.std.specs.Prelude.{Option, None, Some, Result, Ok, Err}
use Rattle.cases.proofs.Cases.{true_false}
use Rattle.can.specs.declared.Received.{Received}
use Rattle.can.specs.declared.Refusal.{Refusal}
use Rattle.can.specs.Frame.{refusal_of, number_in}
use Rattle.parts.specs.declared.Answer.{Answer}
use Rattle.parts.specs.declared.Head.{Head}
use Rattle.promises.specs.Calls.{receive, step, refusal_by}
use Rattle.promises.specs.Valid.{Valid}
use Rattle.steps.specs.declared.hear.Heard.{Heard}
use Rattle.steps.specs.Passes.{heard_in, lets_pass, Laws}
use Rattle.steps.proofs.Received.{Obeys, obeys}

module _ (h : Head) (v : Valid h) (f : Received) where
  unchanged : (z : Result (Option Heard) Refusal) → Obeys h v f z → lets_pass z ≡ true → step h (receive f) ≡ h
  unchanged (Err r) p e = sym (ap (λ (a : Answer). a.head) p.0)
  unchanged (Ok None) p e = sym (ap (λ (a : Answer). a.head) p.0.0)
  unchanged (Ok (Some x)) p e = true_false (sym e)

  number : (z : Result (Option Heard) Refusal) → Obeys h v f z → number_in z ≡ refusal_by (receive f)
  number (Err r) p = ap (λ (a : Answer). a.refusal) p.0
  number (Ok x) p = ap (λ (a : Answer). a.refusal) p.0.0

pub laws : Laws
laws h f v =
    record {
      unchanged = unchanged h v f (heard_in h f) (obeys h v f);
      refusal = number h v f (heard_in h f) (obeys h v f);
      refused = λ n. rw (ne_eqb (refusal_of f) 0 n);
    }
