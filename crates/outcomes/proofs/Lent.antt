-- Proves `Lent` of specs/Lent.antt. Assumes nothing.
use mathlib.Core.Path.{◌≡◌, sym, ap, subst}
use Rattle.parts.specs.declared.Head.{Head}
use Rattle.parts.specs.declared.Answer.{Answer}
use Rattle.promises.specs.Calls.{SlotAnswer, Call, receive, tick, sample, slot, step}
use Rattle.promises.specs.Histories.{Reachable}
use Rattle.promises.proofs.Demand1.{demand1}
use Rattle.outcomes.specs.Lent.{Left, Lent}

pub left : (c : Call) (h h' : Head) → Reachable h → h' ≡ step h c → Left h c h'
left c h h' r e = record { is_step = e; reachable = subst Reachable (sym e) (demand1.goes_on h c r) }

pub lent : Lent
lent =
    record {
      powers_up = λ p r h so. let e = ap (λ (a : Answer). a.head) so.0 in
          (ap (λ (a : Answer). a.refusal) so.0, e, subst Reachable (sym e) (demand1.starts p));
      receives = λ f r h h' known so.
          (ap (λ (a : Answer). a.refusal) so.0, left (receive f) h h' known (ap (λ (a : Answer). a.head) so.0));
      ticks = λ h h' known so. left tick h h' known so.0;
      samples = λ s r h h' known so.
          (ap (λ (a : Answer). a.refusal) so.0, left (sample s) h h' known (ap (λ (a : Answer). a.head) so.0));
      slots = λ o h h' known so. (
        ap (λ (s : SlotAnswer). s.waited) so.0,
        ap (λ (s : SlotAnswer). s.frame) so.0,
        left slot h h' known (ap (λ (s : SlotAnswer). s.head) so.0),
      );
    }
