-- How a kind leaves in one call: a kind that waited and no longer waits was
-- sent or withdrawn, and a kind that is sent or withdrawn no longer waits.
use lib.Dec.{eqb}
use mathlib.Core.Path.{◌≡◌, refl, sym, ap, ◌∙◌}
use mathlib.Core.Logic.{◌⊎◌, inl, ⊎_map}
use mathlib.Core.Bool.{Bool, true, false, not, ◌&&◌, ◌||◌, or-true}
use borrow.Author.Tests.{eqb-true}
use Rattle.cases.proofs.Cases.{both, test, true_false}
use Rattle.waiting.specs.Line.{first}
use Rattle.waiting.specs.Places.{waiting}
use Rattle.parts.specs.declared.Head.{Head}
use Rattle.promises.specs.WaitingLine.{Kind, number, may_stay, may_join}
use Rattle.promises.specs.Acts.{acted, moments_of}
use Rattle.promises.specs.Calls.{Call, receive, tick, sample, slot, is_slot, meant, step}
use Rattle.promises.specs.Valid.{waits, Valid}
use Rattle.promises.specs.Withdrawals.{Withdrawal}
use Rattle.promises.specs.FiveSlots.{Sends}
use Rattle.promises.proofs.Waits.{waits_act, sends}
use Rattle.promises.proofs.Valid.{valid_step}
use Rattle.promises.proofs.Slots.{answers, awake, sends_first}
use Rattle.promises.proofs.Meant.{core_step, leaves}
use Rattle.promises.proofs.Withdrawals.{listed}
use Rattle.promises.proofs.Ended.{ended}

pub a_slot : (c : Call) → is_slot c ≡ true → c ≡ slot
a_slot (receive f) e = true_false (sym e)
a_slot tick e = true_false (sym e)
a_slot (sample s) e = true_false (sym e)
a_slot slot e = refl

-- m whether it joins, y and z whether it may stay before and after, s whether a slot sends it, w whether it waited:
-- what waited, no longer waits and still may was sent
was_sent : (m y z s w : Bool) → y ≡ true → z ≡ true → w ≡ true → (m || (not (y && not z) && (not s && w))) ≡ false → s ≡ true
was_sent m y z true w a b c e = refl
was_sent m y z false w a b c e = true_false (sym (or-true m) ∙ (rw (a, b, c) at e))

module _ (h : Head) (v : Valid h) where
  pub sends_it : (c : Call) (k : Kind) → c ≡ slot → first (waiting h.line) ≡ number k → Sends h c k
  sends_it c k s e =
      let x = answers h (sends_first h v (awake h v k e) k e) in record { is_slot_law = s; is_first = e; waited = x.0; answer = x.1 }

  pub sent_gone : (c : Call) (k : Kind) → Sends h c k → waits (step h c) k ≡ false
  sent_gone c k x = rw x.is_slot_law (leaves h v (awake h v k x.is_first) k x.is_first)

  pub withdrawn_gone : (c : Call) (k : Kind) → Withdrawal h c k → waits (step h c) k ≡ false
  withdrawn_gone c k x = test (waits (step h c) k) (λ y. true_false (sym ((valid_step h c v).only k y) ∙ ended h v x)) (λ n. n)

  pub only_so : (c : Call) (k : Kind) → waits h k ≡ true → waits (step h c) k ≡ false → Sends h c k ⊎ Withdrawal h c k
  only_so c k w n =
      let a = meant h c in
      let later = acted h.core a in
      let y = v.only k w in
      let comes = moments_of h.core a k && may_join later k in
      test (may_stay later k)
      (λ z.
      let s : sends (is_slot c) h k ≡ true =
      was_sent comes (may_stay h.core k) (may_stay later k) (sends (is_slot c) h k) (waits h k) y z w
      (sym (waits_act (is_slot c) h a v k) ∙ n) in
      let u = both (is_slot c) (eqb (first (waiting h.line)) (number k)) s in
      inl (sends_it c k (a_slot c u.0) (eqb-true _ _ u.1)))
      (λ z. ⊎_map (λ u. sends_it c k u.0 u.1) (λ u. u) (listed h v c k y (ap (λ x. may_stay x k) (core_step h c) ∙ z)))
