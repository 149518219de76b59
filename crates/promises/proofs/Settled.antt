-- The line of a valid head as it settles, by who waits: withdrawing a kind that
-- does not wait changes nothing, and neither does an emergency that joins again.
use Prim.Native.Nat.{ℕ}
use native.Mathlib.Omega.{arith}
use mathlib.Core.Path.{◌≡◌, refl, sym, ap, ◌∙◌}
use mathlib.Core.Bool.{Bool, true, not, ◌&&◌, cond}
use mathlib.Core.List.{List, ◌∷◌}
use Rattle.cases.proofs.Cases.{by}
use Rattle.waiting.specs.Line as line
use Rattle.waiting.specs.Line.{places, has}
use Rattle.waiting.specs.Places.{waiting}
use Rattle.waiting.specs.Calls.{joins_in, withdraws_in}
use Rattle.waiting.proofs.Unmoved.{keeps_place, same_taken, waiting_kind}
use Rattle.parts.specs.declared.Core.{Core}
use Rattle.parts.specs.declared.Head.{Head}
use Rattle.promises.specs.WaitingLine.{Kind, number, those, is_alerting, may_stay}
use Rattle.promises.specs.Acts.{goes}
use Rattle.promises.specs.Valid.{Valid}
use Rattle.promises.proofs.KindNumbers.{kind_at, number_is, has_those}

module _ (h : Head) (v : Valid h) where
  abbrev c : Core
  c = h.core

  -- a list may be withdrawn if it is right for those of its kinds that wait
  pub withdrawn : (t : Kind → Bool) (d : Core) → ((k : Kind) → may_stay c k ≡ true → t k ≡ not (may_stay d k))
      → withdraws_in h.line (those t) ≡ withdraws_in h.line (goes c d)
  withdrawn t d right = same_taken v.line (those t) (goes c d) (λ n e.
      let named = waiting_kind places n (waiting h.line) v.line.kinds e in
      let k = kind_at n in
      let q : number k ≡ n = number_is n named.0 named.1 in
      let waits : has (number k) (waiting h.line) ≡ true = rw q e in
      let may : may_stay c k ≡ true = v.only k waits in
      ap (λ m. has m (those t)) (sym q)
      ∙ has_those t k
      ∙ right k may
      ∙ ap (λ b. b && not (may_stay d k)) (sym may)
      ∙ sym (has_those (λ j. may_stay c j && not (may_stay d j)) k)
      ∙ ap (λ m. has m (goes c d)) q)

  -- an emergency that may wait waits already
  pub alerts_already : (ks : List ℕ) → joins_in h.line (cond (is_alerting c) (line.emergency ∷ ks) ks) ≡ joins_in h.line ks
  alerts_already ks =
      by (λ (r : List ℕ). joins_in h.line r ≡ joins_in h.line ks) (is_alerting c)
      (λ e. ap (λ l. joins_in l ks) (keeps_place v.line line.emergency (omega arith) (omega arith) (v.urgent e)))
      (λ _. refl)
