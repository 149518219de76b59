-- A kind that waits keeps its place, and a kind that joins stands behind, in 01's order.
use Prim.Native.Nat.{ℕ}
use lib.Dec.{eqb}
use lib.ListN.{drop}
use mathlib.Core.Path.{◌≡◌, sym, ap, ◌∙◌}
use mathlib.Core.Bool.{true, false, not, ◌&&◌, and-false, cond}
use mathlib.Core.List.{List, [], ◌∷◌}
use borrow.Author.Tests.{eqb-true}
use Rattle.cases.proofs.Cases.{by, test, true_false}
use Rattle.waiting.specs.Line.{places, has, first}
use Rattle.waiting.specs.Places.{waiting}
use Rattle.waiting.specs.Laws.{InOrder}
use Rattle.waiting.proofs.Laws.{laws}
use Rattle.waiting.proofs.Order.{among_trans}
use Rattle.parts.specs.declared.Core.{Core}
use Rattle.parts.specs.declared.Head.{Head}
use Rattle.promises.specs.WaitingLine.{Kind, number, may_stay, may_join}
use Rattle.promises.specs.Acts.{acted, moments_of}
use Rattle.promises.specs.Calls.{Call, is_slot, meant, step}
use Rattle.promises.specs.Valid.{waits, Valid}
use Rattle.promises.specs.FiveSlots.{Lined}
use Rattle.promises.proofs.KindNumbers.{has_those, among_those}
use Rattle.promises.proofs.Valid.{valid_step}
use Rattle.promises.proofs.Meant.{core_step}
use Rattle.promises.proofs.Turns.{machine, sound}
use Rattle.promises.proofs.Departures.{a_slot, sends_it, sent_gone}

dropped : (n : ℕ) (ws : List ℕ) → has n ws ≡ true → eqb (first ws) n ≡ false → has n (drop 1 ws) ≡ true
dropped n [] w e = w
dropped n (x ∷ xs) w e = rw e at w

module _ (h : Head) (v : Valid h) (c : Call) where
  abbrev ws : List ℕ
  ws = waiting h.line

  abbrev later : Core
  later = acted h.core (meant h c)

  pub turns : InOrder (is_slot c) (machine.out h c) (machine.into h c) ws
  turns = (laws places).in_order (is_slot c) (machine.out h c) (machine.into h c) ws

  module _ (k : Kind) (w : waits h k ≡ true) (y : waits (step h c) k ≡ true) where
    still_may : may_stay later k ≡ true
    still_may = sym (ap (λ x. may_stay x k) (core_step h c)) ∙ (valid_step h c v).only k y

    not_out : has (number k) (machine.out h c) ≡ false
    not_out =
        has_those (λ j. may_stay h.core j && not (may_stay later j)) k
        ∙ ap (λ t. may_stay h.core k && not t) still_may
        ∙ and-false (may_stay h.core k)

    not_first : is_slot c ≡ true → eqb (first ws) (number k) ≡ false
    not_first s =
        test (eqb (first ws) (number k))
        (λ e. true_false (sym y ∙ sent_gone h v c k (sends_it h v c k (a_slot c s) (eqb-true _ _ e))))
        (λ e. e)

    unsent : has (number k) (cond (is_slot c) (drop 1 ws) ws) ≡ true
    unsent = by (λ (l : List ℕ). has (number k) l ≡ true) (is_slot c) (λ s. dropped (number k) ws w (not_first s)) (λ _. w)

    stays : has (number k) turns.stayed ≡ true
    stays = turns.stays (number k) ∙ rw (not_out, unsent)

  pub lined : Lined h c
  lined =
      record {
        stayed = turns.stayed;
        joined = turns.came;
        line = sound.acts h c v ∙ turns.line;
        in_places = turns.waited;
        in_order = among_trans turns.joined (among_those (λ k. moments_of h.core (meant h c) k && may_join later k));
        keeps = stays;
      }
