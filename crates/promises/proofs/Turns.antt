-- The head is a machine of crate waiting: its calls do to the line what they tell, so each kind leaves in its turn.
use Prim.Native.Nat.{ℕ}
use mathlib.Core.Path.{◌≡◌, refl, sym, ap, ◌∙◌}
use mathlib.Core.Bool.{Bool, true, false, not, ◌&&◌, and-false}
use mathlib.Core.List.{List, [], ◌∷◌}
use borrow.Author.Tests.{not-true}
use Rattle.cases.proofs.Cases.{both}
use Rattle.waiting.specs.Line.{places, order, has}
use Rattle.waiting.specs.Places.{waiting}
use Rattle.waiting.specs.Trace as trace
use Rattle.waiting.specs.Trace.{Machine, Sound}
use Rattle.waiting.proofs.Laws.{laws, in_turn}
use Rattle.parts.specs.declared.Core.{Core}
use Rattle.parts.specs.declared.Head.{Head}
use Rattle.promises.specs.WaitingLine.{Kind, those, may_stay, may_join}
use Rattle.promises.specs.Acts.{acted, moments_of, goes, comes}
use Rattle.promises.specs.Calls.{Call, is_slot, meant, step}
use Rattle.promises.specs.Valid.{Valid}
use Rattle.promises.specs.Histories.{after, slots}
use Rattle.promises.proofs.KindNumbers.{kind_at, those_due_law}
use Rattle.promises.proofs.Waits.{stay_join, holds_act}
use Rattle.promises.proofs.Valid.{valid_step}

abbrev pub machine : Machine Head Call
machine =
    record {
      step = step;
      slot = is_slot;
      line = λ h. waiting h.line;
      out = λ h c. goes h.core (acted h.core (meant h c));
      into = λ h c. comes (moments_of h.core (meant h c)) (acted h.core (meant h c));
      Good = Valid;
    }

-- a kind that goes does not join in the same call: its condition has ended
module _ (before later : Core) (due : Kind → Bool) (n : ℕ) where
  abbrev k : Kind
  k = kind_at n

  picked : (t : Kind → Bool) → has n (those t) ≡ (t k && has n order)
  picked t = ap (has n) (those_due_law t) ∙ in_turn.exactly (λ j. t (kind_at j)) order n

  apart : has n (goes before later) ≡ true → has n (comes due later) ≡ false
  apart e =
      let stays = may_stay before k && not (may_stay later k) in
      let gone = (both stays (has n order) (sym (picked (λ j. may_stay before j && not (may_stay later j))) ∙ e)).0 in
      let over = stay_join later k (not-true (may_stay later k) (both (may_stay before k) (not (may_stay later k)) gone).1) in
      picked (λ j. due j && may_join later j)
      ∙ ap (λ t. due k && t && has n order) over
      ∙ ap (λ t. t && has n order) (and-false (due k))

pub sound : Sound machine places
sound =
    record {
      keeps = valid_step;
      kinds = λ h v. v.line.kinds;
      acts = λ h c v. (laws places).all (holds_act (is_slot c) h (meant h c) v);
      apart = λ h c n v. apart h.core (acted h.core (meant h c)) (moments_of h.core (meant h c)) n;
    }

pub runs_after : (cs : List Call) (h : Head) → trace.runs machine h cs ≡ after h cs
runs_after [] h = refl
runs_after (c ∷ cs) h = runs_after cs (step h c)

pub slots_slots : (cs : List Call) → trace.slots machine cs ≡ slots cs
slots_slots [] = refl
slots_slots (c ∷ cs) = rw (slots_slots cs)
