-- The smallest head is a machine, so it keeps its promise; the example shows that the promise can be met. Assumes nothing.
use Prim.Native.Nat.{ℕ}
use mathlib.Core.Path.{refl, sym, ◌∙◌}
use mathlib.Core.Bool.{or-false}
use mathlib.Core.List.{[], ◌∷◌}
use lib.Dec.{eqb}
use borrow.Author.Rules.{rules}
use borrow.Author.Tests.{eqb-true}
use Rattle.cases.specs.Padded.{pad}
use Rattle.cases.proofs.Cases.{true_false}
use Rattle.waiting.specs.Line.{places, emergency, tpdo1, tpdo2}
use Rattle.waiting.specs.Calls.{Named, none, more}
use Rattle.waiting.specs.Worked.{all_wait}
use Rattle.waiting.specs.Trace.{Sound}
use Rattle.waiting.specs.Plain.{Apart, Call, slot_call, other_call, is_slot, out_of, into_of, plain, BySlotN, calls, Example}
use Rattle.waiting.proofs.Holds.{holds_after}
use Rattle.waiting.proofs.Slots.{leaves, demand3, recorded}

named : {n : ℕ} (c : Call n) → Named n (into_of c)
named slot_call = none
named (other_call out into m a) = m

apart : {n : ℕ} (c : Call n) → Apart (out_of c) (into_of c)
apart slot_call k h = refl
apart (other_call out into m a) k h = a k h

plain_sound : (n : ℕ) → Sound (plain n) n
plain_sound n =
    record {
      keeps = λ ws c h.
          (holds_after {l = pad n ws} (is_slot c) (out_of c) (into_of c) (named c) (record { shape = refl; kinds = h })).kinds;
      kinds = λ ws h. h;
      acts = λ ws c h. refl;
      apart = λ ws c k h. apart c k;
    }

pub by_slot_n : (n : ℕ) → BySlotN n
by_slot_n n =
    record {
      in_turn = leaves (plain n) (plain_sound n);
      by_slot_n = demand3 (plain n) (plain_sound n);
      recorded = λ b k ws cs. recorded (plain n);
    }

kept : Named places (emergency ∷ [])
kept = search (none, more, rules)

other : Apart (tpdo1 ∷ []) (emergency ∷ [])
other k h = rw (← eqb-true tpdo1 k (sym (or-false (eqb tpdo1 k)) ∙ h))

again : Named places (tpdo1 ∷ tpdo2 ∷ [])
again = search (none, more, rules)

none_out : Apart [] (tpdo1 ∷ tpdo2 ∷ [])
none_out k h = true_false (sym h)

pub example : Example
example =
    record {
      kept = kept;
      other = other;
      again = again;
      none_out = none_out;
      leaves = (by_slot_n places).by_slot_n all_wait emergency (calls kept other again none_out) (search rules) refl (search rules);
      five_slots = refl;
      all_sent = refl;
    }
