-- Proves `ByValue` of specs/ByValue.antt: the clauses say it, and the answer of a slot follows. Assumes nothing.
use mathlib.Core.Path.{◌≡◌, refl, sym, ap}
use mathlib.Core.Option.{Option, none, some}
use Rattle.std.specs.Prelude.{Option as Given, None, Some, MatchOption}
use Rattle.cases.proofs.Cases.{true_false}
use Rattle.can.specs.declared.Frame.{Frame}
use Rattle.promises.specs.Calls.{SlotAnswer, slot, is_frame, frame_in}
use Rattle.promises.specs.ByValue.{is_given, frame_given}
use Rattle.outcomes.specs.ByValue.{ByValue}
use Rattle.outcomes.proofs.Lent.{left}

-- the frame of the code is the one that is due
answers : (x : Given Frame) (y : Option Frame) → is_given x ≡ is_frame y → frame_given x ≡ frame_in y → MatchOption x (y ≡ none) (λ f. y ≡ some f)
answers None none w e = refl
answers None (some f) w e = true_false (sym w)
answers (Some g) none w e = true_false w
answers (Some g) (some f) w e = ap some (sym e)

pub by_value : ByValue
by_value =
    record {
      slots = λ s h known so. (
        answers s.frame _ (ap (λ (a : SlotAnswer). a.waited) so.0) (ap (λ (a : SlotAnswer). a.frame) so.0),
        left slot h s.head known (ap (λ (a : SlotAnswer). a.head) so.0),
      );
      power_up_law = λ κs a r e x. x;
      receive = λ κs a r e x. x;
      tick = λ κs a r e x. x;
      sample = λ κs a r e x. x;
      sample_missing_law = λ κs a r e x. x;
      sample_raw_law = λ κs a r e x. x;
      slot = λ κs a r e x. x;
    }
