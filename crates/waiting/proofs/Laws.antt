-- Proves `Laws` and `InTurn` of specs/Laws.antt. Assumes nothing.
use Prim.Native.Nat.{ℕ}
use mathlib.Core.Path.{refl}
use Rattle.waiting.specs.Line.{order}
use Rattle.waiting.specs.Laws.{Laws, InTurn}
use Rattle.waiting.proofs.Room.{finds_room}
use Rattle.waiting.proofs.Holds.{holds_none, holds_join, holds_withdraw, holds_taken, holds_first, holds_idle, holds_has}
use Rattle.waiting.proofs.Holds.{holds_waiting, holds_after}
use Rattle.waiting.proofs.Order.{in_order, among_trans}
use Rattle.waiting.proofs.Lines.{once}
use Rattle.waiting.proofs.After.{has_after}
use Rattle.waiting.proofs.Due.{among_due, has_due, named_due, named_order, join_due}

pub laws : (n : ℕ) → Laws n
laws n =
    record {
      once = once n;
      room = finds_room n;
      none = holds_none n;
      joins = λ k pos top h. holds_join h k pos top;
      withdraws = λ k h. holds_withdraw h k;
      taken = λ h. holds_taken h;
      first_of_law = λ h. holds_first h;
      idle = λ h e. holds_idle h e;
      waits = λ k pos h. holds_has h k pos;
      all = λ h. holds_waiting h;
      holds = λ slot out into m h. holds_after slot out into m h;
      in_order = in_order;
      waits_after = has_after n;
    }

pub in_turn : InTurn
in_turn =
    record {
      five = refl;
      numbered = (refl, refl, refl, refl, refl);
      in_this_order = refl;
      among = among_due;
      exactly = has_due;
      named = named_due;
      all_named = named_order;
      came_in_turn = λ slot due out ws u. among_trans u.joined (among_due due order);
      flags = λ a b c d e. (refl, refl, refl, refl, refl);
      one_by_one = join_due;
    }
