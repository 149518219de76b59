-- Proves the examples of specs/Worked.antt by computation. Assumes nothing.
use mathlib.Core.Path.{refl}
use Rattle.waiting.specs.Worked.{Worked}

pub worked : Worked
worked =
    record {
      three_join = refl;
      emergency_first = refl;
      then_heartbeat = refl;
      then_tpdo1 = refl;
      then_none = refl;
      none_sent = refl;
      none_taken = refl;
      no_priority = refl;
      in_turn = refl;
      behind = refl;
      once = refl;
      full = refl;
      last_place = refl;
      middle = refl;
      not_there = refl;
      missing = refl;
      stopped = refl;
      slot = refl;
      again = refl;
      some_wait = refl;
      it_waits = refl;
      it_does_not = refl;
    }
