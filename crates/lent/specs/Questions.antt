-- What a host may ask about the head that it keeps, without changing it. 01, chapter "The head and its neighbours".
use Rattle.std.specs.Prelude.{ℕ, eqb, Bool, true, false, not, ◌&&◌, ◌||◌, None as Blank, Some as Number}
use Rattle.std.proofs.Math.Option.{Option, none, some}
use Rattle.dictionary.specs.Shown.{Shown}
use Rattle.parts.specs.declared.Head.{Head}
use Rattle.waiting.specs.Line as line
use Rattle.waiting.specs.Line.{first}
use Rattle.promises.specs.States.{communication}
use Rattle.promises.specs.Timers.{synchronous}
use Rattle.promises.specs.Calls.{slot_answer, is_frame}
use Rattle.promises.specs.Readings.{reads_in}
use Rattle.lent.specs.declared.Located.{Located}

-- Each NMT state is named with its heartbeat code; Initialising with that of the boot-up frame.
abbrev pub state_code : Head → ℕ
state_code h = h.core.nmt.code

abbrev pub is_good : Head → Bool
is_good h = h.core.device.reading.good

-- a number, and none for a blank: blank is not zero
abbrev pub number_in : Option Shown → Located
number_in none = record { known = false; position = 0 }
number_in (some Blank) = record { known = false; position = 0 }
number_in (some (Number n)) = record { known = true; position = n }

-- 6004-0: position; blank while missing
abbrev pub position_of : Head → Located
position_of h = number_in (reads_in h 0x6004 0)

-- whether a slot would send a frame
abbrev pub any_waits : Head → Bool
any_waits h = is_frame (slot_answer h)

-- whether a slot would send a position frame that a missing sample would take: one of types 254 and 255
abbrev pub goes_if_missing : Head → Bool
goes_if_missing h =
    let k = first h.line in
    let s = communication h.core in
    (eqb k line.tpdo1 && not (synchronous s.pdo1)) || (eqb k line.tpdo2 && not (synchronous s.pdo2))
