-- The answer of a slot by value, in the words of the lent call: one frame, or none. 01, chapter "The head and its neighbours".
use Rattle.std.specs.Prelude.{Bool, true, false, Option, None, Some}
use Rattle.can.specs.declared.Frame.{Frame}
use Rattle.parts.specs.declared.Sent.{Sent}
use Rattle.promises.specs.Calls.{SlotAnswer, no_frame}

abbrev pub is_given : Option Frame → Bool
is_given None = false
is_given (Some f) = true

abbrev pub frame_given : Option Frame → Frame
frame_given None = no_frame
frame_given (Some f) = f

abbrev pub answer_in : Sent → SlotAnswer
answer_in s = record { waited = is_given s.frame; frame = frame_given s.frame; head = s.head }
