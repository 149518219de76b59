-- The frame of a reply: 580h+N, 8 bytes. 01, chapter "Service requests".
use Rattle.std.specs.Prelude.{ℕ, ◌+◌, List}
use Rattle.can.specs.declared.Frame.{Frame}

abbrev pub reply_frame : ℕ → List ℕ → Frame
reply_frame node reply = record { identifier = 0x580 + node; length = 8; bytes = reply }
