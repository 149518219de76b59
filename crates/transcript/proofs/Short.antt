-- The text that a line prints is kept complete: it has at most 64 bytes.
use Prim.Native.Nat.{ℕ, ◌≤◌}
use mathlib.Core.Path.{◌≡◌}
use mathlib.Core.List.{List}
use native.Mathlib.Omega.{arith}
use lib.Dec.{eqb}
use lib.ListN.{length, length-take}
use Rattle.std.specs.Prelude.{None, Some}
use Rattle.cases.proofs.Cases.{by}
use Rattle.can.specs.declared.Frame.{Frame as Data}
use Rattle.parts.specs.declared.Core.{Core}
use Rattle.parts.specs.declared.Head.{Head}
use Rattle.parts.specs.declared.Answer.{Answer}
use Rattle.parts.specs.declared.Sensor.TheVariants.{Missing as missing, Raw}
use Rattle.promises.specs.WaitingLine.{Kind, emergency, sdo_reply, heartbeat, tpdo, frame_of}
use Rattle.promises.specs.Acts.{Act, nothing, enter, reset, boot, idle, send, take, lose, time, sync, serve, frame_by}
use Rattle.promises.specs.Calls.{receive, sample, slot, meant, slot_answer, is_frame, frame_in as frameOr}
use Rattle.text.specs.Lines.{longest, line_of, held}
use Rattle.text.specs.Printed.{frame_text, refusal_text}
use Rattle.text.specs.Grammar.{Parsed}
use Rattle.text.specs.declared.Command.TheVariants.{Frame, Ticks, Sample, Missing, Slot}
use Rattle.text.proofs.Roundtrip.{frame_short}
use Rattle.text.proofs.Laws.{laws}
use Rattle.transcript.specs.Commands.{Outcome, told, frame_in, called, obeyed}

kind_short : (c : Core) (k : Kind) → (frame_of c k).length ≤ 8
kind_short c emergency = omega arith
kind_short c sdo_reply = omega arith
kind_short c heartbeat = omega arith
kind_short c (tpdo w) = omega arith

sent_short : (c : Core) (a : Act) → (frameOr (frame_by c a)).length ≤ 8
sent_short c nothing = omega arith
sent_short c (enter g) = omega arith
sent_short c (reset r) = omega arith
sent_short c boot = omega arith
sent_short c idle = omega arith
sent_short c (send k) = kind_short c k
sent_short c (take r) = omega arith
sent_short c lose = omega arith
sent_short c time = omega arith
sent_short c sync = omega arith
sent_short c (serve s) = omega arith

frame_fits : (f : Data) → f.length ≤ 8 → length (frame_text f) ≤ longest
frame_fits f h = frame_short f (omega (arith, length-take f.length f.bytes))

refusal_fits : (n : ℕ) → length (refusal_text n) ≤ longest
unfolding refusal_text
refusal_fits n = omega arith

told_fits : (a : Answer) → length (told a).text ≤ longest
unfolding told
told_fits a = by (λ (o : Outcome). length o.text ≤ longest) (eqb a.refusal 0) (λ _. omega arith) (λ _. refusal_fits a.refusal)

fits : (h : Head) (p : Parsed) → length (obeyed h p).text ≤ longest
fits h None = refusal_fits 9
fits h (Some (Frame id len bytes)) = told_fits (called h (receive (frame_in id len bytes)))
fits h (Some (Ticks n)) = omega arith
fits h (Some (Sample r)) = told_fits (called h (sample (Raw r)))
fits h (Some Missing) = told_fits (called h (sample missing))
fits h (Some Slot) =
    by (λ (t : List ℕ). length t ≤ longest) (is_frame (slot_answer h))
    (λ _. frame_fits (frameOr (slot_answer h)) (sent_short h.core (meant h slot)))
    (λ _. omega arith)

pub held_obeyed : (h : Head) (p : Parsed) → held (line_of (obeyed h p).text) ≡ (obeyed h p).text
held_obeyed h p = laws.held_line (obeyed h p).text (fits h p)
