-- What a slot means, by what waits: the boot-up frame in Initialising, otherwise nothing or the first of the line.
use mathlib.Core.Path.{◌≡◌}
use mathlib.Core.Bool.{true, false}
use mathlib.Core.List.{[]}
use mathlib.Core.Logic.{⊎_elim}
use Rattle.cases.proofs.Cases.{test}
use Rattle.waiting.specs.Line.{places, first}
use Rattle.waiting.specs.Places.{waiting}
use Rattle.waiting.proofs.Laws.{laws}
use Rattle.parts.specs.declared.Head.{Head}
use Rattle.promises.specs.States.{is_initialising}
use Rattle.promises.specs.WaitingLine.{Kind, number}
use Rattle.promises.specs.Acts.{Act, boot, idle, send}
use Rattle.promises.specs.Calls.{slot, meant}
use Rattle.promises.specs.Valid.{waits, Valid}
use Rattle.promises.proofs.KindNumbers.{first_of_law}
use Rattle.promises.proofs.Slots.{boots, sends_first}

pub data AtSlot (h : Head) : Act → Type 0 where
  booting : is_initialising h.core ≡ true → AtSlot h boot
  idling : is_initialising h.core ≡ false → waiting h.line ≡ [] → AtSlot h idle
  sending : (k : Kind) → is_initialising h.core ≡ false → first (waiting h.line) ≡ number k → waits h k ≡ true → AtSlot h (send k)

pub at_slot : (h : Head) → Valid h → AtSlot h (meant h slot)
at_slot h v =
    test (is_initialising h.core)
    (λ i. rw (boots h i) (booting i))
    (λ i. ⊎_elim
    (λ (e : waiting h.line ≡ []). let m : meant h slot ≡ idle = rw (i, (laws places).first_of_law v.line, e) in rw m (idling i e))
    (λ (u : (k : Kind) × (first (waiting h.line) ≡ number k) × (waits h k ≡ true)). rw (sends_first h v i u.0 u.1)
    (sending u.0 i u.1 u.2))
    (first_of_law (waiting h.line) v.line.kinds))
