-- The answers to a host's questions, by the tests in the code.
use Prim.Native.Nat.{ℕ}
use mathlib.Core.Path.{◌≡◌, ap}
use lib.Dec.{eqb}
use mathlib.Core.Bool.{true, false, ◌||◌}
use mathlib.Core.Option.{some}
use Rattle.position.specs.Position.{position}
use Rattle.cases.proofs.Cases.{test}
use Rattle.parts.specs.declared.Core.{Core}
use Rattle.parts.specs.declared.Head.{Head}
use Rattle.promises.specs.Acts.{frame_by}
use Rattle.promises.specs.Calls.{is_frame, sent_by}
use Rattle.promises.specs.States.{operational, is_in, is_initialising}
use Rattle.promises.proofs.Readings.{shown_as, position_shown}
use Rattle.lent.specs.Questions.{is_good, number_in, position_of}

module _ (h : Head) where
  located : position_of h ≡ number_in (some (shown_as h.core.device.settings.profile h.core.device.reading))
  located = ap number_in (position_shown h.core.device (is_in operational h.core))

  pub known : is_good h ≡ true → record
      { known = true; position = position h.core.device.settings.profile h.core.device.reading.raw } ≡ position_of h
  known g = rw (located, g)

  pub unknown : is_good h ≡ false → record { known = false; position = 0 } ≡ position_of h
  unknown g = rw (located, g)

-- a slot sends a frame in Initialising, and where a kind is first, k being the first in the line
pub slot_waits : (c : Core) (k : ℕ)
    → (is_initialising c || ((((eqb k 1 || eqb k 2) || eqb k 3) || eqb k 4) || eqb k 5)) ≡ is_frame (frame_by c (sent_by c k))
slot_waits c k =
    test (is_initialising c) (λ i. rw i) (λ i.
    test (eqb k 1) (λ e. rw (i, e)) (λ n₁.
    test (eqb k 2) (λ e. rw (i, n₁, e)) (λ n₂.
    test (eqb k 3) (λ e. rw (i, n₁, n₂, e)) (λ n₃.
    test (eqb k 4) (λ e. rw (i, n₁, n₂, n₃, e)) (λ n₄.
    test (eqb k 5) (λ e. rw (i, n₁, n₂, n₃, n₄, e)) (λ n₅. rw (i, n₁, n₂, n₃, n₄, n₅)))))))
