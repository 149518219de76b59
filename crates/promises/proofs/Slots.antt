-- What a slot answers, and that no kind waits in Initialising.
use Prim.Native.Nat.{ℕ}
use native.Mathlib.Omega.{arith}
use mathlib.Core.Path.{◌≡◌, sym, ap, ◌∙◌}
use mathlib.Core.Logic.{◌↔◌, ⊎_elim}
use mathlib.Core.Bool.{true, false}
use mathlib.Core.List.{List, []}
use Rattle.cases.proofs.Cases.{test, true_false}
use Rattle.waiting.specs.Line.{places, has, first, Kinds}
use Rattle.waiting.specs.Places.{waiting}
use Rattle.waiting.proofs.Laws.{laws}
use Rattle.parts.specs.declared.Core.{Core}
use Rattle.parts.specs.declared.Head.{Head}
use Rattle.promises.specs.States.{is_initialising, one, two}
use Rattle.promises.specs.WaitingLine.{Kind, emergency, sdo_reply, heartbeat, tpdo, number, may_stay}
use Rattle.promises.specs.Acts.{Act, boot, send, frame_by}
use Rattle.promises.specs.Calls.{slot, meant, sent_by, is_frame, frame_in, slot_answer}
use Rattle.promises.specs.Valid.{Valid}
use Rattle.promises.proofs.KindNumbers.{positive, first_of_law}
use Rattle.promises.proofs.States.{not_operational, not_live}

pub no_stay : (c : Core) (k : Kind) → is_initialising c ≡ true → may_stay c k ≡ false
no_stay c emergency i = rw (not_live c i)
no_stay c sdo_reply i = not_live c i
no_stay c heartbeat i = rw i
no_stay c (tpdo w) i = rw (not_operational c i)

pub none_of : (ws : List ℕ) → Kinds places ws → ((k : Kind) → has (number k) ws ≡ true → ⊥) → ws ≡ []
none_of ws h n = ⊎_elim (λ e. e) (λ u. absurd (n u.0 u.2)) (first_of_law ws h)

pub sent_by_law : (c : Core) (k : Kind) → is_initialising c ≡ false → sent_by c (number k) ≡ send k
sent_by_law c emergency i = rw i
sent_by_law c sdo_reply i = rw i
sent_by_law c heartbeat i = rw i
sent_by_law c (tpdo one) i = rw i
sent_by_law c (tpdo two) i = rw i

module _ (h : Head) where
  -- by what the slot means
  pub answers : {a : Act} → meant h slot ≡ a
      → (is_frame (slot_answer h) ≡ is_frame (frame_by h.core a)) × (frame_in (slot_answer h) ≡ frame_in (frame_by h.core a))
  answers m = (ap (λ x. is_frame (frame_by h.core x)) m, ap (λ x. frame_in (frame_by h.core x)) m)

  pub boots : is_initialising h.core ≡ true → meant h slot ≡ boot
  boots i = rw i

  module _ (v : Valid h) where
    pub none_waits : is_initialising h.core ≡ true → waiting h.line ≡ []
    none_waits i = none_of (waiting h.line) v.line.kinds (λ k w. true_false (sym (v.only k w) ∙ no_stay h.core k i))

    -- in Initialising no kind is first
    pub awake : (k : Kind) → first (waiting h.line) ≡ number k → is_initialising h.core ≡ false
    awake k e =
        test (is_initialising h.core) (λ i. absurd (omega (arith, positive k, ap first (sym (none_waits i)) ∙ e))) (λ i. i)

    pub sends_first : is_initialising h.core ≡ false → (k : Kind) → first (waiting h.line) ≡ number k → meant h slot ≡ send k
    sends_first i k e = rw ((laws places).first_of_law v.line, e) (sent_by_law h.core k i)

    pub none_exactly : (is_frame (slot_answer h) ≡ false) ↔ ((is_initialising h.core ≡ false) × (waiting h.line ≡ []))
    none_exactly = (none_left, λ e. rw (e.0, (laws places).first_of_law v.line, e.1))
      where
        none_left : is_frame (slot_answer h) ≡ false → (is_initialising h.core ≡ false) × (waiting h.line ≡ [])
        none_left e =
            test (is_initialising h.core)
            (λ i. true_false (rw i at e))
            (λ i. (
              i,
              ⊎_elim (λ n. n) (λ u. true_false (sym (answers (sends_first i u.0 u.1)).0 ∙ e))
                  (first_of_law (waiting h.line) v.line.kinds),
            ))
