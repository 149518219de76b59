-- A reply waits exactly while it is owed.
use Prim.Native.Nat.{ℕ, ◌+◌}
use native.Mathlib.Omega.{arith}
use lib.Dec.{eqb, ltb}
use mathlib.Core.Path.{◌≡◌, refl, sym, ap, ◌∙◌}
use mathlib.Core.Bool.{Bool, true, false, not, ◌&&◌, cond, and-false, or-true}
use mathlib.Core.List.{List, [], ◌∷◌}
use mathlib.Core.Option.{Option, none, some}
use borrow.Author.Tests.{eqb-true, eq-eqb, not-true}
use Rattle.cases.proofs.Cases.{by, test, both, true_false}
use Rattle.can.specs.declared.Frame.{Frame}
use Rattle.can.specs.declared.Received.{Received}
use Rattle.sdo.specs.Request.{aborting}
use Rattle.waiting.specs.Line.{has, first}
use Rattle.waiting.specs.Places.{waiting}
use Rattle.waiting.proofs.After.{has_append}
use Rattle.parts.specs.declared.Head.{Head}
use Rattle.parts.specs.declared.Sensor.TheVariants.{Missing, Raw}
use Rattle.position.specs.Profile.{highest_raw}
use Rattle.promises.specs.States.{operational, stopped, pre_operational, is_initialising, is_live}
use Rattle.promises.specs.States.{node, Command, no_command, to_enter, to_reset, command_of}
use Rattle.promises.specs.WaitingLine.{sdo_reply, number}
use Rattle.promises.specs.Acts.{Act, boot, idle, send, acted, frame_by, enter, lose, nothing, serve, sync, take, time}
use Rattle.promises.specs.Calls.{Call, receive, tick, sample, slot, is_slot, is_heard, meant, step, is_frame, frame_in, slot_answer}
use Rattle.promises.specs.Valid.{waits, Valid}
use Rattle.promises.specs.Meant.{Commands}
use Rattle.promises.specs.Histories.{after}
use Rattle.promises.specs.Service.{reply_due, Replied, is_request, is_answered, sends_reply}
use Rattle.promises.specs.Service.{takes_reply, withdraws_reply, owed_by, owed, pending}
use Rattle.promises.specs.Withdrawals.{Withdrawal, resets, stops}
use Rattle.promises.specs.FiveSlots.{Sends}
use Rattle.promises.proofs.KindNumbers.{sent_as_law}
use Rattle.promises.proofs.Waits.{sends, waits_act}
use Rattle.promises.proofs.Valid.{valid_step}
use Rattle.promises.proofs.Answers.{AtSlot, booting, idling, sending, at_slot}
use Rattle.promises.proofs.Meant.{reply_fixed}
use Rattle.promises.proofs.Withdrawals.{other}
use Rattle.promises.proofs.Departures.{sends_it, sent_gone, withdrawn_gone}
use Rattle.promises.proofs.Known.{only_reply}
use Rattle.promises.proofs.Halts.{Halts, stays_live, HaltedBy, halted}
use Rattle.promises.proofs.Service.{JoinsNot, heard_as, is_request_law, gets_what_is_due, unanswered}

-- a reply that joins waits
pub replied_waits : (h : Head) (f : Received) → {a : Head} → Replied h f a → waits a sdo_reply ≡ true
replied_waits h f r =
    rw (r.joins, has_append (number sdo_reply) r.ahead (number sdo_reply ∷ [])) (or-true (has (number sdo_reply) r.ahead))

-- what a slot sends as a reply was the first in the line
pub replies_first : (h : Head) → Valid h → sends_reply h ≡ true → Sends h slot sdo_reply × (waits h sdo_reply ≡ true)
replies_first h v e = by_act (meant h slot) (at_slot h v) e
  where
    n : ℕ
    n = node h.core

    by_act : (a : Act) → AtSlot h a → (is_frame (frame_by h.core a) && eqb (frame_in (frame_by h.core a)).identifier (0x580 + n)) ≡ true
        → Sends h slot sdo_reply × (waits h sdo_reply ≡ true)
    by_act nothing x'' e = elim x'' [ ]
    by_act (enter _) x4 e = elim x4 [ ]
    by_act (Rattle.promises.specs.Acts.reset _) x5 e = elim x5 [ ]
    by_act (take _) x6 e = elim x6 [ ]
    by_act lose x6 e = elim x6 [ ]
    by_act time x7 e = elim x7 [ ]
    by_act sync x8 e = elim x8 [ ]
    by_act (serve _) x10 e = elim x10 [ ]
    by_act boot (booting i) e = absurd (omega (arith, eqb-true (0x700 + n) (0x580 + n) e))
    by_act idle (idling i f) e = true_false (sym e)
    by_act (send k) (sending _ i f w) e =
        let reply : k ≡ sdo_reply = only_reply n h.core refl v.device k (v.only k w) (eqb-true _ _ e) in
        (sends_it h v slot sdo_reply refl (f ∙ ap number reply), rw reply at w)

-- who waits, where none joins and the one that waits stays: s sent, y and z whether it may before and after, w whether it waited
stays_waiting : (y z s w : Bool) → (w ≡ true → z ≡ true) → s ≡ false → (not (y && not z) && (not s && w)) ≡ w
stays_waiting y z s true m n = rw (m refl, n, and-false y)
stays_waiting y z s false m n = rw (and-false (not s)) (and-false (not (y && not z)))

same_pending : (w x : Bool) (r u : List ℕ) → x ≡ w → (w ≡ true → u ≡ r) → cond x (some u) none ≡ cond w (some r) none
same_pending true x r u e f = ap (λ (t : Bool). cond t (some u) none) e ∙ ap some (f refl)
same_pending false x r u e f = ap (λ (t : Bool). cond t (some u) none) e

module _ (h : Head) (v : Valid h) where
  -- after a call by which it neither joins nor is sent, and that does not halt the head
  same_replies : (c : Call) → JoinsNot h.core (meant h c) → (Halts (meant h c) → ⊥) → sends (is_slot c) h sdo_reply ≡ false
      → pending (step h c) ≡ pending h
  same_replies c n l s =
      let z = is_live (acted h.core (meant h c)) in
      let w : waits (step h c) sdo_reply ≡ waits h sdo_reply =
      rw n at (waits_act (is_slot c) h (meant h c) v sdo_reply)
      ∙ stays_waiting (is_live h.core) z (sends (is_slot c) h sdo_reply) (waits h sdo_reply)
      (λ t. stays_live h.core (meant h c) l (v.only sdo_reply t)) s in
      same_pending (waits h sdo_reply) (waits (step h c) sdo_reply) h.core.reply (step h c).core.reply w (λ t. reply_fixed h v t c)

  none_pending : (c : Call) → waits (step h c) sdo_reply ≡ false → pending (step h c) ≡ none
  none_pending c e = ap (λ (t : Bool). cond t (some (step h c).core.reply) none) e

  module _ (f : Received) where
    -- entering Stopped, and a reset
    withdrawal : (k : Command) → Commands h f k → takes_reply k ≡ true → Withdrawal h (receive f) sdo_reply
    withdrawal no_command m t = true_false (sym t)
    withdrawal (to_enter operational) m t = true_false (sym t)
    withdrawal (to_enter stopped) m t = stops m (other sdo_reply refl)
    withdrawal (to_enter pre_operational) m t = true_false (sym t)
    withdrawal (to_reset r) m t = resets m

    taken : withdraws_reply h f ≡ true → waits (step h (receive f)) sdo_reply ≡ false
    taken e =
        let k = command_of (node h.core) f in
        let u = both (is_heard h f && eqb f.identifier 0x000) (takes_reply k) e in
        let w = both (is_heard h f) (eqb f.identifier 0x000) u.0 in
        let m : Commands h f k = record { hears = heard_as h f w.0; identifier = eqb-true _ _ w.1; says = refl } in
        withdrawn_gone h v (receive f) sdo_reply (withdrawal k m u.1)

    untaken : withdraws_reply h f ≡ false → HaltedBy h (receive f) → ⊥
    untaken e (k, m, t) =
        let w : withdraws_reply h f ≡ true =
        rw (eq-eqb _ _ m.hears.unrefused, m.hears.heard, eq-eqb f.identifier 0x000 m.identifier, m.says) t in
        true_false (sym w ∙ e)

    joined : is_answered h f ≡ true → pending (step h (receive f)) ≡ some (reply_due h f).bytes
    joined a =
        let b = both (is_request h f) (not (aborting f.bytes)) a in
        let r = gets_what_is_due h f v ((is_request_law h f).0 b.0) (not-true _ b.1) in
        ap (λ (t : Bool). cond t (some (step h (receive f)).core.reply) none) (replied_waits h f r) ∙ ap some r.bytes

  not_first : sends_reply h ≡ false → eqb (first (waiting h.line)) (number sdo_reply) ≡ false
  not_first n =
      test (eqb (first (waiting h.line)) (number sdo_reply))
      (λ e.
      let x = sends_it h v slot sdo_reply refl (eqb-true _ _ e) in
      let t : sends_reply h ≡ true =
      ap (λ (t : Bool). t && eqb (frame_in (slot_answer h)).identifier (0x580 + node h.core)) x.waited
      ∙ eq-eqb _ _ (ap (λ (f : Frame). f.identifier) x.answer) in
      true_false (sym t ∙ n))
      (λ e. e)

  pub pending_step : (c : Call) → pending (step h c) ≡ owed_by h (pending h) c
  pending_step (receive f) =
      by (λ (o : Option (List ℕ)). pending (step h (receive f)) ≡ o) (is_answered h f) (joined f)
      (λ n. by (λ (o : Option (List ℕ)). pending (step h (receive f)) ≡ o) (withdraws_reply h f) (λ t. none_pending (receive f) (taken f t))
      (λ t. same_replies (receive f) (unanswered h f v n) (λ s. untaken f t (halted h v (receive f) s)) refl))
  pending_step tick = same_replies tick (by (JoinsNot h.core) (is_initialising h.core) (λ _. refl) (λ _. refl)) (halted h v tick) refl
  pending_step (sample Missing) = same_replies (sample Missing) refl (halted h v (sample Missing)) refl
  pending_step (sample (Raw r)) =
      same_replies (sample (Raw r)) (by (JoinsNot h.core) (ltb highest_raw r) (λ _. refl) (λ _. refl)) (halted h v (sample (Raw r))) refl
  pending_step slot =
      by (λ (o : Option (List ℕ)). pending (step h slot) ≡ o) (sends_reply h)
      (λ s. none_pending slot (sent_gone h v slot sdo_reply (replies_first h v s).0))
      (λ n. same_replies slot
      (by (JoinsNot h.core) (is_initialising h.core) (λ _. refl)
      (λ _. sent_as_law (JoinsNot h.core) (first h.line) refl (λ _. refl)))
      (halted h v slot)
      (not_first n))

pub pending_after : (cs : List Call) (h : Head) → Valid h → pending (after h cs) ≡ owed h (pending h) cs
pending_after [] h v = refl
pending_after (c ∷ cs) h v =
    pending_after cs (step h c) (valid_step h c v) ∙ ap (λ (o : Option (List ℕ)). owed (step h c) o cs) (pending_step h v c)
