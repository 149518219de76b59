-- No call between a request and the next halts the head or makes another reply: so the reply to a request is sent by the fifth slot,
-- and after it the head serves again.
use Prim.Native.Nat.{ℕ}
use lib.Dec.{eqb}
use mathlib.Core.Path.{◌≡◌, refl, sym, ap, subst, ◌∙◌}
use mathlib.Core.Logic.{◌⊎◌, inl, inr}
use mathlib.Core.Bool.{Bool, true, false, not, ◌||◌, cond}
use mathlib.Core.List.{List, [], ◌∷◌, ◌++◌}
use mathlib.Core.Option.{Option, none, some}
use borrow.Author.Tests.{eqb-true}
use Rattle.cases.proofs.Cases.{by, test, both, true_false}
use Rattle.can.specs.declared.Frame.{Frame}
use Rattle.sdo.specs.Request.{aborting}
use Rattle.parts.specs.declared.Head.{Head}
use Rattle.promises.specs.States.{stopped, is_in, is_live, node}
use Rattle.promises.specs.WaitingLine.{Kind, sdo_reply}
use Rattle.promises.specs.Acts.{nothing, enter}
use Rattle.promises.specs.Calls.{Call, receive, tick, sample, slot, meant, step}
use Rattle.promises.specs.Valid.{waits, Valid}
use Rattle.promises.specs.Histories.{after, frames, sent}
use Rattle.promises.specs.Service.{reply_frame, is_request, is_answered, withdraws_reply, sends_reply, owed_by, pending}
use Rattle.promises.specs.Withdrawals.{Withdrawal, resets, stops}
use Rattle.promises.specs.FiveSlots.{Sends, WaitsThrough}
use Rattle.promises.specs.Codes.{All}
use Rattle.promises.specs.Transfers.{Between}
use Rattle.promises.specs.NamesRead.{Among, Meanwhile}
use Rattle.promises.proofs.Valid.{valid_step}
use Rattle.promises.proofs.Meant.{Unserved, reply_kept, commands}
use Rattle.promises.proofs.Halts.{Halts, stopping, resetting, halted}
use Rattle.promises.proofs.Histories.{after_append, valid_after}
use Rattle.promises.proofs.SameNode.{node_step, node_after}
use Rattle.promises.proofs.Service.{is_request_law}
use Rattle.promises.proofs.Owed.{pending_step}
use Rattle.promises.proofs.FiveSlots.{by_the_fifth}
use Rattle.promises.proofs.Transfers.{stays, goes_on, ending, live_kept}

abbrev held : Option (List ℕ) → Bool
held none = false
held (some r) = true

is_held : (h : Head) → held (pending h) ≡ waits h sdo_reply
is_held h = by (λ (o : Option (List ℕ)). held o ≡ waits h sdo_reply) (waits h sdo_reply) sym sym

-- one call between
module _ (n : ℕ) (h : Head) (v : Valid h) (e : node h.core ≡ n) where
  to_this : (c : Call) → Between n c → Between (node h.core) c
  to_this c b = subst (λ (m : ℕ). Between m c) (sym e) b

  unserved : (c : Call) → Between n c → Unserved h c
  unserved (receive f) b = λ i. absurd ((to_this (receive f) b).0 i)
  unserved tick b = tt
  unserved (sample s) b = tt
  unserved slot b = tt

  unhalted : (c : Call) → Between n c → Halts (meant h c) → ⊥
  unhalted (receive f) b x = true_false (sym (ending (meant h (receive f)) x) ∙ goes_on h f (to_this (receive f) b))
  unhalted tick b x = halted h v tick x
  unhalted (sample s) b x = halted h v (sample s) x
  unhalted slot b x = halted h v slot x

  -- a head in which a reply waits is not stopped, so that nothing takes the reply
  moving : is_live h.core ≡ true → is_in stopped h.core ≡ false
  moving l =
      test (is_in stopped h.core)
      (λ i. true_false (sym l ∙ ap (λ (m : ℕ). eqb m 0x7F || eqb m 0x05) (eqb-true h.core.nmt.code 0x04 i)))
      (λ i. i)

  not_taken : (c : Call) → Between n c → waits h sdo_reply ≡ true → Withdrawal h c sdo_reply → ⊥
  not_taken tick b w x3 = elim x3 [ ]
  not_taken (sample _) b w x5 = elim x5 [ ]
  not_taken slot b w x5 = elim x5 [ ]
  not_taken (receive f) b w (resets {r = r} m) = unhalted (receive f) b (subst Halts (sym (commands h f m)) (resetting r))
  not_taken (receive f) b w (stops m _) =
      let so = commands h f m ∙ ap (λ (t : Bool). cond t nothing (enter stopped)) (moving (v.only sdo_reply w)) in
      unhalted (receive f) b (subst Halts (sym so) stopping)

  sends_reply_law : (c : Call) → Between n c → waits h sdo_reply ≡ true → Sends h c sdo_reply ⊎ Withdrawal h c sdo_reply
      → frames h c ≡ reply_frame n h.core.reply ∷ []
  sends_reply_law c b w (inl s) =
      subst (λ (x : Call). frames h x ≡ reply_frame n h.core.reply ∷ []) (sym s.is_slot_law)
      (rw s.waited (ap {B = List Frame} (λ (g : Frame). g ∷ []) (s.answer ∙ ap (λ (m : ℕ). reply_frame m h.core.reply) e)))
  sends_reply_law c b w (inr x) = absurd (not_taken c b w x)

  -- what stays
  live_on : (c : Call) → Between n c → is_live h.core ≡ true → is_live (step h c).core ≡ true
  live_on c b l = live_kept h v c (unhalted c b) l

  free_on : (c : Call) → Between n c → waits h sdo_reply ≡ false → waits (step h c) sdo_reply ≡ false
  free_on c b w = sym (is_held (step h c)) ∙ ap held (pending_step h v c) ∙ none_owed c b
    where
      None : Option (List ℕ) → Type 0
      None o = held o ≡ false

      none_before : None (pending h)
      none_before = is_held h ∙ w

      none_owed : (c : Call) → Between n c → None (owed_by h (pending h) c)
      none_owed (receive f) b =
          by None (is_answered h f)
          (λ a. absurd ((to_this (receive f) b).0 ((is_request_law h f).0 (both (is_request h f) (not (aborting f.bytes)) a).0).identifier))
          (λ _. by None (withdraws_reply h f) (λ _. refl) (λ _. none_before))
      none_owed tick b = none_before
      none_owed (sample s) b = none_before
      none_owed slot b = by None (sends_reply h) (λ _. refl) (λ _. none_before)

-- What each call between leaves, all of them do.
module _ (n : ℕ) (P : Head → Type 0)
    (one : (h : Head) → Valid h → node h.core ≡ n → (c : Call) → Between n c → P h → P (step h c)) where
  along : (cs : List Call) (h : Head) → Valid h → node h.core ≡ n → All (Between n) cs → P h → P (after h cs)
  along [] h v e b x = x
  along (c ∷ cs) h v e b x = along cs (step h c) (valid_step h c v) (node_step h v c ∙ e) b.1 (one h v e c b.0 x)

module _ (n : ℕ) (cs : List Call) (h : Head) (v : Valid h) (e : node h.core ≡ n) (b : All (Between n) cs) where
  pub transfer_stays : (after h cs).transfer ≡ h.transfer
  transfer_stays = along n (λ a. a.transfer ≡ h.transfer) (λ a w i c x y. stays a c (to_this n a w i c x) ∙ y) cs h v e b refl

  pub live_stays : is_live h.core ≡ true → is_live (after h cs).core ≡ true
  live_stays = along n (λ a. is_live a.core ≡ true) (live_on n) cs h v e b

  pub reply_stays : (after h cs).core.reply ≡ h.core.reply
  reply_stays = along n (λ a. a.core.reply ≡ h.core.reply) (λ a w i c x y. reply_kept a c (unserved n a w i c x) ∙ y) cs h v e b refl

  free_stays : waits h sdo_reply ≡ false → waits (after h cs) sdo_reply ≡ false
  free_stays = along n (λ a. waits a sdo_reply ≡ false) (free_on n) cs h v e b

-- frames sent by a list of calls
among_right : (f : Frame) (fs gs : List Frame) → Among f gs → Among f (fs ++ gs)
among_right f [] gs a = a
among_right f (g ∷ fs) gs a = inr (among_right f fs gs a)

among_sent : (f : Frame) (before : List Call) (c : Call) (rest : List Call) (h : Head) → frames (after h before) c ≡ f ∷ []
    → Among f (sent h (before ++ c ∷ rest))
among_sent f [] c rest h e = subst (λ (fs : List Frame). Among f (fs ++ sent (step h c) rest)) (sym e) (inl refl)
among_sent f (b ∷ before) c rest h e = among_right f (frames h b) _ (among_sent f before c rest (step h b) e)

all_parts : (P : Call → Type 0) (before cs : List Call) → All P (before ++ cs) → All P before × All P cs
all_parts P [] cs a = (tt, a)
all_parts P (b ∷ before) cs a = let r = all_parts P before cs a.1 in ((a.0, r.0), r.1)

at_last : (cs : List Call) (h : Head) (k : Kind) → WaitsThrough h cs k → waits (after h cs) k ≡ true
at_last [] h k w = w
at_last (c ∷ cs) h k w = at_last cs (step h c) k w.1

-- The reply that waits is sent, and then none waits.
module _ (n : ℕ) (cs : List Call) (h : Head) (v : Valid h) (e : node h.core ≡ n) (w : waits h sdo_reply ≡ true) (m : Meanwhile n cs) where
  pub reply_arrives : Among (reply_frame n h.core.reply) (sent h cs) × (waits (after h cs) sdo_reply ≡ false)
  reply_arrives =
      let l = by_the_fifth h cs sdo_reply v w m.enough in
      let a = all_parts (Between n) l.before (l.call ∷ l.rest) (subst (All (Between n)) l.split m.between) in
      let at = after h l.before in
      let v-at = valid_after h l.before v in
      let e-at = node_after h v l.before ∙ e in
      let leaves = sends_reply_law n at v-at e-at l.call a.1.0 (at_last l.before h sdo_reply l.until) l.how
      ∙ ap {B = List Frame} (λ (r : List ℕ). reply_frame n r ∷ []) (reply_stays n l.before h v e a.0) in
      let none_left =
      free_stays n l.rest (step at l.call) (valid_step at l.call v-at) (node_step at v-at l.call ∙ e-at) a.1.1 l.gone in (
        subst (λ (x : List Call). Among (reply_frame n h.core.reply) (sent h x)) (sym l.split)
            (among_sent (reply_frame n h.core.reply) l.before l.call l.rest h leaves),
        ap (λ (x : List Call). waits (after h x) sdo_reply) l.split
            ∙ ap (λ (g : Head). waits g sdo_reply) (after_append h l.before (l.call ∷ l.rest)) ∙ none_left,
      )
