-- Proves `Answers` of specs/Service.antt: a slot sends as a reply only what is owed.
use Prim.Native.Nat.{ℕ, ◌+◌, ◌≤◌}
use native.Mathlib.Omega.{arith}
use lib.Dec.{eqb}
use mathlib.Core.Path.{◌≡◌, refl, sym, ap, ◌∙◌}
use mathlib.Core.Bool.{Bool, true, false, not, ◌&&◌, cond}
use mathlib.Core.List.{List, [], ◌∷◌, ◌++◌}
use mathlib.Core.Option.{Option, none, some, none-ne-some}
use Rattle.cases.proofs.Cases.{by, by₂, test, both, true_false}
use Rattle.can.specs.declared.Frame.{Frame}
use Rattle.can.specs.declared.Received.{Received}
use Rattle.sdo.specs.Request.{aborting}
use Rattle.parts.specs.declared.Head.{Head}
use Rattle.promises.specs.States.{node}
use Rattle.promises.specs.WaitingLine.{sdo_reply}
use Rattle.promises.specs.Calls.{Call, receive, tick, sample, slot, step, slot_answer, is_frame, frame_in}
use Rattle.promises.specs.Valid.{waits, Valid}
use Rattle.promises.specs.Histories.{after, frames, sent, PowerUp, powered}
use Rattle.promises.specs.Service.{is_request, is_answered, reply_frame, sends_reply, withdraws_reply, owed_by}
use Rattle.promises.specs.Service.{owed, pending, answers_by, answered_in, replies_in, Answers}
use Rattle.promises.proofs.Valid.{valid_step}
use Rattle.promises.proofs.Histories.{at_power_up, valid_after, valid_powered}
use Rattle.promises.proofs.SameNode.{node_step, node_after}
use Rattle.promises.proofs.Service.{is_request_law}
use Rattle.promises.proofs.Owed.{replies_first, pending_step, pending_after}

-- No more replies are sent than requests are answered: the one that waits is still to be sent.
abbrev still : Option (List ℕ) → ℕ
still none = 0
still (some b) = 1

replies_append : (n : ℕ) (a b : List Frame) → replies_in n (a ++ b) ≡ replies_in n a + replies_in n b
replies_append n [] b = omega arith
replies_append n (f ∷ a) b = omega (arith, replies_append n a b)

one_reply : (n : ℕ) (w : Bool) (f : Frame) → replies_in n (cond w (f ∷ []) []) ≡ cond (w && eqb f.identifier (0x580 + n)) 1 0
one_reply n true f = omega arith
one_reply n false f = refl

module _ (h : Head) (v : Valid h) (n : ℕ) (q : node h.core ≡ n) where
  reply_by : (c : Call) → replies_in n (frames h c) + still (owed_by h (pending h) c) ≤ still (pending h) + cond (answers_by h c) 1 0
  reply_by (receive f) =
      by₂ (λ (o : Option (List ℕ)) (m : ℕ). 0 + still o ≤ still (pending h) + m) (is_answered h f) (λ _. omega arith)
      (λ _. by (λ (o : Option (List ℕ)). 0 + still o ≤ still (pending h) + 0) (withdraws_reply h f) (λ _. omega arith) (λ _. omega arith))
  reply_by tick = omega arith
  reply_by (sample s) = omega arith
  reply_by slot =
      let waited = is_frame (slot_answer h) in
      let i = (frame_in (slot_answer h)).identifier in
      let one : replies_in n (frames h slot) ≡ cond (sends_reply h) 1 0 =
      one_reply n waited (frame_in (slot_answer h)) ∙ ap (λ (m : ℕ). cond (waited && eqb i (0x580 + m)) 1 0) (sym q) in
      let most : cond (sends_reply h) 1 0 + still (cond (sends_reply h) none (pending h)) ≤ still (pending h) =
      by₂ (λ (m : ℕ) (o : Option (List ℕ)). m + still o ≤ still (pending h)) (sends_reply h)
      (λ s. omega (arith, ap (λ (t : Bool). still (cond t (some h.core.reply) none)) (replies_first h v s).1))
      (λ _. omega arith) in
      omega (arith, one, most)

no_more : (n : ℕ) (cs : List Call) (h : Head) → Valid h → node h.core ≡ n → replies_in n (sent h cs) ≤ still (pending h) + answered_in h cs
no_more n [] h v q = omega arith
no_more n (c ∷ cs) h v q =
    let tail = no_more n cs (step h c) (valid_step h c v) (node_step h v c ∙ q) in
    omega (arith, replies_append n (frames h c) (sent (step h c) cs), reply_by h v n q c, tail, ap still (pending_step h v c))

-- at power-up none waits
none_owed : (p : PowerUp) → pending (powered p) ≡ none
none_owed = at_power_up (λ h. pending h ≡ none) (λ _ _. refl)

is_pending : (w : Bool) (r b : List ℕ) → cond w (some r) none ≡ some b → w ≡ true
is_pending true r b e = refl
is_pending false r b e = absurd (none-ne-some b e)

module _ (p : PowerUp) (cs : List Call) where
  exactly : pending (after (powered p) cs) ≡ owed (powered p) none cs
  exactly = pending_after cs (powered p) (valid_powered p) ∙ ap (λ (o : Option (List ℕ)). owed (powered p) o cs) (none_owed p)

  alone : (b : List ℕ) → owed (powered p) none cs ≡ some b → (f : Received) → is_answered (after (powered p) cs) f ≡ false
  alone b e f =
      let h = after (powered p) cs in
      let w = is_pending (waits h sdo_reply) h.core.reply b (exactly ∙ e) in
      test (is_answered h f)
      (λ a. true_false (sym w ∙ ((is_request_law h f).0 (both (is_request h f) (not (aborting f.bytes)) a).0).free))
      (λ n. n)

  at_most_one : replies_in (node (powered p).core) (sent (powered p) cs) ≤ answered_in (powered p) cs
  at_most_one = omega (arith, no_more (node (powered p).core) cs (powered p) (valid_powered p) refl, ap still (none_owed p))

  pub answers : Answers p cs
  answers = record { exactly = exactly; alone = alone; sends = sends_owed; at_most_one = at_most_one }
    where
      sends_owed : let h = after (powered p) cs in sends_reply h ≡ true
          → (b : List ℕ) × (owed (powered p) none cs ≡ some b) × (frame_in (slot_answer h) ≡ reply_frame (node (powered p).core) b)
      sends_owed s =
          let h = after (powered p) cs in
          let v = valid_after (powered p) cs (valid_powered p) in
          let u = replies_first h v s in (
            h.core.reply,
            sym exactly ∙ ap (λ (t : Bool). cond t (some h.core.reply) none) u.1,
            u.0.answer ∙ ap (λ (n : ℕ). reply_frame n h.core.reply) (node_after (powered p) (valid_powered p) cs),
          )
