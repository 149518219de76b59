-- The answer of a slot is what `promises` says, and so is the head with the parts that its way changes; the head stays valid.
use Prim.Native.Nat.{ℕ, ◌+◌}
use native.Mathlib.Omega.{arith}
use lib.Dec.{eqb}
use lib.ListN.{drop}
use mathlib.Core.Path.{◌≡◌, refl, sym, ap, ap₂, subst, ◌∙◌}
use mathlib.Core.Logic.{⊎_elim}
use mathlib.Core.Bool.{Bool, true, false, not, ◌&&◌, beq, and-true, and-false, and-not_self}
use mathlib.Core.List.{List, [], ◌∷◌}
use mathlib.Core.Option.{Option, none, some}
use Rattle.std.specs.Prelude.{Option as Given, None, Some}
use borrow.Author.Tests.{eqb-true}
use Rattle.cases.specs.Padded.{pad}
use Rattle.cases.proofs.Cases.{by, by₂, test}
use Rattle.can.specs.declared.Frame.{Frame}
use Rattle.dictionary.specs.Accepted.{on}
use Rattle.waiting.specs.Line.{places, has, first}
use Rattle.waiting.specs.Places.{taken_in, waiting, Holds}
use Rattle.waiting.specs.Calls.{joins_in, withdraws_in, if_due}
use Rattle.waiting.proofs.After.{has_drop}
use Rattle.waiting.proofs.Unmoved.{keeps_place, takes_none}
use Rattle.waiting.proofs.Laws.{laws}
use Rattle.parts.specs.Put.{with_line}
use Rattle.parts.specs.declared.Core.{Core}
use Rattle.parts.specs.declared.Head.{Head}
use Rattle.promises.specs.States.{one, two, is_initialising, node, communication, good}
use Rattle.promises.specs.WaitingLine.{Kind, emergency, sdo_reply, heartbeat, tpdo, number, is_alerting, may_stay, frame}
use Rattle.promises.specs.Acts.{Act, boot, idle, send, acted, announcing, booted, moments_of}
use Rattle.promises.specs.Acts.{emergency_only, goes, comes, settled_to, act, frame_by}
use Rattle.promises.specs.Calls.{SlotAnswer, slot, step, sent_by, is_frame, frame_in, sent_with}
use Rattle.promises.specs.Valid.{Valid}
use Rattle.promises.specs.Promised.{Slots}
use Rattle.promises.proofs.Nothing.{act_step}
use Rattle.promises.proofs.KindNumbers.{first_of_law, sent_as_law}
use Rattle.promises.proofs.Slots.{no_stay, none_waits, sent_by_law}
use Rattle.promises.proofs.Valid.{valid_step}
use Rattle.steps.specs.declared.slot.Slotted.{Slotted}
use Rattle.steps.specs.declared.slot.Way.{Way}
use Rattle.steps.specs.declared.slot.Way.TheVariants.{Boots, Announces, Sends}
use Rattle.steps.specs.Slot.{slot_way, slot_frame, in_way, slotted_of, booted_of}
use Rattle.steps.specs.Sent.{booted_in, announced_in, sent_in}

same : (b : Bool) → beq b b ≡ true
same true = refl
same false = refl

differs_from_good : (b : Bool) → not (beq b true) ≡ not b
differs_from_good true = refl
differs_from_good false = refl

abbrev sends : Given Way → Bool
sends None = false
sends (Some w) = true

module _ (h : Head) (v : Valid h) where
  abbrev c : Core
  c = h.core

  abbrev k : ℕ
  k = first h.line

  abbrev left : List ℕ
  left = taken_in h.line

  held : Holds places left (drop 1 (waiting h.line))
  held = (laws places).taken v.line

  left_has : (j : ℕ) → has j (drop 1 (waiting h.line)) ≡ (not (eqb k j) && has j (waiting h.line))
  left_has j = rw ((laws places).first_of_law v.line) (has_drop places j (waiting h.line) v.line.kinds)

  -- nothing else waits with the boot-up frame
  line_booted : is_initialising c ≡ true
      → joins_in (withdraws_in left (goes c (booted c))) (comes emergency_only (booted c))
      ≡ (booted_of (communication c).emergency (good c)).line
  line_booted i =
      let none_goes : goes c (booted c) ≡ [] =
      simp (no_stay c sdo_reply i, no_stay c heartbeat i, no_stay c (tpdo one) i, no_stay c (tpdo two) i)
      in
      let empty : left ≡ pad places [] = held.shape ∙ ap (λ ws. pad places (drop 1 ws)) (none_waits h v i) in
      let m : is_alerting (booted c) ≡ (on (communication c).emergency && not (good c)) =
      rw ((v.fresh i).0, differs_from_good (good c), and-true (on (communication c).emergency))
      in
      rw (none_goes, empty, m)

  -- the emergency that was sent no longer waits, so the end of its condition withdraws nothing
  line_announced : eqb k 1 ≡ true → joins_in (withdraws_in left (goes c (announcing c))) (comes emergency_only (announcing c)) ≡ left
  line_announced e =
      let none-comes : comes emergency_only (announcing c) ≡ [] = simp (same, and-false) in
      let ends = may_stay c emergency && not (may_stay (announcing c) emergency) in
      let one-goes : goes c (announcing c) ≡ if_due ends 1 = simp and-not_self in
      rw (none-comes, one-goes)
      (by (λ (ks : List ℕ). withdraws_in left ks ≡ left) ends (λ _. takes_none held 1 (left_has 1 ∙ rw e)) (λ _. refl))

  -- another is sent: the emergency waits already, if it may
  line_kept : eqb k 1 ≡ false → joins_in (withdraws_in left (goes c c)) (comes emergency_only c) ≡ left
  line_kept e =
      let none_goes : goes c c ≡ [] = simp and-not_self in
      rw none_goes
      (by (λ (ks : List ℕ). joins_in left ks ≡ left) (is_alerting c)
      (λ m. keeps_place held 1 (omega arith) (omega arith) (left_has 1 ∙ rw (e, v.urgent m)))
      (λ _. refl))

  boots : is_initialising c ≡ true → booted_in h ≡ act true h boot
  unfolding act settled_to
  boots i = rw (line_booted i, (v.fresh i).1)

  announces : eqb k 1 ≡ true → announced_in h ≡ act true h (send emergency)
  unfolding act settled_to
  announces e = rw (line_announced e)

  keeps : eqb k 1 ≡ false → (a : Act) → c ≡ acted c a → moments_of c a ≡ emergency_only → with_line h left ≡ act true h a
  unfolding act settled_to
  keeps e a p m = rw (m, ← p, line_kept e)

  moments_kept : moments_of c (sent_by c k) ≡ emergency_only
  moments_kept =
      by (λ (a : Act). moments_of c a ≡ emergency_only) (is_initialising c)
      (λ _. refl)
      (λ _. sent_as_law (λ a. moments_of c a ≡ emergency_only) k refl (λ _. refl))

  -- only sending an emergency alters the core
  core_kept : is_initialising c ≡ false → eqb k 1 ≡ false → c ≡ acted c (sent_by c k)
  core_kept i e =
      let P : Act → Type 0 = λ a. c ≡ acted c a in
      rw (i, e)
      (by P (eqb k 2) (λ _. refl) (λ _. by P (eqb k 3) (λ _. refl) (λ _.
      by P (eqb k 4) (λ _. refl) (λ _. by P (eqb k 5) (λ _. refl) (λ _. refl)))))

  abbrev its_frame : Frame
  its_frame = slot_frame (node c) c.nmt c.device.settings c.device.reading c.reply c.fixed k

  abbrev due : Option Frame
  due = frame_by c (sent_by c k)

  frame_sent : its_frame ≡ frame_in due
  frame_sent =
      let P : Frame → Act → Type 0 = λ f a. f ≡ frame_in (frame_by c a) in
      by₂ P (is_initialising c)
      (λ i. ap (λ n. frame (0x700 + node c) 1 (n ∷ [])) (eqb-true c.nmt.code 0 i))
      (λ _. by₂ P (eqb k 1) (λ _. refl) (λ _. by₂ P (eqb k 2) (λ _. refl) (λ _. by₂ P (eqb k 3) (λ _. refl) (λ _.
      by₂ P (eqb k 4) (λ _. refl) (λ _. by₂ P (eqb k 5) (λ _. refl) (λ _. refl))))))

  abbrev Waits : ℕ → Type 0
  Waits n = sends (slot_way c.nmt n) ≡ is_frame (frame_by c (sent_by c n))

  kind_waits : (j : Kind) → Waits (number j)
  kind_waits emergency = test (is_initialising c) (λ i. rw i) (λ i. rw i)
  kind_waits sdo_reply = test (is_initialising c) (λ i. rw i) (λ i. rw i)
  kind_waits heartbeat = test (is_initialising c) (λ i. rw i) (λ i. rw i)
  kind_waits (tpdo one) = test (is_initialising c) (λ i. rw i) (λ i. rw i)
  kind_waits (tpdo two) = test (is_initialising c) (λ i. rw i) (λ i. rw i)

  -- none waits, or a kind is first
  waited : Waits k
  waited =
      rw ((laws places).first_of_law v.line)
      (⊎_elim
      (λ none. rw none (test {P = Waits 0} (is_initialising c) (λ i. rw i) (λ i. rw i)))
      (λ u. rw u.1 (kind_waits u.0))
      (first_of_law (waiting h.line) v.line.kinds))

  -- a head that is what a slot makes of a valid one, with the frame
  leaves : {r : Head} → true ≡ is_frame due → r ≡ act true h (sent_by c k) → Slots h (sent_with (some its_frame) r)
  leaves {r} w x = let e = x ∙ act_step h slot refl in (
    ap₂ {C = SlotAnswer} (λ w f. record { waited = w; frame = f; head = r }) w frame_sent ∙ ap (sent_with due) e,
    subst Valid (sym e) (valid_step h slot v),
  )

  each_way : (P : Given Way → Type 0)
      → (is_initialising c ≡ true → P (Some Boots))
      → (is_initialising c ≡ false → eqb k 0 ≡ true → P None)
      → (is_initialising c ≡ false → eqb k 1 ≡ true → P (Some Announces))
      → (is_initialising c ≡ false → eqb k 1 ≡ false → P (Some Sends))
      → P (slot_way c.nmt k)
  each_way P b n a s = by P (is_initialising c) b (λ i. by P (eqb k 0) (n i) (λ _. by P (eqb k 1) (a i) (s i)))

  none_left : eqb k 0 ≡ true → h.line ≡ left
  none_left n =
      sym (takes_none (subst (Holds places h.line) ((laws places).idle v.line (eqb-true k 0 n)) v.line) k refl)

  -- the call's promise, for each thing that a slot may send
  abbrev pub Sending : Given Slotted → Type 0
  Sending None = Slots h (sent_with none h)
  Sending (Some s) = Slots h (sent_with (some s.frame) (sent_in h s.way))

  pub slots : Sending (slotted_of (node c) c.nmt c.device.settings c.device.reading c.reply c.fixed h.line)
  slots =
      each_way (λ w. sends w ≡ is_frame due → Sending (in_way its_frame w))
      (λ i w. let m : sent_by c k ≡ boot = rw i in leaves w (boots i ∙ ap (act true h) (sym m)))
      (λ i n _.
      let e : eqb k 1 ≡ false = rw (eqb-true k 0 n) in
      let m : sent_by c k ≡ idle = rw (i, eqb-true k 0 n) in
      let p : h ≡ step h slot =
      ap (with_line h) (none_left n) ∙ keeps e (sent_by c k) (core_kept i e) moments_kept ∙ act_step h slot refl in
      (ap₂ {C = SlotAnswer} (λ a r. sent_with (frame_by c a) r) (sym m) p, v))
      (λ i e w.
      let m : sent_by c k ≡ send emergency = rw (eqb-true k 1 e) (sent_by_law c emergency i) in
      leaves w (announces e ∙ ap (act true h) (sym m)))
      (λ i e w. leaves w (keeps e (sent_by c k) (core_kept i e) moments_kept))
      waited

  pub slots_so : {z : Given Slotted}
      → z ≡ slotted_of (node c) c.nmt c.device.settings c.device.reading c.reply c.fixed h.line → Sending z
  slots_so e = subst Sending (sym e) slots
