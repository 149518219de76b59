-- Proves `Outcomes` of specs/Outcomes.antt. Assumes nothing.
use Prim.Native.Nat.{ℕ}
use mathlib.Core.Path.{◌≡◌, refl, sym, ap, ◌∙◌}
use mathlib.Core.Bool.{cond}
use Rattle.std.specs.Prelude.{Result, Option, None, Some}
use Rattle.can.specs.declared.Frame.{Frame}
use Rattle.can.proofs.Refusals.{told_so}
use Rattle.dictionary.specs.declared.abort.Abort.{Abort}
use Rattle.dictionary.specs.AbortCodes.{code_in}
use Rattle.dictionary.proofs.AbortCodes.{one_answer}
use Rattle.parts.specs.declared.Head.{Head}
use Rattle.parts.specs.declared.Sent.{Sent}
use Rattle.parts.specs.declared.Answer.{Answer}
use Rattle.promises.specs.Calls.{SlotAnswer, answered}
use Rattle.promises.specs.ByValue.{is_given, frame_given, answer_in}
use Rattle.steps.specs.declared.slot.Outgoing.{Outgoing}
use Rattle.lent.specs.Steps.{sent_as}
use Rattle.outcomes.specs.Outcomes.{Outcomes, LentOutcomes}

-- two outcomes are equal if both have the answer that is due and leave the same
same : {A B : Type 0} {due : A} (x y : A × B) → x.1 ≡ y.1 → x.0 ≡ due → y.0 ≡ due → x ≡ y
same x y l p q = λ i. ((p ∙ sym q) i, l i)

-- the same for an answer that is given by its code
coded_alike : {C : Type 0} {due : ℕ} (x y : Result (Unit {0}) Abort × C) → x.1 ≡ y.1 → code_in x.0 ≡ due → code_in y.0 ≡ due → x ≡ y
coded_alike x y l p q = λ i. (one_answer x.0 y.0 (p ∙ sym q) i, l i)

-- the same for a lent head: the answer and the head that is left
answered_alike : {C : Type 0} {due : Answer} (x y : ℕ × (Head × C)) → x.1.1 ≡ y.1.1 → answered x.0 x.1.0 ≡ due → answered y.0 y.1.0 ≡ due → x ≡ y
answered_alike x y l p q = λ i. (((p ∙ sym q) i).refusal, (((p ∙ sym q) i).head, l i))

sent_alike : {C : Type 0} {due : SlotAnswer} (x y : Outgoing × (Head × C)) → x.1.1 ≡ y.1.1 → sent_as x.0 x.1.0 ≡ due → sent_as y.0 y.1.0 ≡ due → x ≡ y
sent_alike x y l p q = λ i. (record { waited = ((p ∙ sym q) i).waited; frame = ((p ∙ sym q) i).frame }, (((p ∙ sym q) i).head, l i))

left_alike : {A C : Type 0} {due : Head} (x y : A × (Head × C)) → x.0 ≡ y.0 → x.1.1 ≡ y.1.1 → x.1.0 ≡ due → y.1.0 ≡ due → x ≡ y
left_alike x y k l p q = λ i. (k i, ((p ∙ sym q) i, l i))

-- the answer of a slot by value is told by what `promises` says of it
slot_with : SlotAnswer → Sent
slot_with s = record { frame = cond s.waited (Some s.frame) None; head = s.head }

slot_told : (f : Option Frame) (h : Head)
    → record { frame = f; head = h } ≡ slot_with (record { waited = is_given f; frame = frame_given f; head = h })
unfolding slot_with
slot_told None h = refl
slot_told (Some f) h = refl

slot_so : {s : Sent} {a : SlotAnswer} → answer_in s ≡ a → s ≡ slot_with a
slot_so {s} e = slot_told s.frame s.head ∙ ap slot_with e

pub outcomes : Outcomes
outcomes =
    record {
      can·Refusal·number = λ κs a x y. same x y refl;
      can·number_in = λ κs a x y. same x y refl;
      can·checked = λ κs a x y p q. same x y refl (told_so p) (told_so q);
      can·word = λ κs a x y. same x y refl;
      can·long = λ κs a x y. same x y refl;
      can·long_bytes = λ κs a x y. same x y refl;
      can·bits = λ κs a x y. same x y refl;
      names·is_name = λ κs a x y p q. same x y refl p.0 q.0;
      names·unknown = λ κs a x y. same x y refl;
      names·short = λ κs a x y. same x y refl;
      names·runs = λ κs a x y. same x y refl;
      names·started = λ κs a x y. same x y refl;
      names·toggle = λ κs a x y. same x y refl;
      names·named = λ κs a x y. same x y refl;
      names·segment = λ κs a x y. same x y refl;
      names·next = λ κs a x y. same x y refl;
      waiting·none = λ κs a x y. same x y refl;
      waiting·waits = λ κs a x y. same x y refl;
      waiting·join = λ κs a x y. same x y refl;
      waiting·withdraw = λ κs a x y. same x y refl;
      waiting·first = λ κs a x y. same x y refl;
      waiting·taken = λ κs a x y. same x y refl;
      waiting·join_if = λ κs a x y. same x y refl;
      waiting·withdraw_if = λ κs a x y. same x y refl;
      waiting·join_those = λ κs a x y. same x y refl;
      waiting·withdraw_those = λ κs a x y. same x y refl;
      position·scaling = λ κs a x y. same x y refl;
      position·inverted = λ κs a x y. same x y refl;
      position·directed_of = λ κs a x y. same x y refl;
      position·position_of = λ κs a x y. same x y refl;
      position·preset_to = λ κs a x y. same x y refl;
      entries·Settings·factory = λ κs a x y. same x y refl;
      entries·name_of = λ κs a x y. same x y refl;
      entries·table·find = λ κs a x y. same x y refl;
      entries·table·altered = λ κs a x y. same x y refl;
      entries·table·key_of = λ κs a x y. same x y refl;
      dictionary·abort·Abort·code = λ κs a x y. same x y refl;
      acceptance·check_write = λ κs a x y. coded_alike x y refl;
      acceptance·check_value = λ κs a x y. coded_alike x y refl;
      acceptance·is_on = λ κs a x y. same x y refl;
      values·read = λ κs a x y. same x y refl;
      writes·write = λ κs a x y. same x y refl;
      writes·communication_after = λ κs a x y. same x y refl;
      writes·profile_after = λ κs a x y. same x y refl;
      replies·no_reply = λ κs a x y. same x y refl;
      replies·abort = λ κs a x y. same x y refl;
      replies·confirm = λ κs a x y. same x y refl;
      replies·shown = λ κs a x y. same x y refl;
      replies·segment = λ κs a x y. same x y refl;
      requests·is_abort = λ κs a x y. same x y refl;
      requests·is_segment = λ κs a x y. same x y refl;
      requests·toggle = λ κs a x y. same x y refl;
      requests·taken_apart = λ κs a x y. same x y refl;
      serving·serve = λ κs a x y. same x y refl;
      states·is_initialising = λ κs a x y. same x y refl;
      states·is_operational = λ κs a x y. same x y refl;
      states·is_live = λ κs a x y. same x y refl;
      counting·counted = λ κs a x y. same x y refl;
      counting·restarted = λ κs a x y. same x y refl;
      emergency·may_wait = λ κs a x y. same x y refl;
      emergency·frame = λ κs a x y. same x y refl;
      emergency·inhibit_ticks = λ κs a x y. same x y refl;
      emergency·ticked = λ κs a x y. same x y refl;
      heartbeat·may_wait = λ κs a x y. same x y refl;
      heartbeat·ticked = λ κs a x y. same x y refl;
      heartbeat·frame = λ κs a x y. same x y refl;
      tpdo·is_synchronous = λ κs a x y. same x y refl;
      tpdo·may_join = λ κs a x y. same x y refl;
      tpdo·may_stay = λ κs a x y. same x y refl;
      tpdo·uncounted = λ κs a x y. same x y refl;
      tpdo·ticked = λ κs a x y. same x y refl;
      tpdo·synced = λ κs a x y. same x y refl;
      tpdo·written = λ κs a x y. same x y refl;
      tpdo·frame = λ κs a x y. same x y refl;
      tpdo·sync·sync = λ κs a x y. same x y refl;
      settling·joined = λ κs a x y. same x y refl;
      nmt·ordered = λ κs a x y. same x y refl;
      nmt·entry·enter = λ κs a x y. same x y refl;
      nmt·entry·restart = λ κs a x y. same x y refl;
      nmt·entry·at_rest = λ κs a x y. same x y refl;
      server·serves = λ κs a x y. same x y refl;
      server·frame = λ κs a x y. same x y refl;
      server·effect·reply = λ κs a x y. same x y refl;
      server·effect·empty = λ κs a x y. same x y refl;
      server·effect·save = λ κs a x y. same x y refl;
      server·effect·scale = λ κs a x y. same x y refl;
      server·effect·configure = λ κs a x y. same x y refl;
      samples·raw = λ κs a x y. same x y refl;
      samples·missing = λ κs a x y. same x y refl;
      steps·hear·hear = λ κs a x y. same x y refl;
      steps·slot·slot = λ κs a x y. same x y refl;
      steps·slot·boot = λ κs a x y. same x y refl;
      steps·slot·announce = λ κs a x y. same x y refl;
      steps·slot·take = λ κs a x y. same x y refl;
      steps·tick·tick = λ κs a x y. same x y refl;
      head·power_up = λ κs a x y p q. same x y refl p.0 q.0;
      head·checked = λ κs a x y p q. same x y refl (told_so p.0) (told_so q.0);
      head·powered = λ κs a x y p q. same x y refl p.0 q.0;
      head·receive = λ κs a x y p q. same x y refl p.0 q.0;
      head·tick = λ κs a x y p q. same x y refl p.0 q.0;
      head·sample = λ κs a x y p q. same x y refl p.0 q.0;
      head·sample_missing = λ κs a x y p q. same x y refl (ap (λ (r : Answer). r.head) p.0) (ap (λ (r : Answer). r.head) q.0);
      head·sample_raw = λ κs a x y p q. same x y refl p.0 q.0;
      head·slot = λ κs a x y p q. same x y refl (slot_so p.0) (slot_so q.0);
      lines·empty = λ κs a x y. same x y refl;
      lines·kept = λ κs a x y. same x y refl;
      lines·at_most = λ κs a x y. same x y refl;
      lines·push = λ κs a x y. same x y refl;
      lines·extend = λ κs a x y. same x y refl;
      lines·of = λ κs a x y. same x y refl;
      numbers·read = λ κs a x y. same x y refl;
      parsing·parse_line = λ κs a x y. same x y refl;
      parsing·parse = λ κs a x y. same x y refl;
      printing·frame = λ κs a x y. same x y refl;
      printing·none = λ κs a x y. same x y refl;
      printing·refusal = λ κs a x y. same x y refl;
      commands·obey = λ κs a x y. same x y refl;
      feeding·start = λ κs a x y p q. same x y refl p.0 q.0;
      feeding·answer = λ κs a x y p q. same x y refl p.0 q.0;
      feeding·feed = λ κs a x y p q. same x y refl p.0 q.0;
      feeding·chunk = λ κs a x y p q. same x y (λ i. (tt, (tt, ((p.1 ∙ sym q.1) i, tt)))) p.0 q.0;
      feeding·close = λ κs a x y. same x y refl;
    }

pub lent_outcomes : LentOutcomes
lent_outcomes =
    record {
      emergency·Telling·of = λ κs a x y p q. same x y refl p q;
      head·obeying·obey = λ κs a x y p q. left_alike x y refl refl p q;
      head·sending·send = λ κs a x y p q. left_alike x y refl refl p q;
      lent·haybleater_power_up = λ κs a x y p q. answered_alike x y refl p.0 q.0;
      lent·haybleater_receive = λ κs a x y p q. answered_alike x y refl p.0 q.0;
      lent·haybleater_tick = λ κs a x y p q. left_alike x y refl refl p.0 q.0;
      lent·haybleater_sample = λ κs a x y p q. answered_alike x y refl p.0 q.0;
      lent·haybleater_missing = λ κs a x y p q. left_alike x y refl refl (ap (λ (a : Answer). a.head) p.0) (ap (λ (a : Answer). a.head) q.0);
      lent·haybleater_slot = λ κs a x y p q. sent_alike x y refl p.0 q.0;
      lent·haybleater_state = λ κs a x y p q. same x y refl p q;
      lent·haybleater_good = λ κs a x y p q. same x y refl p q;
      lent·haybleater_position = λ κs a x y p q. same x y refl p q;
      lent·haybleater_goes_if_missing = λ κs a x y p q. same x y refl p q;
      lent·haybleater_waits = λ κs a x y p q. same x y refl p q;
    }
