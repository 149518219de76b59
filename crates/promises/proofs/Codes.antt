-- Proves `Codes` of specs/Codes.antt.
use Prim.Native.Nat.{ℕ, ◌+◌, ◌≤◌}
use native.Mathlib.Omega.{arith}
use lib.Dec.{eqb, ltb}
use mathlib.Core.Path.{◌≡◌, refl, sym, ap, ap₂, subst, ◌∙◌}
use mathlib.Core.Bool.{Bool, true, false, not, ◌&&◌, ◌||◌}
use mathlib.Core.List.{List, [], ◌∷◌}
use mathlib.Core.Option.{some}
use mathlib.Core.Logic.{inl, inr, ⊎_elim}
use borrow.Author.Tests.{eqb-true, le-ltb, not-true}
use Rattle.cases.specs.Cases.{first_of}
use Rattle.cases.proofs.Cases.{by, by₂, both, either, neither, true_false}
use Rattle.can.specs.declared.Received.{Received}
use Rattle.can.specs.declared.Frame.{Frame}
use Rattle.position.specs.Profile.{highest_raw}
use Rattle.std.specs.Prelude.{Some as Number}
use Rattle.waiting.specs.Line.{first}
use Rattle.parts.specs.declared.Core.{Core}
use Rattle.parts.specs.declared.Head.{Head}
use Rattle.parts.specs.declared.Nmt.{Nmt}
use Rattle.parts.specs.declared.Sensor.TheVariants.{Missing, Raw}
use Rattle.promises.specs.States.{CommandedState, operational, stopped, pre_operational, code, is_in, is_initialising, node, Command}
use Rattle.promises.specs.States.{to_enter, to_reset, no_command, command, byte_of}
use Rattle.promises.specs.WaitingLine.{Kind, emergency, sdo_reply, heartbeat, tpdo, frame_of}
use Rattle.promises.specs.Acts.{Act, nothing, enter, reset, boot, idle, send, take, lose, time, sync, serve, acted}
use Rattle.promises.specs.Calls.{Call, receive, tick, sample, slot, commanded, meant, step, slot_answer, is_frame, frame_in}
use Rattle.promises.specs.Valid.{waits, Valid}
use Rattle.promises.specs.Meant.{Commands, Requests, not_booted}
use Rattle.promises.specs.Histories.{after, PowerUp, powered}
use Rattle.promises.specs.Service.{reply_frame}
use Rattle.promises.specs.FiveSlots.{one_byte}
use Rattle.promises.specs.Gap.{node_of}
use Rattle.promises.specs.Codes.{says, code_by, code_from, code_after, InState, IsSaid, Asks, IsFirst, Codes}
use Rattle.promises.proofs.KindNumbers.{sent_as_law}
use Rattle.promises.proofs.Valid.{valid_step}
use Rattle.promises.proofs.Unmeant.{not_meant}
use Rattle.promises.proofs.Slots.{answers, awake, sends_first}
use Rattle.promises.proofs.Meant.{core_step, commands}
use Rattle.promises.proofs.Causes.{Cause, cause}
use Rattle.promises.proofs.NetworkStates.{network_states}
use Rattle.promises.proofs.Histories.{valid_after, valid_powered}
use Rattle.promises.proofs.SameNode.{node_step, node_after, node_powered}
use Rattle.promises.proofs.Spoken.{commands_so}
use Rattle.promises.proofs.Parameters.{parameters_read}

abbrev code_of : Core → ℕ
code_of c = c.nmt.code

-- the code after a command of first byte b, if it is to the head; x before it
abbrev code_said : Bool → ℕ → ℕ → ℕ
code_said to b x =
    first_of (
    (to && eqb b 0x01, 0x05) ∷
    (to && eqb b 0x02, 0x04) ∷
    (to && eqb b 0x80, 0x7F) ∷
    (to && eqb b 0x81, 0x00) ∷
    (to && eqb b 0x82, 0x00) ∷ [])
    x

-- the code of the state that a command's first byte enters
module _ (c : Core) where
  abbrev Enters : Command → ℕ → Type 0
  Enters k x = code_of (acted c (commanded c k)) ≡ x

  enters : (g : CommandedState) → Enters (to_enter g) (code g)
  enters g = by (λ a. code_of (acted c a) ≡ code g) (is_in g c) (λ e. eqb-true (code_of c) (code g) e) (λ _. refl)

  says_code : (b : ℕ) → Enters (command b) (code_said true b (code_of c))
  says_code b =
      by₂ Enters (eqb b 0x01) (λ _. enters operational)
      (λ _. by₂ Enters (eqb b 0x02) (λ _. enters stopped)
      (λ _. by₂ Enters (eqb b 0x80) (λ _. enters pre_operational)
      (λ _. by₂ Enters (eqb b 0x81) (λ _. refl)
      (λ _. by₂ Enters (eqb b 0x82) (λ _. refl) (λ _. refl)))))

-- what follows where the test `to` passes and where it fails
by_tests : (to : Bool) (b x y : ℕ) → (to ≡ true → y ≡ code_said true b x) → (to ≡ false → y ≡ x) → y ≡ code_said to b x
by_tests true b x y f g = f refl
by_tests false b x y f g = g refl

module _ (n : ℕ) (h : Head) (q : node h.core ≡ n) (v : Valid h) where
  abbrev c : Core
  c = h.core

  -- a command to node n, whatever it says
  abbrev addressed : Received → Bool
  addressed f =
      not (f.extended || f.remote) && eqb f.identifier 0x000 && eqb f.length 2 && (eqb (byte_of f 1) 0 || eqb (byte_of f 1) n)

  -- is one that the head hears,
  commands_heard : (f : Received) → is_initialising c ≡ false → addressed f ≡ true → Commands h f (command (byte_of f 0))
  commands_heard f i e =
      let to = eqb (byte_of f 1) 0 || eqb (byte_of f 1) n in
      let plain = not (f.extended || f.remote) in
      let x = both (plain && eqb f.identifier 0x000 && eqb f.length 2) to e in
      let y = both (plain && eqb f.identifier 0x000) (eqb f.length 2) x.0 in
      let z = both plain (eqb f.identifier 0x000) y.0 in
      let u = not-true (f.extended || f.remote) z.0 in
      let its-identifier : f.identifier ≡ 0x000 = eqb-true f.identifier 0x000 z.1 in
      let length : f.length ≡ 2 = eqb-true f.length 2 y.1 in
      let extended : f.extended ≡ false = (neither f.extended f.remote u).0 in
      record {
        hears = record { unrefused = rw (extended, its-identifier, length); heard = rw (u, i) };
        identifier = its-identifier;
        says = rw (y.1, rw (← q) at x.1);
      }

  pub says_byte : (f : Received) (b : ℕ) → is_initialising c ≡ false → says n b (receive f) ≡ true → Commands h f (command b)
  says_byte f b i e =
      let w = both (addressed f) (eqb (byte_of f 0) b) e in
      subst (λ x. Commands h f (command x)) (eqb-true (byte_of f 0) b w.1) (commands_heard f i w.0)

  -- and what the head hears is one
  is_addressed : (f : Received) (k : Command) → Commands h f k → (k ≡ no_command → ⊥) → addressed f ≡ true
  is_addressed f k m named = (both (addressed f) true (commands_so n h f q (λ _. true) k m named (λ _. refl))).0

  unaddressed : (f : Received) (a : Act) → addressed f ≡ false → Cause h f a → code_of (acted c a) ≡ code_of c
  unaddressed f nothing e x = refl
  unaddressed f (enter g) e x = true_false (sym (is_addressed f (to_enter g) x.0 (λ e. let z : ◌≡◌ {A = ℕ} 0 1 = cc in omega arith)) ∙ e)
  unaddressed f (reset r) e x = true_false (sym (is_addressed f (to_reset r) x (λ e. let z : ◌≡◌ {A = ℕ} 0 1 = cc in omega arith)) ∙ e)
  unaddressed f boot e x = absurd x
  unaddressed f idle e x = refl
  unaddressed f (send k) e x = absurd x
  unaddressed f (take r) e x = refl
  unaddressed f lose e x = refl
  unaddressed f time e x = refl
  unaddressed f sync e x = refl
  unaddressed f (serve s) e x = refl

  -- by what the call means
  abbrev Leaves : ℕ → Act → Type 0
  Leaves x a = code_of (acted c a) ≡ x

  code_sent : (k : Kind) → Leaves (code_of c) (send k)
  code_sent emergency = refl
  code_sent sdo_reply = refl
  code_sent heartbeat = refl
  code_sent (tpdo w) = refl

  code_heard : (f : Received) → Leaves (code_by n (code_of c) (receive f)) (meant h (receive f))
  code_heard f =
      by (λ x. Leaves x (meant h (receive f))) (is_initialising c)
      (λ i. ap code_of (sym (core_step h (receive f)) ∙ ap (λ (m : Head). m.core) (not_meant h f v (not_booted i))) ∙ eqb-true (code_of c)
      0x00 i)
      (λ i. by_tests (addressed f) (byte_of f 0) (code_of c) _
      (λ e. ap (λ a. code_of (acted c a)) (commands h f (commands_heard f i e)) ∙ says_code c (byte_of f 0))
      (λ e. unaddressed f (meant h (receive f)) e (cause h f v)))

  code_act : (x : Call) → Leaves (code_by n (code_of c) x) (meant h x)
  code_act (receive f) = code_heard f
  code_act tick = by (Leaves (code_of c)) (is_initialising c) (λ _. refl) (λ _. refl)
  code_act (sample Missing) = refl
  code_act (sample (Raw r)) = by (Leaves (code_of c)) (ltb highest_raw r) (λ _. refl) (λ _. refl)
  code_act slot =
      by₂ (λ a x. Leaves x a) (is_initialising c) (λ _. refl)
      (λ _. sent_as_law (Leaves (code_of c)) (first h.line) refl code_sent)

  code_step : (x : Call) → code_of (step h x).core ≡ code_by n (code_of c) x
  code_step x = ap code_of (core_step h x) ∙ code_act x

code_after_law : (n : ℕ) (cs : List Call) (h : Head) (x : ℕ) → node h.core ≡ n → Valid h → code_of h.core ≡ x
    → code_of (after h cs).core ≡ code_from n x cs
code_after_law n [] h x q v e = e
code_after_law n (y ∷ cs) h x q v e =
    code_after_law n cs (step h y) (code_by n x y) (node_step h v y ∙ q) (valid_step h y v) (code_step n h q v y ∙ ap (λ z. code_by n z y) e)

pub code_is : (p : PowerUp) (cs : List Call) → code_of (after (powered p) cs).core ≡ code_after (node_of p) cs
code_is p cs =
    code_after_law (node_of p) cs (powered p) 0x00 (node_powered p) (valid_powered p) (ap (λ (s : Nmt). s.code) (network_states.starts p))

module _ (h : Head) (v : Valid h) where
  sends : (k : Kind) → IsFirst k h → (is_frame (slot_answer h) ≡ true) × (frame_in (slot_answer h) ≡ frame_of h.core k)
  sends k e = answers h (sends_first h v (awake h v k e) k e)

-- A request is one in plain numbers, of every head whose node is n and whose code is x.
module _ (n x : ℕ) (h : Head) (f : Received) (q : node h.core ≡ n) (e : code_of h.core ≡ x) where
  asked : Requests h f → Asks n x f × (waits h sdo_reply ≡ false)
  asked r =
      let plain = (neither (f.extended || f.remote) (is_initialising h.core) r.hears.heard).0 in
      let u = neither f.extended f.remote plain in (
        record {
          of_11_bits = u.0;
          is_data = u.1;
          identifier = r.identifier ∙ ap (λ k. 0x600 + k) q;
          length = r.length;
          state =
              either (eqb (code_of h.core) 0x7F) (eqb (code_of h.core) 0x05) r.live
              (λ t. inl (sym e ∙ eqb-true _ _ t))
              (λ t. inr (sym e ∙ eqb-true _ _ t));
        },
        r.free,
      )

  pub asks : n ≤ 127 → Asks n x f → waits h sdo_reply ≡ false → Requests h f
  asks low a free =
      record {
        hears =
            record {
              unrefused =
                  rw (a.of_11_bits, a.length, le-ltb 0x7FF f.identifier (omega (arith, a.identifier, low)));
              heard = rw (a.of_11_bits, a.is_data, e) (⊎_elim (λ t. rw t) (λ t. rw t) a.state);
            };
        identifier = a.identifier ∙ ap (λ k. 0x600 + k) (sym q);
        length = a.length;
        live = rw e (⊎_elim (λ t. rw t) (λ t. rw t) a.state);
        free = free;
      }

pub codes : Codes
codes =
    record {
      codes = code_is;
      in_state = λ p cs. subst (InState (after (powered p) cs).core) (code_is p cs)
          (record { is_initialising_law = refl; is_stopped = refl; is_operational_law = refl; is_pre_operational = refl; is_live_law = refl });
      said = (said 0x01, (said 0x02, (said 0x80, (said 0x81, (said 0x82, tt)))));
      requests = λ p cs f.
          let h : Head = after (powered p) cs in
          let low = rw (its_node p cs) at (valid p cs).device.node_high in (
            asked (node_of p) (code_after (node_of p) cs) h f (its_node p cs) (code_is p cs),
            λ a. asks (node_of p) (code_after (node_of p) cs) h f (its_node p cs) (code_is p cs) low a.0 a.1,
          );
      beats = λ p cs e.
          let h : Head = after (powered p) cs in
          let s = sends h (valid p cs) heartbeat e in
          (s.0, s.1 ∙ ap₂ (λ n x. one_byte (0x700 + n) x) (its_node p cs) (code_is p cs));
      replies = λ p cs e.
          let h : Head = after (powered p) cs in
          let s = sends h (valid p cs) sdo_reply e in
          (s.0, s.1 ∙ ap (λ n. reply_frame n h.core.reply) (its_node p cs));
      shows = λ p cs w e.
          let h : Head = after (powered p) cs in
          let s = sends h (valid p cs) (tpdo w) e in
          let read = (parameters_read h).identifier w ∙ ap (λ (f : Frame). some (Number f.identifier)) (sym s.1) in
          (s.0, ap (λ (f : Frame). f.length) s.1, read);
    }
  where
    valid : (p : PowerUp) (cs : List Call) → Valid (after (powered p) cs)
    valid p cs = valid_after (powered p) cs (valid_powered p)

    its_node : (p : PowerUp) (cs : List Call) → node (after (powered p) cs).core ≡ node_of p
    its_node p cs = node_after (powered p) (valid_powered p) cs ∙ node_powered p

    said : (b : ℕ) → IsSaid (b, command b)
    said b p cs f = says_byte (node_of p) (after (powered p) cs) (its_node p cs) (valid p cs) f b
