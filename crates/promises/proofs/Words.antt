-- Proves `Words` of specs/Words.antt.
use Prim.Native.Nat.{ℕ, ◌<◌}
use native.Mathlib.Omega.{arith}
use lib.Dec.{eqb, ltb}
use mathlib.Core.Path.{◌≡◌, refl, sym, ap, subst, ◌∙◌}
use mathlib.Core.Bool.{Bool, true, false, not, ◌&&◌, ◌||◌, or-true}
use mathlib.Core.List.{List, [], ◌∷◌}
use mathlib.Core.Logic.{◌⊎◌, ◌↔◌, inl, inr, ⊎_elim}
use borrow.Author.Tests.{eqb-true, eq-eqb, le-ltb, lt-ltb, ltb-true, not-true}
use Rattle.cases.proofs.Cases.{by, test, both, either, neither, true_false}
use Rattle.can.specs.declared.Received.{Received}
use Rattle.position.specs.Profile.{highest_raw}
use Rattle.entries.specs.declared.Device.{Device}
use Rattle.sdo.specs.Exactly.{Exactly}
use Rattle.sdo.proofs.Laws.{laws as sdo-laws}
use Rattle.sdo.proofs.UploadLaws.{listed, uploads}
use Rattle.waiting.specs.Places.{waiting}
use Rattle.waiting.specs.Line.{first}
use Rattle.parts.specs.declared.Core.{Core}
use Rattle.parts.specs.declared.Head.{Head}
use Rattle.parts.specs.declared.Sensor.{Sensor}
use Rattle.parts.specs.declared.Sensor.TheVariants.{Missing, Raw}
use Rattle.promises.specs.States.{is_initialising, node, operational, stopped, pre_operational, is_in, started, of_node, of_communication}
use Rattle.promises.specs.States.{Command, no_command, to_enter, to_reset, command, byte_of, command_of}
use Rattle.promises.specs.WaitingLine.{Kind, number}
use Rattle.promises.specs.Calls.{Call, receive, tick, sample, slot, step}
use Rattle.promises.specs.Meant.{Commands, Synchronises, due_to}
use Rattle.promises.specs.Histories.{after, slots, sent, PowerUp, powered}
use Rattle.promises.specs.Gap.{node_of, is_command}
use Rattle.promises.specs.Codes.{code_after, IsFirst}
use Rattle.promises.specs.Words.{Follows, Orders, IsCommand, Syncs, WritesOrResets, SavesOrLoads, Words}
use Rattle.promises.specs.Resets.{restored_by82, Saves, Alters}
use Rattle.promises.specs.Service.{reply_due}
use Rattle.promises.proofs.Altered.{Altered, heard, timed, sent as quiet, refused, took, lost, restarted, served, carried, altered}
use Rattle.promises.proofs.Codes.{says_byte, code_is}
use Rattle.promises.proofs.Kept.{settings_by, saved_by_law}
use Rattle.promises.proofs.FiveSlots.{five_slots}
use Rattle.promises.proofs.Histories.{valid_after, valid_powered, valid_reachable}
use Rattle.promises.proofs.SameNode.{node_after, node_powered}
use Rattle.promises.proofs.Spoken.{commands_so}
use Rattle.promises.proofs.Starts.{identity_after}
use Rattle.promises.proofs.Meant.{core_step}
use Rattle.promises.proofs.Demand1.{demand1}

-- a list of calls, call by call
follows : (h : Head) (cs : List Call) → Follows h cs
follows h cs =
    record {
      none = (refl, refl, refl);
      next = λ c. refl;
      counts = omega arith;
      sends = λ e. rw e;
      sends_none = λ e. rw e;
      others = others;
    }
  where
    others : (c : Call) → (c ≡ slot → ⊥) → (slots (c ∷ cs) ≡ slots cs) × (sent h (c ∷ cs) ≡ sent (step h c) cs)
    others (receive f) n = (omega arith, refl)
    others tick n = (omega arith, refl)
    others (sample s) n = (omega arith, refl)
    others slot n = absurd (n refl)

-- the first byte of a command that is one
abbrev byte_for : Command → ℕ
byte_for no_command = 0
byte_for (to_enter operational) = 0x01
byte_for (to_enter stopped) = 0x02
byte_for (to_enter pre_operational) = 0x80
byte_for (to_reset of_node) = 0x81
byte_for (to_reset of_communication) = 0x82

byte_for_law : (b : ℕ) → (command b ≡ no_command → ⊥) → byte_for (command b) ≡ b
byte_for_law b =
    by Is (eqb b 0x01) (λ e _. sym (eqb-true b 0x01 e))
    (λ _. by Is (eqb b 0x02) (λ e _. sym (eqb-true b 0x02 e))
    (λ _. by Is (eqb b 0x80) (λ e _. sym (eqb-true b 0x80 e))
    (λ _. by Is (eqb b 0x81) (λ e _. sym (eqb-true b 0x81 e))
    (λ _. by Is (eqb b 0x82) (λ e _. sym (eqb-true b 0x82 e)) (λ _ n. absurd (n refl))))))
  where
    Is : Command → Type 0
    Is k = (k ≡ no_command → ⊥) → byte_for k ≡ b

ordered : (n : ℕ) (t : ℕ → Bool) (f : Received) → (is_command n t (receive f) ≡ true) ↔ ((b : ℕ) × (t b ≡ true) × Orders n b f)
ordered n t f = (
  λ e.
      let w = both (plain && eqb f.identifier 0x000 && eqb f.length 2 && to) (t (byte_of f 0)) e in
      let x = both (plain && eqb f.identifier 0x000 && eqb f.length 2) to w.0 in
      let y = both (plain && eqb f.identifier 0x000) (eqb f.length 2) x.0 in
      let z = both plain (eqb f.identifier 0x000) y.0 in
      let u = neither f.extended f.remote (not-true (f.extended || f.remote) z.0) in
      let orders : Orders n (byte_of f 0) f =
      record {
        of_11_bits = u.0;
        is_data = u.1;
        identifier = eqb-true f.identifier 0x000 z.1;
        length = eqb-true f.length 2 y.1;
        to_node =
            either (eqb (byte_of f 1) 0) (eqb (byte_of f 1) n) x.1 (λ s. inl (eqb-true _ _ s)) (λ s. inr (eqb-true _ _ s));
        first_byte = refl;
      } in
      (byte_of f 0, w.1, orders),
  λ x.
      let o = x.2 in
      rw (o.of_11_bits, o.is_data, o.identifier, o.length, named o.to_node, o.first_byte) x.1,
)
  where
    plain : Bool
    plain = not (f.extended || f.remote)

    to : Bool
    to = eqb (byte_of f 1) 0 || eqb (byte_of f 1) n

    named : (byte_of f 1 ≡ 0) ⊎ (byte_of f 1 ≡ n) → to ≡ true
    named (inl e) = rw (eq-eqb (byte_of f 1) 0 e)
    named (inr e) = rw (eq-eqb (byte_of f 1) n e) (or-true (eqb (byte_of f 1) 0))

-- of every head whose node is n and whose code is x
module _ (n x : ℕ) (h : Head) (f : Received) (q : node h.core ≡ n) (e : h.core.nmt.code ≡ x) where
  booted : is_initialising h.core ≡ false → x ≡ 0x00 → ⊥
  booted i z = true_false (sym (eq-eqb h.core.nmt.code 0x00 (e ∙ z)) ∙ i)

  not_initialising : (x ≡ 0x00 → ⊥) → is_initialising h.core ≡ false
  not_initialising z = test (is_initialising h.core) (λ t. absurd (z (sym e ∙ eqb-true h.core.nmt.code 0x00 t))) (λ t. t)

  commands_orders : (b : ℕ) → (command b ≡ no_command → ⊥) → byte_for (command b) ≡ b → Commands h f (command b)
      → Orders n b f × (x ≡ 0x00 → ⊥)
  commands_orders b named its-byte m =
      let u = (ordered n (λ _. true) f).0 (commands_so n h f q (λ _. true) (command b) m named (λ _. refl)) in
      let o : Orders n u.0 f = u.2 in
      let said : command (byte_of f 0) ≡ command b = sym (addressed o) ∙ rw q at m.says in
      let same : byte_of f 0 ≡ b = sym (byte_for_law (byte_of f 0) (λ z. named (sym said ∙ z))) ∙ ap byte_for said ∙ its-byte in (
        record {
          of_11_bits = o.of_11_bits;
          is_data = o.is_data;
          identifier = o.identifier;
          length = o.length;
          to_node = o.to_node;
          first_byte = same;
        },
        booted (neither (f.extended || f.remote) (is_initialising h.core) m.hears.heard).1,
      )
    where
      addressed : {b : ℕ} → Orders n b f → command_of n f ≡ command (byte_of f 0)
      addressed o =
          rw o.length
          (⊎_elim (λ t. rw (eq-eqb (byte_of f 1) 0 t)) (λ t. rw (eq-eqb (byte_of f 1) n t, or-true (eqb (byte_of f 1) 0))) o.to_node)

  synchronised : Synchronises h f → Syncs x f
  synchronised s =
      let u = neither f.extended f.remote (neither (f.extended || f.remote) (is_initialising h.core) s.hears.heard).0 in
      record {
        of_11_bits = u.0;
        is_data = u.1;
        identifier = s.identifier;
        length = s.length;
        state = sym e ∙ eqb-true h.core.nmt.code 0x05 s.operational;
      }

  syncs : Syncs x f → Synchronises h f
  syncs s =
      let its_code : h.core.nmt.code ≡ 0x05 = e ∙ s.state in
      record {
        hears =
            record {
              unrefused = rw (s.of_11_bits, s.identifier, le-ltb 8 f.length (omega (arith, s.length)));
              heard = rw (s.of_11_bits, s.is_data, its_code);
            };
        identifier = s.identifier;
        length = s.length;
        operational = rw its_code;
      }

firsts : (k : Kind) (h : Head) → IsFirst k h ↔ ((ks : List ℕ) × (waiting h.line ≡ number k ∷ ks))
firsts k h = (begins (waiting h.line), λ x. ap first x.1)
  where
    begins : (ws : List ℕ) → first ws ≡ number k → (ks : List ℕ) × (ws ≡ number k ∷ ks)
    begins [] e = absurd (omega (arith, e, five_slots.not_0 k))
    begins (w ∷ ws) e = (ws, ap (λ x. x ∷ ws) e)

below_2000h : (i : ℕ) → (restored_by82 i ≡ true) ↔ ((i < 0x2000) ⊎ (i ≡ 0x6200))
below_2000h i = (
  λ e. either (ltb i 0x2000) (eqb i 0x6200) e (λ t. inl (ltb-true i 0x2000 t)) (λ t. inr (eqb-true i 0x6200 t)),
  λ x. ⊎_elim (λ t. rw (lt-ltb i 0x2000 t)) (λ t. rw (eq-eqb i 0x6200 t) (or-true (ltb i 0x2000))) x,
)

alters_frame : (h : Head) (c : Call) → Alters h c → (f : Received) × (c ≡ receive f) × WritesOrResets h f
alters_frame h (receive f) x = (f, refl, x)
alters_frame h tick x = absurd x
alters_frame h (sample s) x = absurd x
alters_frame h slot x = absurd x

saves_frame : (h : Head) (c : Call) → Saves h c → (f : Received) × (c ≡ receive f) × SavesOrLoads h f
saves_frame h (receive f) x = (f, refl, x)
saves_frame h tick x = absurd x
saves_frame h (sample s) x = absurd x
saves_frame h slot x = absurd x

reading_altered : (h : Head) (c : Call) (d : Device) → Altered h c d
    → (d.reading ≡ h.core.device.reading) ⊎ ((s : Sensor) × (c ≡ sample s))
reading_altered h _ _ (heard f) = inl refl
reading_altered h _ _ timed = inl refl
reading_altered h _ _ quiet = inl refl
reading_altered h _ _ (refused r b) = inl refl
reading_altered h _ _ (took r b) = inr (Raw r, refl)
reading_altered h _ _ lost = inr (Missing, refl)
reading_altered h _ _ (restarted f r x) = inl refl
reading_altered h _ _ (served f x) = inl (carried h.core.device (reply_due h f).effect).1

pub words : Words
words =
    record {
      taken = λ p cs low high fit.
          let e : powered p ≡ started p.number p.identity =
          demand1.node_taken p.number p.identity ((demand1.takes_node p.number p.identity).1 ((low, high), fit)) in (
            node_after (powered p) (valid_powered p) cs ∙ ap (λ (h : Head). h.core.device.node) e,
            identity_after cs (powered p) (valid_powered p) ∙ ap (λ (h : Head). h.core.device.identity) e,
          );
      follows = follows;
      ordered = ordered;
      commands = (
        commands 0x01 (omega arith) refl,
        (
          commands 0x02 (omega arith) refl,
          (
            commands 0x80 (omega arith) refl,
            (commands 0x81 (omega arith) refl, (commands 0x82 (omega arith) refl, tt)),
          ),
        ),
      );
      synchronises = λ p cs f.
          let h : Head = after (powered p) cs in
          let x = code_after (node_of p) cs in
          (synchronised (node_of p) x h f (its_node p cs) (code_is p cs), syncs (node_of p) x h f (its_node p cs) (code_is p cs));
      due = λ p cs f bytes first.
          let h : Head = after (powered p) cs in
          let d = h.core.device in
          let o = is_in operational h.core in
          subst (λ x. Exactly d (eqb x 0x05) f.bytes (due_to h f)) (code_is p cs)
          (subst (Exactly d o f.bytes) (sym (listed d o h.transfer f.bytes first)) ((sdo-laws d o f.bytes).exactly bytes));
      writes = λ h f k v bytes.
          let d = h.core.device in
          let o = is_in operational h.core in
          let u = (uploads d o h.transfer f.bytes).confirmed k v in
          let c = ((sdo-laws d o f.bytes).exactly bytes).confirmations k v in
          (λ w. (w.requests, c.0 (u.0 w.accepted)), λ x. record { requests = x.0; accepted = u.1 (c.1 x.1) });
      below_2000h = below_2000h;
      firsts = firsts;
      settings_by = λ h x c. ⊎_elim inl (λ a. inr (alters_frame h c a)) (settings_by h (valid_reachable h x) c);
      saved_by_law = λ h x c. ⊎_elim inl (λ a. inr (saves_frame h c a)) (saved_by_law h (valid_reachable h x) c);
      raw = λ h x r low. ap (λ (c : Core). c.device.reading) (core_step h (sample (Raw r))) ∙ rw (le-ltb highest_raw r low);
      missing = λ h x. ap (λ (c : Core). c.device.reading.good) (core_step h (sample Missing));
      reading_by = λ h x c. reading_altered h c (step h c).core.device (altered h (valid_reachable h x) c);
    }
  where
    its_node : (p : PowerUp) (cs : List Call) → node (after (powered p) cs).core ≡ node_of p
    its_node p cs = node_after (powered p) (valid_powered p) cs ∙ node_powered p

    commands : (b : ℕ) → 0 < b → byte_for (command b) ≡ b → IsCommand (b, command b)
    commands b some its-byte p cs f =
        let h : Head = after (powered p) cs in
        let n = node_of p in
        let x = code_after n cs in
        let valid = valid_after (powered p) cs (valid_powered p) in (
          commands_orders n x h f (its_node p cs) (code_is p cs) b (λ e. omega (arith, some, sym its-byte ∙ ap byte_for e)) its-byte,
          λ o. says_byte n h (its_node p cs) valid f b (not_initialising n x h f (its_node p cs) (code_is p cs) o.1)
              ((ordered n (λ y. eqb y b) f).1 (b, eq-eqb b b refl, o.0)),
        )
