-- Proves `Demand1` of specs/Demand1.antt.
use Prim.Native.Nat.{ℕ, ◌<◌, ◌≤◌}
use native.Mathlib.Omega.{arith}
use lib.Dec.{eqb, leb, ltb}
use mathlib.Core.Path.{◌≡◌, refl, sym, ap, ◌∙◌}
use mathlib.Core.Logic.{◌↔◌, ◌⊎◌, inl, inr, ⊎_elim}
use mathlib.Core.Bool.{Bool, true, false, not, ◌&&◌, ◌||◌, or-false}
use mathlib.Core.List.{[], ◌∷◌, ◌++◌}
use borrow.Author.Tests.{eqb-true, eqb-false, leb-true, leb-false, le-leb, ltb-true, ltb-false, lt-ltb, le-ltb, not-true}
use Rattle.cases.proofs.Cases.{by, both, test, true_false}
use Rattle.cases.proofs.Shared.{shared}
use Rattle.can.specs.declared.Received.{Received}
use Rattle.can.specs.Frame.{bad_identifier, bad_length}
use Rattle.cases.specs.Tests.{within}
use Rattle.names.specs.declared.Transfer.{Transfer}
use Rattle.names.specs.Name.{is_name}
use Rattle.names.specs.Transfer.{no_transfer}
use Rattle.entries.specs.declared.Identity.{Identity}
use Rattle.entries.specs.Identity.{has_names}
use Rattle.dictionary.specs.Valid.{FitsIdentity}
use Rattle.sdo.specs.Reply.{replies}
use Rattle.sdo.specs.Request.{aborting}
use Rattle.sdo.specs.Service.{answer}
use Rattle.sdo.proofs.UploadLaws.{uploads}
use Rattle.waiting.specs.Line as line
use Rattle.waiting.specs.Line.{has}
use Rattle.parts.specs.declared.Head.{Head}
use Rattle.position.specs.Profile.{highest_raw}
use Rattle.promises.specs.States.{operational, is_in, is_live, node, Command, no_command, to_enter, to_reset, command_of}
use Rattle.promises.specs.Acts.{Act, nothing}
use Rattle.promises.specs.Calls.{receive, step, commanded, is_asked, meant}
use Rattle.promises.specs.Valid.{Valid}
use Rattle.promises.specs.Meant.{Heard, Requests, MeantFor, to_enter_law, to_reset_law, to_synchronise, to_serve, to_end, due_to}
use Rattle.promises.specs.Histories.{powered}
use Rattle.promises.specs.Demand1.{BadIdentifier, BadNode, NamesFit, Demand1}
use Rattle.promises.proofs.Nothing.{step_nothing}
use Rattle.promises.proofs.Refusals.{passes, fails, first_passes, second_passes, neither_passes, power_refusal}
use Rattle.promises.proofs.Refusals.{frame_refused, sample_refused, node_refused, node_taken}
use Rattle.promises.proofs.Hearing.{heard_by_law}
use Rattle.promises.proofs.Unmeant.{kept, ended, not_meant}
use Rattle.promises.proofs.Causes.{by_request, by_sync, asked_so}
use Rattle.promises.proofs.Histories.{after_append, valid_reachable}

-- A test and what it tests.
↔_then : {A B C : Type 0} → A ↔ B → B ↔ C → A ↔ C
↔_then f g = (λ a. g.0 (f.0 a), λ c. f.1 (g.1 c))

↔_both : {A B C D : Type 0} → A ↔ C → B ↔ D → (A × B) ↔ (C × D)
↔_both f g = (λ p. (f.0 p.0, g.0 p.1), λ p. (f.1 p.0, g.1 p.1))

↔_not : {A : Type 0} (t : Bool) → (t ≡ true) ↔ A → (t ≡ false) ↔ (A → ⊥)
↔_not true f = (λ e. true_false e, λ n. absurd (n (f.0 refl)))
↔_not false f = (λ _ a. true_false (sym (f.1 a)), λ _. refl)

ltb_tests : (a b : ℕ) → (ltb a b ≡ true) ↔ (a < b)
ltb_tests a b = (ltb-true a b, lt-ltb a b)

ltb_fails : (a b : ℕ) → (ltb a b ≡ false) ↔ (b ≤ a)
ltb_fails a b = (ltb-false a b, le-ltb a b)

identifier_tests : (extended : Bool) (i : ℕ)
    → (((not extended && ltb 0x7FF i) || (extended && ltb 0x1FFFFFFF i)) ≡ true)
    ↔ (((extended ≡ false) × (0x7FF < i)) ⊎ ((extended ≡ true) × (0x1FFFFFFF < i)))
identifier_tests true i = (λ t. inr (refl, ltb-true 0x1FFFFFFF i t), ⊎_elim (λ u. true_false u.0) (λ u. lt-ltb 0x1FFFFFFF i u.1))
identifier_tests false i = (
  λ t. inl (refl, ltb-true 0x7FF i (sym (or-false (ltb 0x7FF i)) ∙ t)),
  ⊎_elim (λ u. or-false (ltb 0x7FF i) ∙ lt-ltb 0x7FF i u.1) (λ u. true_false (sym u.0)),
)

bad_identifier_law : (f : Received) → (bad_identifier f ≡ true) ↔ BadIdentifier f
bad_identifier_law f = identifier_tests f.extended f.identifier

node_tests : (n : ℕ) → (within 1 127 n ≡ true) ↔ ((1 ≤ n) × (n ≤ 127))
node_tests n = (
  λ e. let u = both (leb 1 n) (leb n 127) e in (leb-true 1 n u.0, leb-true n 127 u.1),
  λ p. rw (le-leb 1 n p.0, le-leb n 127 p.1),
)

bad_node : (n : ℕ) → (((1 ≤ n) × (n ≤ 127)) → ⊥) ↔ BadNode n
bad_node n = (worse (leb 1 n) (leb n 127) refl refl, ⊎_elim (λ l p. omega (arith, l, p.0)) (λ l p. omega (arith, l, p.1)))
  where
    worse : (low high : Bool) → leb 1 n ≡ low → leb n 127 ≡ high → (((1 ≤ n) × (n ≤ 127)) → ⊥) → BadNode n
    worse false high l m bad = inl (leb-false 1 n l)
    worse true false l m bad = inr (leb-false n 127 m)
    worse true true l m bad = absurd (bad (leb-true 1 n l, leb-true n 127 m))

not_tests : (t : Bool) → (not t ≡ true) ↔ (t ≡ false)
not_tests true = (λ e. true_false (sym e), λ e. true_false e)
not_tests false = (λ _. refl, λ _. refl)

not_fails : (t : Bool) → (not t ≡ false) ↔ (t ≡ true)
not_fails true = (λ _. refl, λ _. refl)
not_fails false = (λ e. true_false e, λ e. true_false (sym e))

node_fails : (n : ℕ) → (not (within 1 127 n) ≡ true) ↔ BadNode n
node_fails n = ↔_then (not_tests (within 1 127 n)) (↔_then (↔_not (within 1 127 n) (node_tests n)) (bad_node n))

names_test : (i : Identity) → (has_names i ≡ true) ↔ NamesFit i
names_test i = (
  λ e.
      let u = both (is_name i.name && is_name i.hardware) (is_name i.software) e in
      let w = both (is_name i.name) (is_name i.hardware) u.0 in (
        (shared.inside 1 32 i.name.length).0 w.0,
        (shared.inside 1 32 i.hardware.length).0 w.1,
        (shared.inside 1 32 i.software.length).0 u.1,
      ),
  λ f.
      rw (
        (shared.inside 1 32 i.name.length).1 f.0,
        (shared.inside 1 32 i.hardware.length).1 f.1,
        (shared.inside 1 32 i.software.length).1 f.2,
      ),
)

none_or : (t : Transfer) → (t ≡ no_transfer) ⊎ (t ≡ no_transfer → ⊥)
none_or t =
    test (eqb t.name 0)
    (λ e. test (eqb t.segments 0)
    (λ g. inl (none_is t.name t.segments (eqb-true _ _ e) (eqb-true _ _ g)))
    (λ g. inr (λ q. eqb-false _ _ g (ap (λ (u : Transfer). u.segments) q))))
    (λ e. inr (λ q. eqb-false _ _ e (ap (λ (u : Transfer). u.name) q)))
  where
    none_is : (n s : ℕ) → n ≡ 0 → s ≡ 0 → ◌≡◌ {A = Transfer} (record { name = n; segments = s }) no_transfer
    none_is n s e g = rw (e, g)

-- What a frame that is not meant for the head means: nothing.
module _ (h : Head) (f : Received) (v : Valid h) where
  abbrev Due : Act → Type 0
  Due a = MeantFor h f ⊎ (a ≡ nothing)

  as_command : (x : Heard h f) → f.identifier ≡ 0x000 → (k : Command) → command_of (node h.core) f ≡ k → Due (commanded h.core k)
  as_command x i no_command e = inr refl
  as_command x i (to_enter g) e =
      by Due (is_in g h.core) (λ _. inr refl) (λ n. inl (to_enter_law g (record { hears = x; identifier = i; says = e }) n))
  as_command x i (to_reset r) e = inl (to_reset_law r (record { hears = x; identifier = i; says = e }))

  as_request : Requests h f → replies (answer f.bytes (due_to h f)).effect ≡ true → MeantFor h f
  as_request r t =
      let c = h.core in
      to_serve r (not-true (aborting f.bytes) (sym (uploads c.device (is_in operational c) h.transfer f.bytes).replied ∙ t))

  means : Due (meant h (receive f))
  means =
      heard_by_law h f Due (inr refl) (λ x i. as_command x i (command_of (node h.core) f) refl)
      (λ x i. by Due (leb f.length 1 && is_in operational h.core) (λ t. inl (to_synchronise (by_sync h f v x i t))) (λ _. inr refl))
      (λ x i. by Due (eqb f.length 8 && is_live h.core && not (has line.sdo_reply h.line))
      (λ t. by Due (replies (answer f.bytes (due_to h f)).effect) (λ u. inl (as_request (by_request h f v x i t) u)) (λ _. inr refl))
      (λ _. inr refl))

  -- the client's abort ends a transfer, if one runs
  as_abort : is_asked h f ≡ true → aborting f.bytes ≡ true → meant h (receive f) ≡ nothing → MeantFor h f ⊎ (step h (receive f) ≡ h)
  as_abort q a m =
      ⊎_elim (λ e. inr (step_nothing h (receive f) refl m (ended h f q a ∙ sym e))) (λ n. inl (to_end (asked_so h f v q) a n))
      (none_or h.transfer)

  meant_or_nothing : MeantFor h f ⊎ (step h (receive f) ≡ h)
  meant_or_nothing =
      ⊎_elim (λ m. inl m)
      (λ n. test (is_asked h f)
      (λ q. test (aborting f.bytes) (λ a. as_abort q a n) (λ a. inl (to_serve (asked_so h f v q) a)))
      (λ q. inr (step_nothing h (receive f) refl n (kept h f q n))))
      means

pub demand1 : Demand1
demand1 =
    record {
      starts = λ p. record { start = p; calls = []; so = refl };
      takes_any = λ n i a b c d x y z.
          let fits : FitsIdentity i =
          record {
            vendor = omega (arith, a);
            product = omega (arith, b);
            revision = omega (arith, c);
            serial = omega (arith, d);
            arrays = (x, y, z);
          }
          in
          (record { number = n; identity = i; fits = fits }, refl, refl);
      goes_on = λ h c r.
          record {
            start = r.start;
            calls = r.calls ++ c ∷ [];
            so = ap (λ g. step g c) r.so ∙ sym (after_append (powered r.start) r.calls (c ∷ []));
          };
      valid = valid_reachable;
      valid_device = λ h r. (valid_reachable h r).device;
      gives_1 = λ h f. ↔_then (first_passes 1 2 0 refl refl refl (bad_identifier f) (bad_length f)) (bad_identifier_law f);
      gives_2 =
          λ h f. ↔_then (second_passes 1 2 0 refl refl refl (bad_identifier f) (bad_length f))
          (↔_both (↔_not (bad_identifier f) (bad_identifier_law f)) (ltb_tests 8 f.length));
      takes_frame =
          λ h f. ↔_then (neither_passes 1 2 0 refl refl refl (bad_identifier f) (bad_length f))
          (↔_both (↔_not (bad_identifier f) (bad_identifier_law f)) (ltb_fails 8 f.length));
      gives_3 = λ h r. ↔_then (passes 3 0 refl (ltb highest_raw r)) (ltb_tests highest_raw r);
      takes_sample = λ h r. ↔_then (fails 3 0 refl (ltb highest_raw r)) (ltb_fails highest_raw r);
      takes_missing = λ h. refl;
      gives_4 =
          λ n i. rw (power_refusal n i)
          (↔_then (first_passes 4 5 0 refl refl refl (not (within 1 127 n)) (not (has_names i))) (node_fails n));
      gives_5 =
          λ n i. rw (power_refusal n i)
          (↔_then (second_passes 4 5 0 refl refl refl (not (within 1 127 n)) (not (has_names i)))
          (↔_both (↔_not (not (within 1 127 n)) (node_fails n)) (↔_then (not_tests (has_names i)) (↔_not (has_names i) (names_test i)))));
      takes_node =
          λ n i. rw (power_refusal n i)
          (↔_then (neither_passes 4 5 0 refl refl refl (not (within 1 127 n)) (not (has_names i)))
          (↔_both (↔_then (not_fails (within 1 127 n)) (node_tests n)) (↔_then (not_fails (has_names i)) (names_test i))));
      frame_refused = frame_refused;
      sample_refused = sample_refused;
      node_refused = node_refused;
      node_taken = node_taken;
      not_meant = λ h f r. not_meant h f (valid_reachable h r);
      meant_or_nothing = λ h f r. meant_or_nothing h f (valid_reachable h r);
    }
