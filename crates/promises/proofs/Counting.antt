-- Proves `Counting` of specs/Counting.antt.
use Prim.Native.Nat.{ℕ, suc, ◌*◌, ◌/◌, ◌%◌, ◌<◌}
use native.Mathlib.Nat.{mod-add-div', mul-mod_left}
use native.Mathlib.Omega.{arith}
use lib.Dec.{eqb}
use mathlib.Core.Path.{◌≡◌, refl, sym, ap, subst, ◌∙◌}
use mathlib.Core.Logic.{◌⊎◌, ◌↔◌, inl, inr, ⊎_elim}
use mathlib.Core.Bool.{Bool, true, false, not, ◌||◌, cond, or-true}
use mathlib.Core.List.{List, [], ◌∷◌, ◌++◌}
use borrow.Author.Tests.{eqb-true, eqb-false, eq-eqb, not-true}
use Rattle.cases.proofs.Cases.{test, both, either}
use Rattle.can.specs.declared.Received.{Received}
use Rattle.dictionary.specs.Accepted.{on}
use Rattle.entries.specs.declared.Pdo.{Pdo}
use Rattle.parts.specs.declared.Head.{Head}
use Rattle.promises.specs.States.{PdoNumber, one, two}
use Rattle.promises.specs.Calls.{Call, receive, tick, sample, slot}
use Rattle.promises.specs.Meant.{Writes}
use Rattle.promises.specs.Histories.{after, PowerUp, powered}
use Rattle.promises.specs.Moments.{count_by, since, pdo_of, writes, is_period, is_switch, is_sub5, switches_on, enters_operational}
use Rattle.promises.specs.Moments.{beats_anew, beat_counts, ticks_anew, tick_counts, syncs_anew, synchronises}
use Rattle.promises.specs.Timers.{OnEvents, OnSyncs}
use Rattle.promises.specs.Moments.{EachOf, counts_after, Moments}
use Rattle.promises.specs.Withdrawals.{identifier_key}
use Rattle.promises.specs.Counting.{sub1, EntersOrSwitches, WritesSub5, Counting}
use Rattle.promises.proofs.Codes.{code_is}
use Rattle.promises.proofs.Moments.{moments_so}
use Rattle.promises.proofs.PassedOver.{since_append}

-- where a test that says P passes, and where it fails
module _ {A P : Type 0} (t : Bool) (says : (t ≡ true) ↔ P) (a b : A) where
  passes : P → cond t a b ≡ a
  passes x = ap (λ (u : Bool). cond u a b) (says.1 x)

  fails : (P → ⊥) → cond t a b ≡ b
  fails n = ap (λ (u : Bool). cond u a b) (test t (λ e. absurd (n (says.0 e))) (λ e. e))

unless : {A : Type 0} (t : Bool) (a b : A) → cond (not t) a b ≡ cond t b a
unless true a b = refl
unless false a b = refl

alone : {A : Type 0} (t : Bool) (a b : A) → cond (t || false) a b ≡ cond t a b
alone true a b = refl
alone false a b = refl

its_key : (w : PdoNumber) → identifier_key w ≡ sub1 w
its_key one = refl
its_key two = refl

or_says : {P Q : Type 0} (s t : Bool) → (s ≡ true) ↔ P → (t ≡ true) ↔ Q → ((s || t) ≡ true) ↔ (P ⊎ Q)
or_says s t x y = (
  λ e. either s t e (λ u. inl (x.0 u)) (λ u. inr (y.0 u)),
  λ z. ⊎_elim (λ u. ap (λ (b : Bool). b || t) (x.1 u)) (λ u. ap (λ (b : Bool). s || b) (y.1 u) ∙ or-true s) z,
)

turns : (n count : ℕ) → EachOf n count ↔ ((0 < n) × (m : ℕ) × (suc count ≡ m * n))
turns n count = (
  λ e. (e.some, suc count / n, omega (arith, mod-add-div' (suc count) n, e.turn)),
  λ x. record { some = x.0; turn = ap (λ k. k % n) x.2 ∙ mul-mod_left x.1 n },
)

on_events : (p : Pdo) → OnEvents p ↔ ((253 < p.transmission) × (p.transmission < 256))
on_events p = (
  λ e. ⊎_elim (λ t. (omega (arith, t), omega (arith, t))) (λ t. (omega (arith, t), omega (arith, t))) e,
  λ x. test (eqb p.transmission 254) (λ t. inl (eqb-true _ _ t))
      (λ t. inr (omega (arith, eqb-false p.transmission 254 t, x.0, x.1))),
)

on_syncs : (p : Pdo) → OnSyncs p ↔ ((0 < p.transmission) × (p.transmission < 241))
on_syncs p = (λ e. (omega (arith, e.0), omega (arith, e.1)), λ x. (omega (arith, x.0), omega (arith, x.1)))

module _ (p : PowerUp) (cs : List Call) where
  abbrev h : Head
  h = after (powered p) cs

  abbrev tests : Moments p cs
  tests = moments_so p cs

  -- one call more
  one_more : (anew counts : Head → Call → Bool) (c : Call)
      → since anew counts (powered p) (cs ++ c ∷ []) 0 ≡ count_by anew counts h c (since anew counts (powered p) cs 0)
  one_more anew counts c = since_append anew counts cs (powered p) (c ∷ []) 0

  beat_by_law : (c : Call) → (counts_after p (cs ++ c ∷ [])).beats ≡ count_by beats_anew beat_counts h c (counts_after p cs).beats
  beat_by_law c = one_more beats_anew beat_counts c

  tick_by_law : (w : PdoNumber) (c : Call) → (counts_after p (cs ++ c ∷ [])).ticks w
      ≡ count_by (ticks_anew w) tick_counts h c ((counts_after p cs).ticks w)
  tick_by_law w c = one_more (ticks_anew w) tick_counts c

  sync_by_law : (w : PdoNumber) (c : Call) → (counts_after p (cs ++ c ∷ [])).syncs w
      ≡ count_by (syncs_anew w) synchronises h c ((counts_after p cs).syncs w)
  sync_by_law w c = one_more (syncs_anew w) synchronises c

  module _ (f : Received) where
    at_key : (j v : ℕ) → Writes h f j v → (k : ℕ) → eqb j k ≡ true → Writes h f k v
    at_key j v w k e = subst (λ i. Writes h f i v) (eqb-true j k e) w

    writes_key : (k : ℕ) (t : ℕ → ℕ → Bool) → ((j v : ℕ) → t j v ≡ eqb j k) → (writes t h (receive f) ≡ true) ↔ ((v : ℕ) × Writes h f k v)
    writes_key k t e =
        let x = tests.written f t in (
          λ u. let z = x.0 u in (z.1, at_key z.0 z.1 z.3 k (sym (e z.0 z.1) ∙ z.2)),
          λ w. x.1 (k, w.0, e k w.0 ∙ eq-eqb k k refl, w.1),
        )

    period : (writes is_period h (receive f) ≡ true) ↔ ((v : ℕ) × Writes h f 0x1017_00 v)
    period = writes_key 0x1017_00 is_period (λ j v. refl)

    switches : (w : PdoNumber) → (switches_on w h (receive f) ≡ true)
        ↔ ((v : ℕ) × Writes h f (sub1 w) v × (on v ≡ true) × (on (pdo_of h w).identifier ≡ false))
    switches w =
        let x = tests.written f (is_switch w) in
        let held = on (pdo_of h w).identifier in (
          λ u.
              let b = both (writes (is_switch w) h (receive f)) (not held) u in
              let z = x.0 b.0 in
              let t = both (eqb z.0 (identifier_key w)) (on z.1) z.2 in
              let wrote = subst (λ j. Writes h f j z.1) (its_key w) (at_key z.0 z.1 z.3 (identifier_key w) t.0) in
              (z.1, wrote, t.1, not-true held b.1),
          λ y.
              let written = x.1 (sub1 w, y.0, rw (eq-eqb (sub1 w) (identifier_key w) (sym (its_key w)), y.2), y.1) in
              rw (written, y.3),
        )

    sub5 : (w : PdoNumber) → (writes (is_sub5 w) h (receive f) ≡ true) ↔ WritesSub5 w h f
    sub5 one =
        let x = tests.written f (is_sub5 one) in (
          λ u.
              let z = x.0 u in
              let to = at_key z.0 z.1 z.3 in
              (z.1, either (eqb z.0 0x1800_05) (eqb z.0 0x6200_00) z.2 (λ e. inl (to 0x1800_05 e)) (λ e. inr (to 0x6200_00 e))),
          λ y. ⊎_elim (λ w. x.1 (0x1800_05, y.0, refl, w)) (λ w. x.1 (0x6200_00, y.0, refl, w)) y.1,
        )
    sub5 two = writes_key 0x1801_05 (is_sub5 two) (λ j v. refl)

    begun : (w : PdoNumber) → (syncs_anew w h (receive f) ≡ true) ↔ EntersOrSwitches w h f
    begun w = or_says (enters_operational h (receive f)) (switches_on w h (receive f)) (tests.entered f) (switches w)

    begun_ticks : (w : PdoNumber) → (ticks_anew w h (receive f) ≡ true) ↔ (EntersOrSwitches w h f ⊎ WritesSub5 w h f)
    begun_ticks w = or_says (syncs_anew w h (receive f)) (writes (is_sub5 w) h (receive f)) (begun w) (sub5 w)

  pub counting : Counting p cs
  counting =
      let n = counts_after p cs in
      record {
        turns = turns;
        on_events = on_events;
        on_syncs = on_syncs;
        at_first = (refl, λ w. (refl, refl));
        ticks = (
          beat_by_law tick ∙ unless (eqb h.core.nmt.code 0x00) (suc n.beats) n.beats
              ∙ ap (λ x. cond (eqb x 0x00) n.beats (suc n.beats)) (code_is p cs),
          λ w. (tick_by_law w tick ∙ ap (λ x. cond (eqb x 0x05) (suc (n.ticks w)) (n.ticks w)) (code_is p cs), sync_by_law w tick),
        );
        slots = (
          beat_by_law slot ∙ alone (eqb h.core.nmt.code 0x00) 0 n.beats ∙ ap (λ x. cond (eqb x 0x00) 0 n.beats) (code_is p cs),
          λ w. (tick_by_law w slot, sync_by_law w slot),
        );
        samples = λ s. (beat_by_law (sample s), λ w. (tick_by_law w (sample s), sync_by_law w (sample s)));
        beats_anew_law = λ f v w. beat_by_law (receive f) ∙ passes (writes is_period h (receive f)) (period f) 0 n.beats (v, w);
        beats_on = λ f x. beat_by_law (receive f) ∙ fails (writes is_period h (receive f)) (period f) 0 n.beats (λ y. x y.0 y.1);
        ticks_anew_law = λ f w x. tick_by_law w (receive f) ∙ passes (ticks_anew w h (receive f)) (begun_ticks f w) 0 (n.ticks w) x;
        ticks_on = λ f w x. tick_by_law w (receive f) ∙ fails (ticks_anew w h (receive f)) (begun_ticks f w) 0 (n.ticks w) x;
        syncs_anew_law = λ f w x. sync_by_law w (receive f) ∙ passes (syncs_anew w h (receive f)) (begun f w) 0 _ x;
        syncs_one_more = λ f w x s.
            sync_by_law w (receive f) ∙ fails (syncs_anew w h (receive f)) (begun f w) 0 _ x
            ∙ passes (synchronises h (receive f)) (tests.synchronised f) (suc (n.syncs w)) (n.syncs w) s;
        syncs_on = λ f w x s.
            sync_by_law w (receive f) ∙ fails (syncs_anew w h (receive f)) (begun f w) 0 _ x
            ∙ fails (synchronises h (receive f)) (tests.synchronised f) (suc (n.syncs w)) (n.syncs w) s;
      }
