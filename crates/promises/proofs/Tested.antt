-- The tests of calls in specs/Moments.antt agree with what the calls mean.
use Prim.Native.Nat.{ℕ}
use lib.Dec.{eqb, leb, ltb}
use mathlib.Core.Path.{◌≡◌, refl, sym, ap, ◌∙◌}
use mathlib.Core.Logic.{◌↔◌}
use mathlib.Core.Bool.{Bool, true, false, not, ◌&&◌}
use mathlib.Core.List.{List}
use borrow.Author.Tests.{eqb-true, eq-eqb, ne_eqb, leb-true, le-leb, not-true}
use native.Mathlib.Omega.{arith}
use Rattle.cases.proofs.Cases.{by, test, both, true_false}
use Rattle.can.specs.declared.Received.{Received}
use Rattle.dictionary.specs.Writes.{own_key}
use Rattle.sdo.specs.declared.reply.Effect.{Effect}
use Rattle.sdo.specs.declared.reply.Effect.TheVariants.{Nothing, Reply, Write}
use Rattle.sdo.specs.Service.{Due, none, value, confirmation, abort, upload, answer}
use Rattle.waiting.specs.Line.{first}
use Rattle.parts.specs.declared.Head.{Head}
use Rattle.parts.specs.declared.Sensor.{Sensor}
use Rattle.parts.specs.declared.Sensor.TheVariants.{Missing, Raw}
use Rattle.position.specs.Profile.{highest_raw}
use Rattle.promises.specs.States.{operational, stopped, pre_operational, is_in, is_initialising, node}
use Rattle.promises.specs.States.{Command, no_command, to_enter, to_reset, command_of}
use Rattle.promises.specs.Acts.{Act, nothing, enter, reset, boot, idle, send, take, lose, time, sync, serve}
use Rattle.promises.specs.Calls.{Call, receive, tick, sample, slot, is_slot, served, is_heard, meant}
use Rattle.promises.specs.Valid.{Valid}
use Rattle.promises.specs.Meant.{Commands, Synchronises, Writes, due_to}
use Rattle.promises.specs.Service.{is_request, confirms}
use Rattle.promises.specs.Moments.{is_sync, says_operational, is_entry, writes, synchronises, enters_operational, is_tick}
use Rattle.promises.proofs.KindNumbers.{sent_as_law}
use Rattle.promises.proofs.Service.{heard_as, is_request_law}
use Rattle.promises.proofs.States.{not_operational}
use Rattle.promises.proofs.Meant.{commands}
use Rattle.promises.proofs.Causes.{Cause, cause, requests}

-- what matters of an act: what it writes, and whether it is a boot-up, an entry to Operational, a SYNC, a tick
pub record Marks : Type 0 where
  pub effect : Effect
  pub boots : Bool
  pub enters : Bool
  pub syncs : Bool
  pub times : Bool

abbrev mark : Effect → Bool → Bool → Bool → Bool → Marks
mark e boots enters syncs times = record { effect = e; boots = boots; enters = enters; syncs = syncs; times = times }

abbrev unmarked : Marks
unmarked = mark Nothing false false false false

abbrev pub marks : Act → Marks
marks nothing = unmarked
marks (enter g) = mark Nothing false (says_operational (to_enter g)) false false
marks (reset r) = unmarked
marks boot = mark Nothing true false false false
marks idle = unmarked
marks (send k) = unmarked
marks (take r) = unmarked
marks lose = unmarked
marks time = mark Nothing false false false true
marks sync = mark Nothing false false true false
marks (serve s) = mark s.effect false false false false

abbrev pub effect_to : (ℕ → ℕ → Bool) → Effect → Bool
effect_to t Nothing = false
effect_to t Reply = false
effect_to t (Write k v) = t k v

operational_said : (k : Command) → says_operational k ≡ true → k ≡ to_enter operational
operational_said no_command e = true_false (sym e)
operational_said (to_enter operational) e = refl
operational_said (to_enter stopped) e = true_false (sym e)
operational_said (to_enter pre_operational) e = true_false (sym e)
operational_said (to_reset r) e = true_false (sym e)

module _ (h : Head) (f : Received) where
  pub is_sync_law : (is_sync h f ≡ true) ↔ Synchronises h f
  is_sync_law = (
    as_record,
    λ s. rw (
      eq-eqb _ _ s.hears.unrefused,
      s.hears.heard,
      eq-eqb _ _ s.identifier,
      le-leb f.length 1 s.length,
      s.operational,
    ),
  )
    where
      as_record : is_sync h f ≡ true → Synchronises h f
      as_record e =
          let i = eqb f.identifier 0x080 in
          let l = leb f.length 1 in
          let a = both (is_heard h f && i && l) (is_in operational h.core) e in
          let b = both (is_heard h f && i) l a.0 in
          let c = both (is_heard h f) i b.0 in
          record {
            hears = heard_as h f c.0;
            identifier = eqb-true _ _ c.1;
            length = leb-true f.length 1 b.1;
            operational = a.1;
          }

  pub is_entry_law : (is_entry h f ≡ true) ↔ (Commands h f (to_enter operational) × (is_in operational h.core ≡ false))
  is_entry_law = (as_record, λ m. rw (eq-eqb _ _ m.0.hears.unrefused, m.0.hears.heard, eq-eqb _ _ m.0.identifier, m.0.says, m.1))
    where
      as_record : is_entry h f ≡ true → Commands h f (to_enter operational) × (is_in operational h.core ≡ false)
      as_record e =
          let i = eqb f.identifier 0x000 in
          let k = command_of (node h.core) f in
          let a = both (is_heard h f && i && says_operational k) (not (is_in operational h.core)) e in
          let b = both (is_heard h f && i) (says_operational k) a.0 in
          let c = both (is_heard h f) i b.0 in
          (record { hears = heard_as h f c.0; identifier = eqb-true _ _ c.1; says = operational_said k b.1 }, not-true _ a.1)

  pub entered : Commands h f (to_enter operational) × (is_in operational h.core ≡ false) → meant h (receive f) ≡ enter operational
  entered m = commands h f m.0 ∙ rw m.1

  pub synchronised : Synchronises h f → meant h (receive f) ≡ sync
  synchronised s =
      rw (
        eq-eqb _ _ s.hears.unrefused,
        s.hears.heard,
        ne_eqb f.identifier 0x000 (λ e. omega (arith, e, s.identifier)),
        eq-eqb f.identifier 0x080 s.identifier,
        le-leb f.length 1 s.length,
        s.operational,
      )

-- a test that takes an entry for what it names
abbrev pub Own : (ℕ → ℕ → Bool) → Type 0
Own t = (k v : ℕ) → t (own_key k) v ≡ t k v

-- what is due to a request, and the act
due_to_law : (t : ℕ → ℕ → Bool) → Own t → (f : List ℕ) (y : Due) → confirms t y ≡ effect_to t (marks (served (answer f y))).effect
due_to_law t own f none = refl
due_to_law t own f (value w n) = refl
due_to_law t own f (confirmation k v) = sym (own k v)
due_to_law t own f (abort code) = refl
due_to_law t own f (upload b u) = refl

pub confirmed_by : (t : ℕ → ℕ → Bool) (y : Due) → confirms t y ≡ true → (k : ℕ) × (v : ℕ) × (t k v ≡ true) × (y ≡ confirmation k v)
confirmed_by t none e = true_false (sym e)
confirmed_by t (value w n) e = true_false (sym e)
confirmed_by t (confirmation k v) e = (k, v, e, refl)
confirmed_by t (abort code) e = true_false (sym e)
confirmed_by t (upload b u) e = true_false (sym e)

pub is_written : (h : Head) (f : Received) (t : ℕ → ℕ → Bool)
    → (writes t h (receive f) ≡ true) ↔ ((k : ℕ) × (v : ℕ) × (t k v ≡ true) × Writes h f k v)
is_written h f t = (as_write, λ w. rw ((is_request_law h f).1 w.3.requests, w.3.accepted) w.2)
  where
    as_write : writes t h (receive f) ≡ true → (k : ℕ) × (v : ℕ) × (t k v ≡ true) × Writes h f k v
    as_write e =
        let u = both (is_request h f) (confirms t (due_to h f)) e in
        let d = confirmed_by t (due_to h f) u.1 in
        (d.0, d.1, d.2, record { requests = (is_request_law h f).0 u.0; accepted = d.3 })

-- the tests of a call agree with its act
pub record Tested (h : Head) (x : Call) (m : Marks) : Type 0 where
  pub written : (t : ℕ → ℕ → Bool) → Own t → writes t h x ≡ effect_to t m.effect
  pub boots : (is_slot x && is_initialising h.core) ≡ m.boots
  pub enters : enters_operational h x ≡ m.enters
  pub syncs : synchronises h x ≡ m.syncs
  pub beats : (is_tick x && not (is_initialising h.core)) ≡ m.times
  pub ticks : (is_tick x && is_in operational h.core) ≡ (m.times && is_in operational h.core)

-- What the tests tell about a frame: it is no boot-up and no tick; if it is no request
-- it writes nothing; and the same for an entry and a SYNC.
record Otherwise (h : Head) (f : Received) (m : Marks) : Type 0 where
  pub unwritten : is_request h f ≡ false → (t : ℕ → ℕ → Bool) → effect_to t m.effect ≡ false
  pub unbooted : m.boots ≡ false
  pub unentered : is_entry h f ≡ false → m.enters ≡ false
  pub unsynced : is_sync h f ≡ false → m.syncs ≡ false
  pub untimed : m.times ≡ false

module _ (h : Head) (v : Valid h) where
  as_frame : {f : Received} {e : Effect} {i s : Bool}
      → (is_request h f ≡ false → (t : ℕ → ℕ → Bool) → effect_to t e ≡ false)
      → (is_entry h f ≡ false → i ≡ false)
      → (is_sync h f ≡ false → s ≡ false)
      → Otherwise h f (mark e false i s false)
  as_frame w i s = record { unwritten = w; unbooted = refl; unentered = i; unsynced = s; untimed = refl }

  plain : (f : Received) → Otherwise h f unmarked
  plain f = as_frame (λ _ _. refl) (λ _. refl) (λ _. refl)

  otherwise : (f : Received) (a : Act) → Cause h f a → Otherwise h f (marks a)
  otherwise f nothing x = plain f
  otherwise f (enter operational) x = as_frame (λ _ _. refl) (λ n. true_false (sym ((is_entry_law h f).1 x) ∙ n)) (λ _. refl)
  otherwise f (enter stopped) x = plain f
  otherwise f (enter pre_operational) x = plain f
  otherwise f (reset r) x = plain f
  otherwise f boot x = absurd x
  otherwise f idle x = absurd x
  otherwise f (send k) x = absurd x
  otherwise f (take r) x = absurd x
  otherwise f lose x = absurd x
  otherwise f time x = absurd x
  otherwise f sync x = as_frame (λ _ _. refl) (λ _. refl) (λ n. true_false (sym ((is_sync_law h f).1 x) ∙ n))
  otherwise f (serve s) x = as_frame (λ n _. true_false (sym ((is_request_law h f).1 x.0) ∙ n)) (λ _. refl) (λ _. refl)

  tested_frame : (f : Received) → Tested h (receive f) (marks (meant h (receive f)))
  tested_frame f =
      let o = otherwise f (meant h (receive f)) (cause h f v) in
      let wrote : (ℕ → ℕ → Bool) → Bool → Bool = λ t b. b && confirms t (due_to h f) in
      record {
        written = λ t own. test (is_request h f)
            (λ e. ap (wrote t) e ∙ due_to_law t own f.bytes (due_to h f) ∙ ap (λ a. effect_to t (marks a).effect)
            (sym (requests h f v ((is_request_law h f).0 e))))
            (λ e. ap (wrote t) e ∙ sym (o.unwritten e t));
        boots = sym o.unbooted;
        enters =
            test (is_entry h f) (λ e. e ∙ ap (λ a. (marks a).enters) (sym (entered h f ((is_entry_law h f).0 e)))) (λ e. e ∙ sym (o.unentered e));
        syncs =
            test (is_sync h f) (λ e. e ∙ ap (λ a. (marks a).syncs) (sym (synchronised h f ((is_sync_law h f).0 e))))
            (λ e. e ∙ sym (o.unsynced e));
        beats = sym o.untimed;
        ticks = ap (λ b. b && is_in operational h.core) (sym o.untimed);
      }

  of_sample : {s : Sensor} → Tested h (sample s) unmarked
  of_sample = record { written = λ _ _. refl; boots = refl; enters = refl; syncs = refl; beats = refl; ticks = refl }

  pub tested : (x : Call) → Tested h x (marks (meant h x))
  tested (receive f) = tested_frame f
  tested tick =
      by (λ a. Tested h tick (marks a)) (is_initialising h.core)
      (λ i. record {
        written = λ _ _. refl;
        boots = refl;
        enters = refl;
        syncs = refl;
        beats = ap not i;
        ticks = not_operational h.core i;
      })
      (λ i. record { written = λ _ _. refl; boots = refl; enters = refl; syncs = refl; beats = ap not i; ticks = refl })
  tested (sample Missing) = of_sample
  tested (sample (Raw r)) = by (λ a. Tested h (sample (Raw r)) (marks a)) (ltb highest_raw r) (λ _. of_sample) (λ _. of_sample)
  tested slot =
      by (λ a. Tested h slot (marks a)) (is_initialising h.core) at_slot
      (λ i. sent_as_law (λ a. Tested h slot (marks a)) (first h.line) (at_slot i) (λ _. at_slot i))
    where
      at_slot : {b : Bool} → is_initialising h.core ≡ b → Tested h slot (mark Nothing b false false false)
      at_slot i = record { written = λ _ _. refl; boots = i; enters = refl; syncs = refl; beats = refl; ticks = refl }
