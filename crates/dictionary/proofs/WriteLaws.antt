-- Proves `WriteLaws` of specs/WriteLaws.antt: a choice by keys is what the lists there say; the offset by subtraction. Assumes nothing.
use Prim.Native.Nat.{ℕ}
use mathlib.Core.Path.{◌≡◌, refl, ◌∙◌}
use mathlib.Core.Logic.{◌⊎◌, inl, inr}
use mathlib.Core.Bool.{Bool, true, false, ◌||◌, cond}
use mathlib.Core.List.{List, [], ◌∷◌}
use lib.Dec.{eqb}
use lib.IntN.{pos, ◌+ℤ◌, ◌-ℤ◌, +ℤ_comm, -ℤ-+ℤ_cancel}
use borrow.Author.Tests.{eqb-true, eqb-false, eq-eqb, ne_eqb}
use Rattle.cases.proofs.Cases.{test}
use Rattle.position.specs.declared.Profile.{Profile}
use Rattle.position.specs.Position.{directed}
use Rattle.entries.specs.declared.Communication.{Communication}
use Rattle.entries.specs.Settings.{factory}
use Rattle.dictionary.specs.Writes.{own_key, range_for, communication_after, profile_after, put}
use Rattle.dictionary.specs.Effects.{given}
use Rattle.dictionary.proofs.Own.{own_other, own_profile}
use Rattle.dictionary.specs.WriteLaws.{Becomes, CommunicationWritten, ProfileWritten, WriteLaws}

becomes : {A : Type 0} (k : ℕ) (es : List (ℕ × A)) (old : A) → Becomes k es old (given es k old)
becomes k [] old = refl
becomes k (e ∷ es) old = (λ f. rw (eq-eqb k e.0 f), λ n. rw (ne_eqb k e.0 n) (becomes k es old))

-- one of three keys
third : {A : Type 0} (s t u : Bool) (a b : A) → cond s a (cond t a (cond u a b)) ≡ cond (s || t || u) a b
third true t u a b = refl
third false true u a b = refl
third false false u a b = refl

-- 6200h is written as 1800-5,
event_written : (k v old : ℕ) → Becomes k ((0x1800_05, v) ∷ (0x6200_00, v) ∷ []) old (cond (eqb (own_key k) 0x1800_05) v old)
event_written k v old =
    test (eqb k 0x6200_00)
    (λ e. let f = eqb-true k 0x6200_00 e in rw e (λ _. refl, λ _. (λ _. refl, λ n. absurd (n f))))
    (λ e. let x = becomes k ((0x1800_05, v) ∷ []) old in rw e (x.0, λ n. (λ f. absurd (eqb-false k 0x6200_00 e f), λ _. x.1 n)))

-- and alters nothing else.
other_written : (k v old a : ℕ) → eqb 0x6200_00 a ≡ false → eqb 0x1800_05 a ≡ false → Becomes k ((a, v) ∷ []) old (cond (eqb (own_key k) a) v old)
other_written k v old a m n = rw (own_other k a m n) (becomes k ((a, v) ∷ []) old)

communication_written : (k v : ℕ) (c : Communication) → CommunicationWritten k v c (communication_after c (own_key k) v)
communication_written k v c =
    record {
      emergency = other_written k v c.emergency 0x1014_00 refl refl;
      inhibit = other_written k v c.inhibit 0x1015_00 refl refl;
      heartbeat = other_written k v c.heartbeat 0x1017_00 refl refl;
      identifier1 = other_written k v c.pdo1.identifier 0x1800_01 refl refl;
      transmission1 = other_written k v c.pdo1.transmission 0x1800_02 refl refl;
      event1 = event_written k v c.pdo1.event;
      identifier2 = other_written k v c.pdo2.identifier 0x1801_01 refl refl;
      transmission2 = other_written k v c.pdo2.transmission 0x1801_02 refl refl;
      event2 = other_written k v c.pdo2.event 0x1801_05 refl refl;
    }

scaled_range_law : {v : ℕ} → (v ≡ 4) ⊎ (v ≡ 12) → range_for v ≡ 1000000
scaled_range_law (inl e) = rw e
scaled_range_law (inr e) = rw e

full_range_law : {v : ℕ} → (v ≡ 0) ⊎ (v ≡ 8) → range_for v ≡ 1048576
full_range_law (inl e) = rw e
full_range_law (inr e) = rw e

module _ (p : Profile) (r k v : ℕ) where
  abbrev after : Profile
  after = profile_after p r k v

  range_after : (k ≡ 0x6000_00 → ⊥) → Becomes k ((0x6002_00, v) ∷ []) p.range after.range
  range_after n = rw (ne_eqb k 0x6000_00 n) (becomes k ((0x6002_00, v) ∷ []) p.range)

  offset_preset : k ≡ 0x6003_00 → pos (directed p r) +ℤ after.offset ≡ pos v
  offset_preset e = rw e (+ℤ_comm (pos (directed p r)) (pos v -ℤ pos (directed p r)) ∙ -ℤ-+ℤ_cancel (pos v) (pos (directed p r)))

  profile_written : ProfileWritten r k v p after
  profile_written =
      let operating = eqb k 0x6000_00 in
      let range = eqb k 0x6002_00 in
      let step = eqb k 0x6005_01 in
      record {
        operating = becomes k ((0x6000_00, v) ∷ []) p.operating;
        scaled = λ e. λ h. rw e (scaled_range_law h);
        full = λ e. λ h. rw e (full_range_law h);
        range = range_after;
        preset =
            rw (← third operating range step 0 (cond (eqb k 0x6003_00) v p.preset))
            (becomes k ((0x6000_00, 0) ∷ (0x6002_00, 0) ∷ (0x6005_01, 0) ∷ (0x6003_00, v) ∷ []) p.preset);
        step = becomes k ((0x6005_01, v) ∷ []) p.step;
        offset_preset = offset_preset;
        offset = λ n.
            rw (ne_eqb k 0x6003_00 n, ← third operating range step (pos 0) p.offset)
            (becomes k ((0x6000_00, pos 0) ∷ (0x6002_00, pos 0) ∷ (0x6005_01, pos 0) ∷ []) p.offset);
      }

pub write_laws : WriteLaws
unfolding put
write_laws d k v =
    record {
      communication = communication_written k v d.settings.communication;
      profile = rw (own_profile d.settings.profile d.reading.raw k v) (profile_written d.settings.profile d.reading.raw k v);
      errors = other_written k 0 d.errors 0x1003_00 refl refl;
      saved =
          rw (own_other k 0x1010_01 refl refl, own_other k 0x1011_01 refl refl)
          (becomes k ((0x1010_01, d.settings) ∷ (0x1011_01, factory d.node) ∷ []) d.saved);
      node = refl;
      identity = refl;
      reading = refl;
    }
