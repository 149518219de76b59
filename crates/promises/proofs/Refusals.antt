-- Each refusal number is given exactly when it is due, and a refused call leaves the head unchanged. By cases of the tests.
use Prim.Native.Nat.{ℕ}
use lib.Dec.{eqb}
use mathlib.Core.Path.{◌≡◌, refl, sym, ◌∙◌}
use mathlib.Core.Logic.{◌↔◌}
use mathlib.Core.Bool.{Bool, true, false, not, ◌&&◌, cond}
use mathlib.Core.List.{[], ◌∷◌}
use borrow.Author.Tests.{eqb-false, ne_eqb}
use Rattle.cases.specs.Cases.{first_of}
use Rattle.cases.specs.Tests.{within}
use Rattle.cases.proofs.Cases.{test, true_false}
use Rattle.can.specs.declared.Received.{Received}
use Rattle.can.specs.Frame.{refusal_of}
use Rattle.entries.specs.declared.Identity.{Identity}
use Rattle.entries.specs.Identity.{has_names}
use Rattle.parts.specs.declared.Head.{Head}
use Rattle.parts.specs.declared.Answer.{Answer}
use Rattle.parts.specs.declared.Sensor.{Sensor}
use Rattle.parts.specs.declared.Sensor.TheVariants.{Missing, Raw}
use Rattle.promises.specs.States.{started}
use Rattle.promises.specs.Acts.{nothing}
use Rattle.promises.specs.Calls.{receive, sample, bad_sample, sampled_as, step, answered, no_identity, refused_with, powered_up, refusal_by}
use Rattle.promises.proofs.Nothing.{step_nothing}

-- one test: a where it passes, else b
module _ (a b : ℕ) (apart : eqb a b ≡ false) where
  pub passes : (t : Bool) → (cond t a b ≡ a) ↔ (t ≡ true)
  passes true = (λ _. refl, λ _. refl)
  passes false = (λ e. absurd (eqb-false a b apart (sym e)), λ e. true_false (sym e))

  pub fails : (t : Bool) → (cond t a b ≡ b) ↔ (t ≡ false)
  fails true = (λ e. absurd (eqb-false a b apart e), λ e. true_false e)
  fails false = (λ _. refl, λ _. refl)

-- two: a where the first passes, b where only the second does, else c
module _ (a b c : ℕ) (ab : eqb a b ≡ false) (ac : eqb a c ≡ false) (bc : eqb b c ≡ false) where
  pub first_passes : (t u : Bool) → (cond t a (cond u b c) ≡ a) ↔ (t ≡ true)
  first_passes t true = passes a b ab t
  first_passes t false = passes a c ac t

  pub second_passes : (t u : Bool) → (cond t a (cond u b c) ≡ b) ↔ ((t ≡ false) × (u ≡ true))
  second_passes true u = (λ e. absurd (eqb-false a b ab e), λ e. true_false e.0)
  second_passes false u = (λ e. (refl, (passes b c bc u).0 e), λ e. (passes b c bc u).1 e.1)

  pub neither_passes : (t u : Bool) → (cond t a (cond u b c) ≡ c) ↔ ((t ≡ false) × (u ≡ false))
  neither_passes true u = (λ e. absurd (eqb-false a c ac e), λ e. true_false e.0)
  neither_passes false u = (λ e. (refl, (fails b c bc u).0 e), λ e. (fails b c bc u).1 e.1)

-- what power-up leaves, by whether it is refused
chosen : {A B : Type 0} (f : A → B) (t u : Bool) (a b c : A) → f a ≡ f b
    → f (first_of ((not t, a) ∷ (not u, b) ∷ []) c) ≡ cond (t && u) (f c) (f a)
chosen f true true a b c e = refl
chosen f true false a b c e = sym e
chosen f false u a b c e = refl

pub by_power_up : {B : Type 0} (f : Answer → B) (n : ℕ) (i : Identity) → f (refused_with 4) ≡ f (refused_with 5)
    → f (powered_up n i) ≡ cond (within 1 127 n && has_names i) (f (answered 0 (started n i))) (f (refused_with 4))
by_power_up f n i e = chosen f (within 1 127 n) (has_names i) (refused_with 4) (refused_with 5) (answered 0 (started n i)) e

pub power_refusal : (n : ℕ) (i : Identity) → (powered_up n i).refusal ≡ cond (not (within 1 127 n)) 4 (cond (not (has_names i)) 5 0)
power_refusal n i = numbers (not (within 1 127 n)) (not (has_names i))
  where
    numbers : (t u : Bool)
        → (first_of ((t, refused_with 4) ∷ (u, refused_with 5) ∷ []) (answered 0 (started n i))).refusal ≡ cond t 4 (cond u 5 0)
    numbers true u = refl
    numbers false true = refl
    numbers false false = refl

pub frame_refused : (h : Head) (f : Received) → (refusal_of f ≡ 0 → ⊥) → step h (receive f) ≡ h
frame_refused h f n = let e = ne_eqb (refusal_of f) 0 n in step_nothing h (receive f) refl (rw e) (rw e)

no_sample : (s : Sensor) → bad_sample s ≡ true → sampled_as s ≡ nothing
no_sample Missing e = true_false (sym e)
no_sample (Raw r) e = rw e

pub sample_refused : (h : Head) (s : Sensor) → (refusal_by (sample s) ≡ 0 → ⊥) → step h (sample s) ≡ h
sample_refused h s n = test (bad_sample s) (λ e. step_nothing h (sample s) refl (no_sample s e) refl) (λ e. absurd (n (rw e)))

pub node_refused : (n : ℕ) (i : Identity) → ((powered_up n i).refusal ≡ 0 → ⊥) → (powered_up n i).head ≡ started 1 no_identity
node_refused n i r = refused (within 1 127 n) (has_names i) r
  where
    refused : (t u : Bool) → let a = first_of ((not t, refused_with 4) ∷ (not u, refused_with 5) ∷ []) (answered 0 (started n i)) in
        (a.refusal ≡ 0 → ⊥) → a.head ≡ started 1 no_identity
    refused true true r = absurd (r refl)
    refused true false r = refl
    refused false u r = refl

pub node_taken : (n : ℕ) (i : Identity) → (powered_up n i).refusal ≡ 0 → (powered_up n i).head ≡ started n i
node_taken n i r =
    let t = (neither_passes 4 5 0 refl refl refl (not (within 1 127 n)) (not (has_names i))).0 (sym (power_refusal n i) ∙ r) in
    rw (t.0, t.1)
