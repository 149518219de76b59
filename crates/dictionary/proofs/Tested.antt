-- Tests that pass exactly when a fact holds, and how to combine them; facts about a list, line by line. Assumes nothing.
use Prim.Native.Nat.{ℕ, ◌≤◌, ◌<◌}
use mathlib.Core.Path.{◌≡◌, refl, sym, ◌∙◌}
use mathlib.Core.Logic.{◌↔◌, ◌⊎◌, inl, inr}
use mathlib.Core.Bool.{Bool, true, false, not, ◌&&◌, ◌||◌}
use lib.Dec.{eqb, leb, ltb}
use borrow.Author.Tests.{ltb-true, leb-true, eqb-true, lt-ltb, le-leb, eq-eqb}
use Rattle.cases.specs.Tests.{within}
use Rattle.cases.proofs.Cases.{true_false}

abbrev pub Tests : Bool → Type 0 → Type 0
Tests t P = (t ≡ true) ↔ P

pub equal : (a b : ℕ) → Tests (eqb a b) (a ≡ b)
equal a b = (eqb-true a b, eq-eqb a b)

pub below : (a b : ℕ) → Tests (ltb a b) (a < b)
below a b = (ltb-true a b, lt-ltb a b)

at_most_law : (a b : ℕ) → Tests (leb a b) (a ≤ b)
at_most_law a b = (leb-true a b, le-leb a b)

pub fails : (t : Bool) → Tests (not t) (t ≡ false)
fails true = (λ e. sym e, λ e. sym e)
fails false = (λ e. refl, λ e. refl)

pub both : {P Q : Type 0} (s t : Bool) → Tests s P → Tests t Q → Tests (s && t) (P × Q)
both true t p q = (λ e. (p.0 refl, q.0 e), λ h. q.1 h.1)
both false t p q = (λ e. true_false (sym e), λ h. p.1 h.0)

pub either : {P Q : Type 0} (s t : Bool) → Tests s P → Tests t Q → Tests (s || t) (P ⊎ Q)
either true t p q = (λ e. inl (p.0 refl), λ h. refl)
either {P} {Q} false t p q = (λ e. inr (q.0 e), other)
  where
    other : P ⊎ Q → t ≡ true
    other (inl h) = true_false (sym (p.1 h))
    other (inr h) = q.1 h

pub neither : {P : Type 0} (t : Bool) → Tests t P → Tests (not t) (P → ⊥)
neither true p = (λ e. true_false (sym e), λ h. absurd (h (p.0 refl)))
neither false p = (λ e h. true_false (sym (p.1 h)), λ h. refl)

pub between : (a b v : ℕ) → Tests (within a b v) ((a ≤ v) × (v ≤ b))
between a b v = both (leb a v) (leb v b) (at_most_law a v) (at_most_law v b)

-- the same test of another fact, and another test of the same
pub meaning : {P Q : Type 0} {t : Bool} → Tests t P → (P → Q) → (Q → P) → Tests t Q
meaning h f g = (λ e. f (h.0 e), λ q. h.1 (g q))

pub same : {P : Type 0} {s t : Bool} → s ≡ t → Tests t P → Tests s P
same e h = (λ f. h.0 (sym e ∙ f), λ p. e ∙ h.1 p)

infixr 5 ◌▸◌
pub ◌▸◌ : {A B : Type 0} → A → B → A × B
a ▸ b = (a, b)
