-- The number that power-up answers, and the valid head that it leaves.
use Prim.Native.Nat.{ℕ}
use native.Mathlib.Omega.{arith}
use mathlib.Core.Path.{◌≡◌, refl, sym, subst}
use mathlib.Core.Bool.{true, false, not}
use Rattle.cases.specs.Tests.{within}
use Rattle.cases.proofs.Cases.{by}
use Rattle.entries.specs.declared.Identity.{Identity}
use Rattle.entries.specs.Identity.{has_names}
use Rattle.dictionary.specs.Valid.{FitsIdentity}
use Rattle.parts.specs.declared.Answer.{Answer}
use Rattle.parts.specs.declared.Head.{Head}
use Rattle.promises.specs.States.{started}
use Rattle.promises.specs.Calls.{no_identity, powered_up}
use Rattle.promises.specs.Valid.{Valid}
use Rattle.promises.proofs.Histories.{valid_refused, valid_powered}

module _ (n : ℕ) (i : Identity) where
  pub bad_node : within 1 127 n ≡ false → 4 ≡ (powered_up n i).refusal
  bad_node e = rw e

  pub bad_name : within 1 127 n ≡ true → has_names i ≡ false → 5 ≡ (powered_up n i).refusal
  bad_name e u = rw (e, u)

  pub taken : within 1 127 n ≡ true → has_names i ≡ true → 0 ≡ (powered_up n i).refusal
  taken e u = rw (e, u)

  -- by the number, the head
  abbrev Leaves : Answer → Type 0
  Leaves a = (a.refusal ≡ 0 → a.head ≡ started n i) × ((a.refusal ≡ 0 → ⊥) → a.head ≡ started 1 no_identity)

  leaves : Leaves (powered_up n i)
  leaves =
      by Leaves (not (within 1 127 n)) (λ _. (λ (e : 4 ≡ 0). absurd (omega (arith, e)), λ _. refl))
      (λ _. by Leaves (not (has_names i)) (λ _. (λ (e : 5 ≡ 0). absurd (omega (arith, e)), λ _. refl)) (λ _. (λ _. refl, λ no0. absurd (no0 refl))))

  abbrev Powered : Head → Type 0
  Powered h = (h ≡ (powered_up n i).head) × Valid h

  pub powered_refused : ((powered_up n i).refusal ≡ 0 → ⊥) → Powered (started 1 no_identity)
  powered_refused e = (sym (leaves.1 e), valid_refused)

  pub powered_taken : (powered_up n i).refusal ≡ 0 → FitsIdentity i → Powered (started n i)
  powered_taken e f =
      let so = sym (leaves.0 e) in (so, subst Valid (sym so) (valid_powered (record { number = n; identity = i; fits = f })))
