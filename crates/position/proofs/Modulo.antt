-- `modℤ`: the result is below t, differs from the number by a multiple of
-- t, and does not change when a multiple of t is added. Assumes nothing.
use Prim.Native.Nat.{ℕ, zero, suc, ◌+◌, ◌*◌, ◌-◌, ◌/◌, ◌%◌, ◌≤◌, ◌<◌}
use native.Mathlib.Nat.{mod-lt, mod-eq_of_lt, mod-eq-sub-mod, mod-add-div', add-mod_right, zero-mul}
use native.Mathlib.Omega.{arith}
use mathlib.Core.Path.{◌≡◌, refl, sym, ◌∙◌, ap}
use mathlib.Core.Bool.{true, false}
use lib.Dec.{ltb}
use lib.IntN.{ℤ, pos, negsuc, sub_ℕ, neg_ℤ, ◌+ℤ◌, ◌-ℤ◌, ◌*ℤ◌, +ℤ_assoc, +ℤ_idr, +ℤ-neg_ℤ_cancel, suc_ℤ, suc_ℤ-*ℤ}
use borrow.Author.Tests.{le-ltb, ltb-true, ltb-false}
use Rattle.cases.proofs.Cases.{test}
use Rattle.position.specs.Position.{modℤ}

pub mod_below : (z : ℤ) (t : ℕ) → 0 < t → modℤ z t < t
mod_below (pos n) t h = mod-lt n h
mod_below (negsuc n) t h = omega arith

-- z mod t is z plus a multiple of t
negated : (q t : ℕ) → neg_ℤ (pos (q * t)) ≡ neg_ℤ (pos q) *ℤ pos t
negated zero t = rw (zero-mul t)
negated (suc q) t = refl

pub mod_multiple : (z : ℤ) (t : ℕ) → 0 < t → (k : ℤ) × (pos (modℤ z t) ≡ z +ℤ k *ℤ pos t)
mod_multiple (pos n) t h =
    let q = n / t in (
      neg_ℤ (pos q),
      sym (+ℤ-neg_ℤ_cancel (pos (n % t)) (pos (q * t)))
          ∙ ap (λ (m : ℕ). pos m -ℤ pos (q * t)) (mod-add-div' n t)
          ∙ ap (λ (z : ℤ). pos n +ℤ z) (negated q t),
    )
mod_multiple (negsuc n) t h =
    let q = n / t in
    let e : n % t + q * t ≡ n = mod-add-div' n t in
    let l : n % t < t = mod-lt n h in
    let g : suc q * t - suc n ≡ t - suc (n % t) = omega arith in
    (pos (suc q), rw (le-ltb (suc q * t) (suc n) (omega arith)) (ap pos (sym g)))

-- adding a multiple of t does not change z mod t
round_more : (z : ℤ) (t : ℕ) → 0 < t → modℤ (z +ℤ pos t) t ≡ modℤ z t
round_more (pos n) t h = add-mod_right n t
round_more (negsuc n) t h = test (ltb t (suc n)) far near
  where
    far : ltb t (suc n) ≡ true → modℤ (sub_ℕ t (suc n)) t ≡ t - suc (n % t)
    far e =
        let l : t ≤ n = omega (arith, ltb-true t (suc n) e) in
        let g : suc n - suc t ≡ n - t = omega arith in
        rw (e, mod-eq-sub-mod l, g)

    near : ltb t (suc n) ≡ false → modℤ (sub_ℕ t (suc n)) t ≡ t - suc (n % t)
    near e =
        let l : suc n ≤ t = ltb-false t (suc n) e in
        let m : n % t ≡ n = mod-eq_of_lt l in
        rw (e, m) (mod-eq_of_lt (omega arith))

one_more : (k z : ℤ) (t : ℕ) → 0 < t → modℤ (z +ℤ suc_ℤ k *ℤ pos t) t ≡ modℤ (z +ℤ k *ℤ pos t) t
one_more k z t h =
    ap (λ (y : ℤ). modℤ y t) (ap (λ (y : ℤ). z +ℤ y) (suc_ℤ-*ℤ k (pos t)) ∙ sym (+ℤ_assoc z (k *ℤ pos t) (pos t)))
    ∙ round_more (z +ℤ k *ℤ pos t) t h

none_more : (z : ℤ) (t : ℕ) → modℤ (z +ℤ pos zero *ℤ pos t) t ≡ modℤ z t
none_more z t = rw (zero-mul t, +ℤ_idr z)

pub mod_more : (k z : ℤ) (t : ℕ) → 0 < t → modℤ (z +ℤ k *ℤ pos t) t ≡ modℤ z t
mod_more (pos zero) z t h = none_more z t
mod_more (pos (suc n)) z t h = one_more (pos n) z t h ∙ mod_more (pos n) z t h
mod_more (negsuc zero) z t h = sym (one_more (negsuc zero) z t h) ∙ none_more z t
mod_more (negsuc (suc n)) z t h = sym (one_more (negsuc (suc n)) z t h) ∙ mod_more (negsuc n) z t h
