-- A count that restarts at its period, like a timer of the head, is the remainder of a count that goes on.
use Prim.Native.Nat.{ℕ, suc, ◌%◌, ◌<◌}
use native.Mathlib.Omega.{arith}
use native.Mathlib.Nat.{mod-lt, mod-eq_of_lt, mod_self, suc-mod, zero-mod}
use lib.Dec.{ltb}
use mathlib.Core.Path.{◌≡◌, sym, ap, ◌∙◌}
use mathlib.Core.Bool.{true, false}
use borrow.Author.Tests.{eqb-true, eq-eqb, ltb-true, ltb-false}
use Rattle.cases.proofs.Cases.{by, test}
use Rattle.promises.specs.Timers.{counted, completes}
use Rattle.promises.specs.Moments.{EachOf}

-- t is the remainder of n modulo the period
abbrev pub Rest : ℕ → ℕ → ℕ → Type 0
Rest period t n = 0 < period → t ≡ n % period

pub anew : (period : ℕ) → Rest period 0 0
anew period some = sym (zero-mod period)

module _ (period t n : ℕ) (r : Rest period t n) where
  next : 0 < period → suc n % period ≡ suc t % period
  next some = suc-mod n period ∙ ap (λ m. suc m % period) (sym (r some))

  low : 0 < period → t < period
  low some = rw (r some) (mod-lt n some)

  pub one_more : Rest period (counted period t) (suc n)
  one_more some =
      by (λ m. m ≡ suc n % period) (ltb (suc t) period)
      (λ e. sym (next some ∙ mod-eq_of_lt (ltb-true (suc t) period e)))
      (λ e. sym (next some ∙ ap (λ m. m % period) (whole e) ∙ mod_self period))
    where
      whole : ltb (suc t) period ≡ false → suc t ≡ period
      whole e = omega (arith, ltb-false (suc t) period e, low some)

  pub its_turn : completes period t ≡ true → EachOf period n
  its_turn e =
      let whole = eqb-true (suc t) period e in
      let some : 0 < period = omega (arith, whole) in
      record { some = some; turn = next some ∙ ap (λ m. m % period) whole ∙ mod_self period }

  pub in_turn : EachOf period n → completes period t ≡ true
  in_turn e =
      eq-eqb (suc t) period
      (test (ltb (suc t) period)
      (λ l. absurd (omega (arith, sym (mod-eq_of_lt (ltb-true (suc t) period l)) ∙ sym (next e.some) ∙ e.turn)))
      (λ l. omega (arith, ltb-false (suc t) period l, low e.some)))
