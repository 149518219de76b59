-- Laws for one step in counting a period, by where the count stands.
use Prim.Native.Nat.{ℕ, suc, ◌+◌, ◌<◌, ◌≤◌}
use mathlib.Core.Path.{◌≡◌}
use mathlib.Core.Bool.{true, false}
use native.Mathlib.Numerals.{add-one}
use native.Mathlib.Omega.{arith}
use borrow.Author.Tests.{lt-ltb, le-ltb, eq-eqb, ne_eqb}
use Rattle.counting.specs.Periods.{one_more}

module _ (n count : ℕ) where
  -- past the period it begins again, and none ends
  pub past : n ≤ count → record { count = 0; ends = false } ≡ one_more n count
  past h = let b : n ≤ suc count = omega (arith, h) in rw (le-ltb (suc count) n b, ne_eqb (suc count) n (λ e. omega (arith, h, e)))

  -- below it the count goes on
  pub below : count + 1 < n → record { count = count + 1; ends = false } ≡ one_more n count
  below h =
      let b : suc count < n = omega (arith, h) in
      rw (lt-ltb (suc count) n b, ne_eqb (suc count) n (λ e. omega (arith, h, e)), add-one count)

  -- at it the period ends
  pub reached : count < n → n ≤ count + 1 → record { count = 0; ends = true } ≡ one_more n count
  reached h g = let e : suc count ≡ n = omega (arith, h, g) in rw (le-ltb (suc count) n (omega (arith, g)), eq-eqb (suc count) n e)
