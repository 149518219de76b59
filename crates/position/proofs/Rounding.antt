-- The nearest whole number to n / m, halves upward: (2 n + m) / (2 m) is it, and no other number is. Assumes nothing.
use Prim.Native.Nat.{ℕ, suc, ◌+◌, ◌*◌, ◌/◌, ◌%◌, ◌≤◌, ◌<◌}
use native.Mathlib.Nat.{mod-lt, mod-add-div', mul-le-mul, div-div-eq-div-mul}
use native.Mathlib.Omega.{arith}
use lib.Dec.{ltb}
use mathlib.Core.Path.{◌≡◌, sym, ap, ◌∙◌}
use borrow.Author.Tests.{ltb-true, ltb-false}
use Rattle.cases.proofs.Cases.{test}
use Rattle.position.specs.Laws.{apart, Nearest, Rounded}

-- at most half a step above n, and less than half a step below it
abbrev pub Near : ℕ → ℕ → ℕ → Type 0
Near n m s = (2 * (s * m) ≤ 2 * n + m) × (2 * n < 2 * (s * m) + m)

pub divided : (n m d : ℕ) → 0 < m → d ≡ 2 * n + m → Near n m (d / (2 * m))
divided n m d h q =
    let e : d % (2 * m) + d / (2 * m) * (2 * m) ≡ d = mod-add-div' d (2 * m) in
    let l : d % (2 * m) < 2 * m = mod-lt d (omega arith) in
    (omega (arith, q), omega (arith, q))

-- a greater number of steps is at least one step more
more : (s k m : ℕ) → s < k → s * m + m ≤ k * m
more s k m h = let l : suc s * m ≤ k * m = mul-le-mul h (omega arith) in omega arith

-- a number above s is further from n than s is
further : (n m s k : ℕ) → Near n m s → s < k → apart (s * m) n < apart (k * m) n
further n m s k b h = omega (arith, b, more s k m h)

pub nearest : (n m s : ℕ) → Near n m s → Nearest n m s
nearest n m s b =
    record {
      nearest = λ k.
          test (ltb s k)
          (λ e. omega (arith, further n m s k b (ltb-true s k e)))
          (λ e. below k (ltb-false s k e));
      upper = λ k e.
          test (ltb s k)
          (λ q. absurd (omega (arith, e, further n m s k b (ltb-true s k q))))
          (λ q. omega (arith, ltb-false s k q));
    }
  where
    below : (k : ℕ) → k ≤ s → apart (s * m) n ≤ apart (k * m) n
    below k h =
        test (ltb k s)
        (λ e. omega (arith, b, more k s m (ltb-true k s e)))
        (λ e. let q : k ≡ s = omega (arith, h, ltb-false k s e) in rw q (omega arith))

-- of two numbers that are both the nearest, neither is above the other
pub nearest_only : (n m s k : ℕ) → Nearest n m s → Nearest n m k → k ≡ s
nearest_only n m s k a b =
    let e : apart (k * m) n ≡ apart (s * m) n = omega (arith, a.nearest k, b.nearest s) in
    omega (arith, a.upper k e, b.upper s (sym e))

near_at_most : (n m s k : ℕ) → Near n m s → Near n m k → k ≤ s
near_at_most n m s k a b =
    test (ltb s k) (λ e. absurd (omega (arith, a, b, more s k m (ltb-true s k e)))) (λ e. ltb-false s k e)

pub rounded : (n m s : ℕ) → Near n m s → Rounded n m s
rounded n m s b =
    record {
      half_a_step = omega (arith, b);
      upward = λ k e.
          let c : Near n m (suc k) = (omega (arith, e), omega (arith, e)) in
          omega (arith, near_at_most n m s (suc k) b c, near_at_most n m (suc k) s c b);
    }

pub rounded_only : (n m s k : ℕ) → Near n m s → Rounded n m k → k ≡ s
rounded_only n m s k a b = omega (arith, near_at_most n m s k a near, near_at_most n m k s near a)
  where
    no_half : 2 * n ≡ 2 * m * k + m → ⊥
    no_half e = omega (arith, b.upward k e)

    near : Near n m k
    near =
        let half = 2 * (k * m) + m in (
          omega (arith, b.half_a_step),
          test (ltb (2 * n) half)
              (λ e. ltb-true (2 * n) half e)
              (λ e. absurd (no_half (omega (arith, b.half_a_step, ltb-false (2 * n) half e)))),
        )

-- up to the last half step before t steps the count is below t
pub count_below : (n m t s : ℕ) → Near n m s → 2 * n + m < 2 * (t * m) → s < t
count_below n m t s a l = test (ltb s t) (λ e. ltb-true s t e) (λ e. absurd (over (ltb-false s t e)))
  where
    over : t ≤ s → ⊥
    over h = let g : t * m ≤ s * m = mul-le-mul h (omega arith) in omega (arith, l, a)

-- as the code divides: by half of the divisor, half of the dividend rounded down
pub halved : (c d m : ℕ) → c ≡ d / 2 → c / m ≡ d / (2 * m)
halved c d m e = ap (λ (n : ℕ). n / m) e ∙ div-div-eq-div-mul d 2 m
