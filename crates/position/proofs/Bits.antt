-- The bits of 6000h, and which profiles are valid, in plain numbers. Assumes nothing.
use Prim.Native.Nat.{ℕ, ◌/◌, ◌%◌, ◌^◌, ◌≤◌}
use native.Mathlib.Omega.{arith}
use mathlib.Core.Path.{◌≡◌, refl}
use mathlib.Core.Bool.{true, false}
use borrow.Author.Tests.{eq-eqb, ne_eqb, eqb-true, eqb-false}
use Rattle.cases.proofs.Cases.{test}
use Rattle.position.specs.Position.{bit, scaling_bit, direction_bit}
use Rattle.position.specs.Laws.{Bits, Ranges}

pub set : (k v : ℕ) → v / 2 ^ k % 2 ≡ 1 → bit k v ≡ true
set k v e = eq-eqb (v / 2 ^ k % 2) 1 e

pub clear : (k v : ℕ) → v / 2 ^ k % 2 ≡ 0 → bit k v ≡ false
clear k v e = ne_eqb (v / 2 ^ k % 2) 1 (λ q. omega (arith, e, q))

pub bits : (v : ℕ) → Bits v
bits v =
    record {
      set = λ k. set k v;
      clear = λ k. clear k v;
      scaling = (set scaling_bit v, clear scaling_bit v);
      direction = (set direction_bit v, clear direction_bit v);
    }

pub ranges : Ranges
ranges =
    record {
      highest = refl;
      with_scaling = refl;
      without = refl;
      valid = λ p.
          let v = p.operating in (
            λ f. (
              omega (arith, f.bits_low, f.bits_high),
              λ e. f.full (clear scaling_bit v e),
              λ e. (f.low, f.scaled (set scaling_bit v e)),
              f.preset,
              f.step_low,
              f.step_high,
              f.offset,
            ),
            λ h.
                let within : (1000 ≤ p.range) × (p.range ≤ 1048576) =
                test (bit scaling_bit v)
                (λ e. omega (arith, h.2 (eqb-true (v / 4 % 2) 1 e)))
                (λ e. omega (arith, h.1 (omega (arith, eqb-false (v / 4 % 2) 1 e)))) in
                record {
                  bits_low = omega (arith, h.0);
                  bits_high = omega (arith, h.0);
                  low = within.0;
                  high = within.1;
                  full = λ e. h.1 (omega (arith, eqb-false (v / 4 % 2) 1 e));
                  scaled = λ e. (h.2 (eqb-true (v / 4 % 2) 1 e)).1;
                  preset = h.3;
                  step_low = h.4;
                  step_high = h.5;
                  offset = h.6;
                },
          );
    }
