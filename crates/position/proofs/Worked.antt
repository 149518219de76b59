-- Proves the examples of specs/Worked.antt by computation. Assumes nothing.
use native.Mathlib.Omega.{arith}
use mathlib.Core.Path.{refl, sym}
use Rattle.cases.proofs.Cases.{true_false}
use Rattle.position.specs.Worked.{Worked}

pub worked : Worked
worked = record {
  p7 = refl;
  p8 = refl;
  p9 = (refl, refl);
  halves = (refl, refl, refl, refl);
  odd = (refl, refl);
  before_range = (refl, refl, refl, refl);
  off = refl;
  preset_at_half = (refl, refl);
  p10 = (refl, refl);
  p10_reads = (refl, refl, refl);
  over = (refl, refl);
  over_short = refl;
  far_end = (refl, refl);
  coarse = refl;
  coarse_inverted = refl;
  most = (refl, refl);
  least = (refl, refl);
  again = (refl, refl);
  factory_valid = record {
    bits_low = refl;
    bits_high = omega arith;
    low = omega arith;
    high = omega arith;
    full = λ e. refl;
    scaled = λ e. true_false (sym e);
    preset = omega arith;
    step_low = omega arith;
    step_high = omega arith;
    offset = omega arith;
  };
  scaled_valid = record {
    bits_low = refl;
    bits_high = omega arith;
    low = omega arith;
    high = omega arith;
    full = λ e. true_false e;
    scaled = λ e. omega arith;
    preset = omega arith;
    step_low = omega arith;
    step_high = omega arith;
    offset = omega arith;
  };
}
