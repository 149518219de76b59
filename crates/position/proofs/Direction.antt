-- What the direction bit does to d. Assumes nothing.
use Prim.Native.Nat.{ℕ, ◌-◌, ◌/◌, ◌%◌, ◌<◌}
use native.Mathlib.Nat.{mod-lt, mod-eq_of_lt}
use native.Mathlib.Omega.{arith}
use lib.Dec.{eqb}
use lib.IntN.{pos, ◌+ℤ◌}
use mathlib.Core.Path.{◌≡◌, refl, sym, ap, ◌∙◌}
use mathlib.Core.Bool.{Bool, true, false, not, cond}
use borrow.Author.Tests.{eqb-true, eqb-false}
use Rattle.cases.proofs.Cases.{by, test, cond_ap}
use Rattle.position.specs.declared.Profile.{Profile}
use Rattle.position.specs.Position.{bit, scaling_bit, direction_bit, modℤ, count, directed}
use Rattle.position.specs.Profile.{ValidProfile}
use Rattle.position.specs.Laws.{turned, Mirrors}
use Rattle.position.proofs.Bits.{clear}

pub directed_below : (p : Profile) (r : ℕ) → 0 < p.range → directed p r < p.range
directed_below p r h = by (λ d. d < p.range) (bit direction_bit p.operating) (λ _. omega arith) (λ _. mod-lt _ h)

over_turned : (p : Profile) → (turned p).operating / 8 % 2 ≡ 1 - p.operating / 8 % 2
over_turned p =
    let v = p.operating in
    by (λ w. w / 8 % 2 ≡ 1 - v / 8 % 2) (eqb (v / 8 % 2) 1)
    (λ e. omega (arith, eqb-true (v / 8 % 2) 1 e))
    (λ e. omega (arith, eqb-false (v / 8 % 2) 1 e))

same_turned : (p : Profile) → (turned p).operating / 4 % 2 ≡ p.operating / 4 % 2
same_turned p =
    let v = p.operating in
    by (λ w. w / 4 % 2 ≡ v / 4 % 2) (eqb (v / 8 % 2) 1)
    (λ e. omega (arith, eqb-true (v / 8 % 2) 1 e))
    (λ e. omega arith)

direction_turned : (p : Profile) → bit direction_bit (turned p).operating ≡ not (bit direction_bit p.operating)
direction_turned p =
    let v = p.operating in
    rw (over_turned p)
    (test (eqb (v / 8 % 2) 1)
    (λ e. rw (eqb-true (v / 8 % 2) 1 e))
    (λ e. let z : v / 8 % 2 ≡ 0 = omega (arith, eqb-false (v / 8 % 2) 1 e) in rw z))

scaling_turned : (p : Profile) → bit scaling_bit (turned p).operating ≡ bit scaling_bit p.operating
scaling_turned p = ap (λ (b : ℕ). eqb b 1) (same_turned p)

swapped : (b : Bool) (c t : ℕ) → c < t → cond (not b) (t - 1 - c) c ≡ t - 1 - cond b (t - 1 - c) c
swapped true c t h = omega arith
swapped false c t h = refl

directed_turned : (p : Profile) (r : ℕ) → 0 < p.range → directed (turned p) r ≡ p.range - 1 - directed p r
directed_turned p r h =
    rw (direction_turned p, scaling_turned p) (swapped (bit direction_bit p.operating) (count p r) p.range (mod-lt _ h))

other_end : (p : Profile) (r : ℕ) → bit scaling_bit p.operating ≡ false → r < p.range
    → directed (turned p) r ≡ directed p (p.range - 1 - r)
other_end p r e l =
    let t = p.range in
    let m : r % t ≡ r = mod-eq_of_lt l in
    let n : (t - 1 - r) % t ≡ t - 1 - r = mod-eq_of_lt (omega arith) in
    directed_turned p r (omega arith)
    ∙ rw (e, m, n) (cond_ap (λ (d : ℕ). t - 1 - d) (bit direction_bit p.operating) (t - 1 - r) r)

turned_valid : (p : Profile) → ValidProfile p → ValidProfile (turned p)
turned_valid p f = record {
  bits_low = bits.0;
  bits_high = bits.1;
  low = f.low;
  high = f.high;
  full = λ e. f.full (sym (scaling_turned p) ∙ e);
  scaled = λ e. f.scaled (sym (scaling_turned p) ∙ e);
  preset = f.preset;
  step_low = f.step_low;
  step_high = f.step_high;
  offset = f.offset;
}
  where
    bits : ((turned p).operating % 4 ≡ 0) × ((turned p).operating < 16)
    bits =
        let v = p.operating in
        by (λ w. (w % 4 ≡ 0) × (w < 16)) (eqb (v / 8 % 2) 1)
        (λ e. omega (arith, eqb-true (v / 8 % 2) 1 e))
        (λ e. omega (arith, eqb-false (v / 8 % 2) 1 e))

pub mirrors : (p : Profile) (r : ℕ) → ValidProfile p → Mirrors p r
mirrors p r f = record {
  over = over_turned p;
  same = same_turned p;
  valid = turned_valid p f;
  directed_turned = directed_turned p r (omega arith);
  other_end = λ e l. ap (λ (d : ℕ). modℤ (pos d +ℤ p.offset) p.range) (other_end p r (clear scaling_bit p.operating e) l);
}
