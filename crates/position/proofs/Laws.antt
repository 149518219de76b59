-- Proves the laws of specs/Laws.antt. Assumes nothing.
use Prim.Native.Nat.{ℕ, ◌+◌, ◌*◌, ◌/◌, ◌%◌, ◌<◌}
use native.Mathlib.Nat.{mod-lt, mod-eq_of_lt, mod-add-div'}
use native.Mathlib.Omega.{arith}
use lib.IntN.{ℤ, pos, ◌+ℤ◌, ◌-ℤ◌, +ℤ_comm, +ℤ_idr, -ℤ-+ℤ_cancel}
use mathlib.Core.Path.{◌≡◌, refl, sym, ap, ◌∙◌}
use mathlib.Core.Bool.{true}
use Rattle.position.specs.declared.Profile.{Profile}
use Rattle.position.specs.Position.{bit, scaling_bit, direction_bit, modℤ, scaled_count, count, directed, position, preset_to}
use Rattle.position.specs.Profile.{ValidProfile}
use Rattle.position.specs.Laws.{Agrees, Positions, Presets, Laws}
use Rattle.position.proofs.Whole.{difference_below}
use Rattle.position.proofs.Modulo.{mod_below, mod_multiple, mod_more}
use Rattle.position.proofs.Bits.{set, clear, bits, ranges}
use Rattle.position.proofs.Rounding.{Near, divided, nearest, nearest_only, rounded, rounded_only}
use Rattle.position.proofs.Direction.{directed_below, mirrors}

near : (p : Profile) (r : ℕ) → 0 < p.step → bit scaling_bit p.operating ≡ true → Near (r * 5000) p.step (scaled_count p r)
near p r h e = rw e (divided (r * 5000) p.step _ h (omega arith))

inverted : (p : Profile) (r : ℕ) → 0 < p.range → bit direction_bit p.operating ≡ true → directed p r + count p r + 1 ≡ p.range
inverted p r h e = let l = mod-lt (scaled_count p r) h in rw e (omega arith)

only : (p : Profile) (r n : ℕ) → 0 < p.range → n < p.range → Agrees p r n → n ≡ position p r
only p r n h l a =
    sym (mod-eq_of_lt l)
    ∙ ap (λ (z : ℤ). modℤ z p.range) a.1
    ∙ mod_more a.0 (pos (directed p r) +ℤ p.offset) p.range h

plain : (p : Profile) (r : ℕ) → 0 < p.range → p.offset ≡ pos 0 → position p r ≡ directed p r
plain p r h e =
    ap (λ (z : ℤ). modℤ (pos (directed p r) +ℤ z) p.range) e
    ∙ ap (λ (z : ℤ). modℤ z p.range) (+ℤ_idr (pos (directed p r)))
    ∙ mod-eq_of_lt (directed_below p r h)

positions : (p : Profile) (r : ℕ) → ValidProfile p → Positions p r
positions p r v =
    let h : 0 < p.range = omega arith in
    let n = r * 5000 in
    let m = p.step in
    let s = scaled_count p r in
    let its-near : p.operating / 4 % 2 ≡ 1 → Near n m s = λ e. near p r (omega arith) (set scaling_bit p.operating e) in
    record {
      unscaled = λ e. rw (clear scaling_bit p.operating e);
      scaled = λ e. nearest n m s (its-near e);
      rounded = λ e. rounded n m s (its-near e);
      by_halves = its-near;
      nearest_only = λ e k. nearest_only n m s k (nearest n m s (its-near e));
      rounded_only = λ e k. rounded_only n m s k (its-near e);
      count_below = mod-lt (scaled_count p r) h;
      counted = (scaled_count p r / p.range, sym (mod-add-div' (scaled_count p r) p.range));
      straight = λ e. rw (clear direction_bit p.operating e);
      inverted = λ e. inverted p r h (set direction_bit p.operating e);
      directed_below = directed_below p r h;
      below = mod_below (pos (directed p r) +ℤ p.offset) p.range h;
      agrees = mod_multiple (pos (directed p r) +ℤ p.offset) p.range h;
      only = λ n l a. only p r n h l a;
      plain = plain p r h;
      by_count = λ q e. rw e;
    }

presets : (p : Profile) (r v : ℕ) → ValidProfile p → v < p.range → Presets p r v
presets p r v f l =
    let d = directed p r in
    let exact : pos d +ℤ (preset_to p r v).offset ≡ pos v =
    +ℤ_comm (pos d) (pos v -ℤ pos d) ∙ -ℤ-+ℤ_cancel (pos v) (pos d) in
    let within = difference_below v d p.range l (directed_below p r (omega arith)) in
    record {
      exact = exact;
      within = within;
      reads = rw exact (mod-eq_of_lt l);
      valid = record {
        bits_low = f.bits_low;
        bits_high = f.bits_high;
        low = f.low;
        high = f.high;
        full = f.full;
        scaled = f.scaled;
        preset = l;
        step_low = f.step_low;
        step_high = f.step_high;
        offset = within;
      };
      kept = refl;
      others = (refl, refl, refl);
    }

pub laws : Laws
laws = record { bits = bits; ranges = ranges; positions = positions; mirrors = mirrors; presets = presets }
