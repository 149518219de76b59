-- Proves `ByEntries` of specs/ByEntries.antt.
use Prim.Native.Nat.{ℕ, zero, suc, ◌+◌, ◌-◌, ◌*◌, ◌/◌, ◌%◌, ◌≤◌, ◌<◌, zero-le}
use native.Mathlib.Nat.{add-zero, sub-zero, mod-eq_of_lt, mod-add-div'}
use native.Mathlib.Omega.{arith}
use lib.Dec.{eqb, ltb}
use lib.IntN.{ℤ, pos, negsuc, ◌+ℤ◌, ◌-ℤ◌, nat_abs}
use mathlib.Core.Path.{◌≡◌, refl, sym, ap, ap₂, subst, ◌∙◌}
use mathlib.Core.Bool.{Bool, true}
use mathlib.Core.List.{List}
use mathlib.Core.Option.{Option, some}
use borrow.Author.Tests.{eqb-true, eqb-false, lt-ltb, le-ltb, ltb-true}
use Rattle.cases.proofs.Cases.{test}
use Rattle.can.specs.declared.Received.{Received}
use Rattle.can.specs.Signed.{twos}
use Rattle.position.specs.declared.Profile.{Profile}
use Rattle.position.specs.Position as formula
use Rattle.position.specs.Profile.{ValidProfile}
use Rattle.position.proofs.Whole.{minus_sum}
use Rattle.position.proofs.Rounding.{Near, count_below}
use Rattle.position.proofs.Laws.{laws as position-laws}
use Rattle.entries.specs.declared.Device.{Device}
use Rattle.entries.specs.declared.Reading.{Reading}
use Rattle.entries.specs.declared.table.Row.{Row}
use Rattle.entries.specs.Table.{Found, key_of, lookup, width}
use Rattle.std.specs.Prelude.{Ok as At, Err, Some as Number}
use Rattle.entries.specs.declared.table.NotFound.TheVariants.{NoSubIndex, NoIndex}
use Rattle.entries.specs.Laws.{Stands}
use Rattle.entries.proofs.Laws.{laws as entries-laws}
use Rattle.dictionary.specs.Shown.{Shown}
use Rattle.dictionary.specs.Reads.{read_of}
use Rattle.dictionary.specs.Effects.{effects, anew}
use Rattle.sdo.specs.Request.{index_of, sub_of, reading}
use Rattle.parts.specs.declared.Head.{Head}
use Rattle.parts.specs.declared.Sensor.{Sensor}
use Rattle.parts.specs.declared.Sensor.TheVariants.{Missing, Raw}
use Rattle.promises.specs.States.{operational, is_in}
use Rattle.promises.specs.Calls.{Call, receive, step}
use Rattle.promises.specs.Meant.{due_to, Writes}
use Rattle.promises.specs.Valid.{Valid}
use Rattle.promises.specs.Histories.{after, PowerUp, powered, Reachable}
use Rattle.promises.specs.Readings.{reads_in, profile_of, shown_position, last_sample, reading_of, due_shown}
use Rattle.promises.specs.ByEntries.{Scale, ReadsScale, ScaledCount, directed_by, position_by, offset_by, ByEntries}
use Rattle.promises.specs.Parameters.{Reads}
use Rattle.promises.proofs.Histories.{valid_powered, valid_after, valid_reachable}
use Rattle.promises.proofs.Readings.{read_due_law, tells}
use Rattle.promises.proofs.Effects.{served_rightly}
use Rattle.promises.proofs.Parameters.{parameters_read}

in_some : {a b : Shown} → some a ≡ some b → a ≡ b
in_some q = cc

in_number : {a b : ℕ} → Number a ≡ Number b → a ≡ b
in_number q = cc

-- what is read of the row that is found
asked : (h : Head) (f : Received) (s : Shown) → let i = index_of f.bytes in let j = sub_of f.bytes in
    reading f.bytes ≡ true → reads_in h i j ≡ some s → (r : Row) × Stands r i j × (due_to h f ≡ due_shown (width r) s)
asked h f s r = found (lookup i j) refl
  where
    d : Device
    d = h.core.device

    o : Bool
    o = is_in operational h.core

    i : ℕ
    i = index_of f.bytes

    j : ℕ
    j = sub_of f.bytes

    found : (x : Found) → lookup i j ≡ x → read_of d o x ≡ some s
        → (r : Row) × Stands r i j × (due_to h f ≡ due_shown (width r) s)
    found (At u) q e = (u, ((entries-laws.finds i j).at u).0 q, read_due_law d o h.transfer f.bytes u r q ∙ ap (due_shown (width u)) (in_some e))
    found (Err NoSubIndex) q e = absurd (let z : ◌≡◌ {A = ℕ} 0 1 = cc in omega arith)
    found (Err NoIndex) q e = absurd (let z : ◌≡◌ {A = ℕ} 0 1 = cc in omega arith)

-- an entry reads one number
same : (x : Option Shown) {a b : ℕ} → x ≡ some (Number a) → x ≡ some (Number b) → a ≡ b
same x y z = in_number (in_some (sym y ∙ z))

-- what these entries read of a profile
abbrev scale_of : Profile → Scale
scale_of p = record { operating = p.operating; range = p.range; step = p.step; offset = twos p.offset }

scale_is : (h : Head) (x : Scale) → ReadsScale h x → x ≡ scale_of (profile_of h)
scale_is h x e =
    let n = parameters_read h in
    let a = same (reads_in h 0x6000 0) e.operating n.operating in
    let b = same (reads_in h 0x6002 0) e.range n.range in
    let c = same (reads_in h 0x6005 1) e.step n.step in
    let d = same (reads_in h 0x6509 0) e.offset n.offset in
    ap (λ m. record { operating = m; range = x.range; step = x.step; offset = x.offset }) a
    ∙ ap (λ m. record { operating = (profile_of h).operating; range = m; step = x.step; offset = x.offset }) b
    ∙ ap (λ m. record { operating = (profile_of h).operating; range = (profile_of h).range; step = m; offset = x.offset }) c
    ∙ ap (λ m. record { operating = (profile_of h).operating; range = (profile_of h).range; step = (profile_of h).step; offset = m }) d

-- the position, by the sign of the offset
module _ (p : Profile) (v : ValidProfile p) (r : ℕ) where
  by_sign : (z : ℤ) → nat_abs z < p.range
      → position_by (record { operating = p.operating; range = p.range; step = p.step; offset = twos z }) (formula.scaled_count p r)
      ≡ formula.modℤ (pos (formula.directed p r) +ℤ z) p.range
  by_sign (pos n) l = rw (lt-ltb n 0x80000000 (omega (arith, l, v.high)))
  by_sign (negsuc n) l =
      let high : 0x80000000 ≤ 0xFFFFFFFF - n = omega (arith, l, v.high) in
      let back : 0x100000000 - (0xFFFFFFFF - n) ≡ suc n = omega (arith, l, v.high) in
      rw (le-ltb (0xFFFFFFFF - n) 0x80000000 high, back) (minus_sum (negsuc n) (formula.directed p r) p.range refl l)

  position_by_law : position_by (scale_of p) (formula.scaled_count p r) ≡ formula.position p r
  position_by_law = by_sign p.offset v.offset

  -- the scaled count is one that the entries and the raw number give, and the only one
  its_count : ScaledCount (scale_of p) r (formula.scaled_count p r)
  its_count =
      let its = position-laws.positions p r v in
      record { off = its.unscaled; on = its.scaled }

  only_count : (s : ℕ) → ScaledCount (scale_of p) r s → s ≡ formula.scaled_count p r
  only_count s c =
      let its = position-laws.positions p r v in
      let b = p.operating / 4 % 2 in
      test (eqb b 1)
      (λ e. let on = eqb-true b 1 e in its.nearest_only on s (c.on on))
      (λ e. let off : b ≡ 0 = omega (arith, eqb-false b 1 e) in c.off off ∙ sym (its.unscaled off))

-- the same of what the entries of a head read
module _ (h : Head) (v : Valid h) (x : Scale) (e : ReadsScale h x) (r : ℕ) where
  abbrev count : ℕ
  count = formula.scaled_count (profile_of h) r

  count_read : ScaledCount x r count
  count_read = subst (λ (y : Scale). ScaledCount y r count) (sym (scale_is h x e)) (its_count (profile_of h) v.device.settings.profile r)

  only_read : (s : ℕ) → ScaledCount x r s → s ≡ count
  only_read s c =
      only_count (profile_of h) v.device.settings.profile r s (subst (λ (y : Scale). ScaledCount y r s) (scale_is h x e) c)

  near_read : x.operating / 4 % 2 ≡ 1 → Near (r * 5000) x.step count
  near_read =
      subst (λ (y : Scale). y.operating / 4 % 2 ≡ 1 → Near (r * 5000) y.step count) (sym (scale_is h x e))
      (position-laws.positions (profile_of h) r v.device.settings.profile).by_halves

-- with direction 0 and no offset the position is the count, while that is below T
plain : (x : Scale) (s : ℕ) → x.operating ≡ 4 → x.offset ≡ 0 → s < x.range → position_by x s ≡ s
plain x s o z l = rw (o, z, mod-eq_of_lt l, add-zero s, mod-eq_of_lt l)

-- v − d, as 6509h reads it
offset_by_law : (v d : ℕ) → d ≤ 0x100000000 → twos (pos v -ℤ pos d) ≡ offset_by v d
offset_by_law v zero l = rw (le-ltb v 0 zero-le, add-zero v, sub-zero v)
offset_by_law v (suc d) l =
    test (ltb v (suc d)) (λ e. let u = ltb-true v (suc d) e in rw e (omega (arith, u, l))) (λ e. rw e)

module _ (h : Head) (x : Reachable h) (f : Received) (k v : ℕ) (w : Writes h f k v) where
  abbrev Anew : ℕ → ℕ → ℕ → Type 0
  Anew i j n =
      reads_in (step h (receive f)) i j ≡ anew (effects h.core.device (is_in operational h.core) k v) (key_of i j) (some (Number n))

  -- what the entry i-j, which read n, reads after the write
  written : (i j : ℕ) {n : ℕ} → Reads h i j n → Anew i j n
  written i j e =
      ((served_rightly h x f w.requests).accepted k v w.accepted).entries i j
      ∙ ap (anew (effects h.core.device (is_in operational h.core) k v) (key_of i j)) e

  both_written : Anew 0x6003 0 (profile_of h).preset × Anew 0x6509 0 (twos (profile_of h).offset)
  both_written = (written 0x6003 0 (parameters_read h).preset, written 0x6509 0 (parameters_read h).offset)

position_is : (p : PowerUp) (cs : List Call) → let h = after (powered p) cs in (x : Scale) → ReadsScale h x → (r s : ℕ)
    → last_sample Missing cs ≡ Raw r → ScaledCount x r s → Reads h 0x6004 0 (position_by x s)
position_is p cs x e r s q c =
    let h = after (powered p) cs in
    let v = valid_after (powered p) cs (valid_powered p) in
    (tells p cs).position
    ∙ ap (λ (t : Sensor). some (shown_position (profile_of h) t)) q
    ∙ ap (λ n. some (Number n)) (sym (position_by_law (profile_of h) v.device.settings.profile r))
    ∙ ap₂ (λ (y : Scale) (n : ℕ). some (Number (position_by y n))) (sym (scale_is h x e)) (sym (only_read h v x e r s c))

-- 6509h after an accepted 6003h = v
offset_is : (p : PowerUp) (cs : List Call) → let h = after (powered p) cs in (r : ℕ) → last_sample Missing cs ≡ Raw r
    → (f : Received) (v : ℕ) → Writes h f 0x6003_00 v → Reads (step h (receive f)) 0x6509 0 (offset_by v (formula.directed (profile_of h) r))
offset_is p cs r q f v w =
    let h = after (powered p) cs in
    let valid = valid_after (powered p) cs (valid_powered p) in
    let o = profile_of h in
    let raw = h.core.device.reading.raw in
    let its-raw : raw ≡ r = ap (λ (t : Reading). t.raw) ((tells p cs).reading_is ∙ ap reading_of q) in
    let below = (position-laws.positions o raw valid.device.settings.profile).directed_below in
    written h (record { start = p; calls = cs; so = refl }) f 0x6003_00 v w 0x6509 0 (parameters_read h).offset
    ∙ ap (λ n. some (Number n)) (offset_by_law v (formula.directed o raw) (omega (arith, below, valid.device.settings.profile.high)))
    ∙ ap (λ n. some (Number (offset_by v (formula.directed o n)))) its-raw

-- (d + offset) mod T and its multiple of T, by the sign of the offset
module _ (d t : ℕ) (h : t ≤ 1048576) where
  abbrev Sum : ℕ → ℕ → Type 0
  Sum z n = (k : ℕ) × (z < 0x80000000 → n + k * t ≡ d + z) × (0x80000000 ≤ z → n + k * t + 0x100000000 ≡ d + z + t)

  sum_of : (a : ℤ) → nat_abs a < t → Sum (twos a) (formula.modℤ (pos d +ℤ a) t)
  sum_of (pos m) l = ((d + m) / t, (λ _. mod-add-div' (d + m) t), λ g. absurd (omega (arith, g, l, h)))
  sum_of (negsuc m) l =
      let y = d + (t - suc m) in
      let i : y % t + y / t * t ≡ y = mod-add-div' y t in
      let e : y % t ≡ formula.modℤ (pos d +ℤ negsuc m) t = minus_sum (negsuc m) d t refl l in
      (y / t, (λ g. absurd (omega (arith, g, l, h))), λ g. rw (sym e) (omega (arith, i, l, h)))

-- p − d in 32 bits
preset_of : (v d z : ℕ) → d ≤ 0x100000000 → z ≡ offset_by v d → (d ≤ v → d + z ≡ v) × (v < d → d + z ≡ v + 0x100000000)
preset_of v d z l e = (
  (λ g. let i : z ≡ v - d = e ∙ rw (le-ltb v d g) refl in omega (arith, i, g)),
  λ g. let i : z ≡ 0x100000000 - (d - v) = e ∙ rw (lt-ltb v d g) refl in omega (arith, i, g, l),
)

pub by_entries : ByEntries
by_entries =
    record {
      asked = asked;
      scaled_count_law = λ h a x e r. let v = valid_reachable h a in (count h v x e r, count_read h v x e r, only_read h v x e r);
      position = position_is;
      half_a_step = λ p cs x e r n q o z l w.
          let h = after (powered p) cs in
          let v = valid_after (powered p) cs (valid_powered p) in
          let s = count h v x e r in
          let a = near_read h v x e r (rw o refl) in
          let i : n ≡ s =
          same (reads_in h 0x6004 0) w (position_is p cs x e r s q (count_read h v x e r))
          ∙ plain x s o z (count_below (r * 5000) x.step x.range s a l) in
          rw i a;
      presets = λ p cs x e r s q c f v w.
          let h = after (powered p) cs in
          let valid = valid_after (powered p) cs (valid_powered p) in
          offset_is p cs r q f v w
          ∙ ap₂ (λ (y : Scale) (n : ℕ). some (Number (offset_by v (directed_by y n)))) (sym (scale_is h x e)) (sym (only_read h valid x e r s c));
      plainly = λ p cs o t m r e1 e2 e3 q.
          let h = after (powered p) cs in
          let x = profile_of h in
          let v = (valid_after (powered p) cs (valid_powered p)).device.settings.profile in
          let its = position-laws.positions x r v in
          let reads = parameters_read h in
          rw (
            same (reads_in h 0x6000 0) e1 reads.operating,
            same (reads_in h 0x6002 0) e2 reads.range,
            same (reads_in h 0x6005 1) e3 reads.step,
          ) (
            formula.scaled_count x r,
            formula.count x r,
            formula.directed x r,
            its.unscaled,
            its.by_halves,
            its.count_below,
            its.counted,
            its.straight,
            its.inverted,
            (λ z n a b.
                let z-is : z ≡ twos x.offset = same (reads_in h 0x6509 0) a reads.offset in
                let n-is : n ≡ formula.position x r =
                same (reads_in h 0x6004 0) b ((tells p cs).position ∙ ap (λ (u : Sensor). some (shown_position x u)) q) in
                rw (z-is, n-is) (its.below, sum_of (formula.directed x r) x.range v.high x.offset v.offset)),
            λ f w z a b.
                let z-is = same (reads_in (step h (receive f)) 0x6509 0) b (offset_is p cs r q f w a) in
                preset_of w (formula.directed x r) z (omega (arith, its.directed_below, v.high)) z-is,
          );
      rescales = λ h x f v. (both_written h x f 0x6000_00 v, (both_written h x f 0x6002_00 v, (both_written h x f 0x6005_01 v, tt)));
      ranges = λ h x f v w. written h x f 0x6000_00 v w 0x6002 0 (parameters_read h).range;
    }
