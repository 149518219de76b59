-- Proves `AcceptedLaws` of specs/AcceptedLaws.antt: each line by the row
-- that is found for it, the codes by cases of the tests. Assumes nothing.
use Prim.Native.Nat.{ℕ, ◌+◌, ◌/◌, ◌%◌, ◌≤◌, ◌<◌}
use native.Mathlib.Omega.{arith}
use mathlib.Core.Path.{◌≡◌, refl}
use mathlib.Core.Logic.{◌↔◌, ◌⊎◌, inl, inr}
use mathlib.Core.Bool.{Bool, true, false, not, ◌&&◌, ◌||◌, cond}
use mathlib.Core.List.{map}
use lib.Dec.{eqb, ltb}
use borrow.Author.Tests.{ltb-true, ltb-false, eqb-false}
use Rattle.cases.specs.Tests.{within}
use Rattle.cases.proofs.Cases.{test}
use Rattle.position.specs.Position.{bit, scaling_bit}
use Rattle.entries.specs.declared.Pdo.{Pdo}
use Rattle.entries.specs.declared.Device.{Device}
use Rattle.entries.specs.declared.table.Row.{Row}
use Rattle.entries.specs.Table.{missing, table, key, index, sub, width, is_rw, accepted, lookup}
use Rattle.entries.specs.Laws.{Listed}
use Rattle.entries.proofs.Listed.{agree}
use Rattle.entries.specs.Keys.{tpdo1, tpdo2, identifier_key_of, type_key_of, range_key, preset_key, step_key}
use Rattle.dictionary.specs.AbortCodes.{invalid_value, wrong_signature, device_state}
use Rattle.dictionary.specs.Accepted.{on, emergency_identifier, pdo_identifier, transmission_type, operating_parameters, is_signature}
use Rattle.dictionary.specs.Accepted.{pdo_barred, barred, accepts_in, abort_code}
use Rattle.dictionary.specs.AcceptedLaws.{IdentifiesEmergency, IdentifiesPdo, IsType, IsOperating, accepted_values, those, AcceptEach}
use Rattle.dictionary.specs.AcceptedLaws.{HasSignature, HeldBy, Bars, Words, Coded, AcceptedLaws}
use Rattle.dictionary.proofs.Tested.{Tests, equal, below, fails, both, either, neither, between, meaning, same, ◌▸◌}

every : Tests true (Unit {0})
every = (λ _. tt, λ _. refl)

-- 32 bits: bit 31 is 0
switched : (v : ℕ) → v < 0x100000000 → Tests (on v) (v < 0x80000000)
switched v h =
    meaning (neither (bit 31 v) (equal (v / 0x80000000 % 2) 1)) (λ n. low n) (λ l e. omega arith)
  where
    low : (v / 0x80000000 % 2 ≡ 1 → ⊥) → v < 0x80000000
    low n = test (ltb v 0x80000000) (ltb-true v 0x80000000) (λ f. let g = ltb-false v 0x80000000 f in absurd (n (omega arith)))

module _ (v : ℕ) where
  pub emergency_is : (n : ℕ) → n ≤ 127 → v < 0x100000000 → Tests (emergency_identifier n v) (IdentifiesEmergency n v)
  emergency_is n b h = meaning (equal (v % 0x80000000) (0x80 + n)) apart joined
    where
      apart : v % 0x80000000 ≡ 0x80 + n → IdentifiesEmergency n v
      apart e =
          test (ltb v 0x80000000)
          (λ f. let g = ltb-true v 0x80000000 f in inl (omega arith)) (λ f. let g = ltb-false v 0x80000000 f in inr (omega arith))

      joined : IdentifiesEmergency n v → v % 0x80000000 ≡ 0x80 + n
      joined (inl e) = omega arith
      joined (inr e) = omega arith

  pub identifier_is : v < 0x100000000 → Tests (pdo_identifier v) (IdentifiesPdo v)
  identifier_is h =
      meaning
      (both (eqb (v % 0x80000000 / 0x800) 0) (not (on v) || within 0x181 0x57F v) (equal (v % 0x80000000 / 0x800) 0)
      (either (not (on v)) (within 0x181 0x57F v) (neither (on v) (switched v h)) (between 0x181 0x57F v)))
      apart joined
    where
      apart : (v % 0x80000000 / 0x800 ≡ 0) × ((v < 0x80000000 → ⊥) ⊎ ((0x181 ≤ v) × (v ≤ 0x57F))) → IdentifiesPdo v
      apart (e, inl n) =
          test (ltb v 0x80000000) (λ f. absurd (n (ltb-true v 0x80000000 f)))
          (λ f. let g = ltb-false v 0x80000000 f in inr (omega arith, omega arith))
      apart (e, inr b) = inl b

      joined : IdentifiesPdo v → (v % 0x80000000 / 0x800 ≡ 0) × ((v < 0x80000000 → ⊥) ⊎ ((0x181 ≤ v) × (v ≤ 0x57F)))
      joined (inl b) = (omega arith, inr b)
      joined (inr b) = (omega arith, inl (λ l. omega arith))

  pub type_is : Tests (transmission_type v) (IsType v)
  type_is = meaning (either (within 1 240 v) (within 254 255 v) (between 1 240 v) (between 254 255 v)) apart joined
    where
      apart : ((1 ≤ v) × (v ≤ 240)) ⊎ ((254 ≤ v) × (v ≤ 255)) → IsType v
      apart (inl b) = inl b
      apart (inr b) = test (eqb v 254) (λ f. inr (inl ((equal v 254).0 f))) (λ f. let n = eqb-false v 254 f in inr (inr (omega arith)))

      joined : IsType v → ((1 ≤ v) × (v ≤ 240)) ⊎ ((254 ≤ v) × (v ≤ 255))
      joined (inl b) = inl b
      joined (inr (inl e)) = inr (omega arith, omega arith)
      joined (inr (inr e)) = inr (omega arith, omega arith)

  pub operating_bits : v % 4 ≡ 0 → v < 16 → IsOperating v
  operating_bits e b =
      test (ltb v 4) (λ f. let l = ltb-true v 4 f in inl (omega arith))
      (λ f. let l = ltb-false v 4 f in test (ltb v 8) (λ g. let m = ltb-true v 8 g in inr (inl (omega arith)))
      (λ g. let m = ltb-false v 8 g in test (ltb v 12) (λ h. let n = ltb-true v 12 h in inr (inr (inl (omega arith))))
      (λ h. let n = ltb-false v 12 h in inr (inr (inr (omega arith))))))

  operating_is : Tests (operating_parameters v) (IsOperating v)
  operating_is =
      meaning (both (eqb (v % 4) 0) (eqb (v / 16) 0) (equal (v % 4) 0) (equal (v / 16) 0))
      (λ b. operating_bits b.0 (omega arith)) joined
    where
      joined : IsOperating v → (v % 4 ≡ 0) × (v / 16 ≡ 0)
      joined (inl e) = (omega arith, omega arith)
      joined (inr (inl e)) = (omega arith, omega arith)
      joined (inr (inr (inl e))) = (omega arith, omega arith)
      joined (inr (inr (inr e))) = (omega arith, omega arith)

all_of_them : (n t v : ℕ)
    → map {B = ℕ × ℕ × ℕ} (λ l. (l.0, l.1, l.2)) (accepted_values n t v) ≡ map (λ r. (index r, sub r, width r)) (those is_rw table)
unfolding table
all_of_them n t v = refl

values : (d : Device) (v : ℕ) → 1 ≤ d.node → d.node ≤ 127 → AcceptEach d v (accepted_values d.node d.settings.profile.range v)
unfolding table lookup
values d v l h =
    (λ _. equal v 0)
    ▸ (λ _. equal v 0x65766173)
    ▸ (λ _. equal v 0x64616F6C)
    ▸ (λ w. emergency_is v d.node h w)
    ▸ (λ _. every)
    ▸ (λ _. every)
    ▸ (λ w. identifier_is v w)
    ▸ (λ _. type_is v)
    ▸ (λ _. every)
    ▸ (λ w. identifier_is v w)
    ▸ (λ _. type_is v)
    ▸ (λ _. every)
    ▸ (λ _. operating_is v)
    ▸ (λ _. between 1000 1000000 v)
    ▸ (λ _. below v d.settings.profile.range)
    ▸ (λ _. between 5000 1000000 v)
    ▸ (λ _. every)
    ▸ tt

-- 1010-1 or 1011-1
abbrev named : Row → Bool
named r = eqb (key r) 0x1010_01 || eqb (key r) 0x1011_01

columns : map (λ r. is_signature (accepted r)) table ≡ map named table
unfolding table
columns = refl

signatures : (r : Row) → Listed r → Tests (is_signature (accepted r)) (HasSignature (key r))
signatures r l =
    let k = key r in
    same (agree (λ q. is_signature (accepted q)) named columns r l)
    (either (eqb k 0x1010_01) (eqb k 0x1011_01) (equal k 0x1010_01) (equal k 0x1011_01))

-- with scaling off
unscaled : (v : ℕ) → Tests (not (bit scaling_bit v)) (v / 4 % 2 ≡ 0)
unscaled v = meaning (neither (bit scaling_bit v) (equal (v / 4 % 2) 1)) (λ n. omega (arith, n)) (λ e f. omega arith)

gone : (d : Device) → Tests (missing d) (d.reading.good ≡ false)
gone d = fails d.reading.good

module _ (p : Pdo) (i k v : ℕ) where
  abbrev held : ℕ
  held = p.identifier

  abbrev Held : Type 0
  Held =
      ((((k ≡ identifier_key_of i) × (held < 0x80000000)) × (v < 0x80000000)) × (v ≡ held → ⊥)) ⊎ ((k ≡ type_key_of i) × (held < 0x80000000))

  apart : Held → HeldBy p (identifier_key_of i) (type_key_of i) k v
  apart (inl (((e, h), l), n)) = (h, inl (e, l, n))
  apart (inr (e, h)) = (h, inr e)

  joined : HeldBy p (identifier_key_of i) (type_key_of i) k v → Held
  joined (h, inl (e, l, n)) = inl (((e, h), l), n)
  joined (h, inr e) = inr (e, h)

  held_is : held < 0x100000000 → v < 0x100000000 → Tests (pdo_barred i p k v) (HeldBy p (identifier_key_of i) (type_key_of i) k v)
  held_is l m =
      let sub1 = eqb k (identifier_key_of i) in
      let sub2 = eqb k (type_key_of i) in
      let is_on_law = switched held l in
      let repeated =
      both (sub1 && on held && on v) (not (eqb v held))
      (both (sub1 && on held) (on v) (both sub1 (on held) (equal k (identifier_key_of i)) is_on_law) (switched v m))
      (neither (eqb v held) (equal v held)) in
      meaning
      (either (sub1 && on held && on v && not (eqb v held)) (sub2 && on held) repeated (both sub2 (on held) (equal k (type_key_of i)) is_on_law))
      apart joined

states : (d : Device) (k v : ℕ) → Words d v → Tests (barred d k v) (Bars d k v)
states d k v w =
    let operating = d.settings.profile.operating in
    let p = d.settings.communication.pdo1 in
    let q = d.settings.communication.pdo2 in
    let scaling = (eqb k range_key || eqb k step_key) && not (bit scaling_bit operating) in
    let preset = eqb k preset_key && missing d in
    meaning
    (either (scaling || preset || pdo_barred tpdo1 p k v) (pdo_barred tpdo2 q k v)
    (either (scaling || preset) (pdo_barred tpdo1 p k v)
    (either scaling preset
    (both (eqb k range_key || eqb k step_key) (not (bit scaling_bit operating))
    (either (eqb k range_key) (eqb k step_key) (equal k range_key) (equal k step_key)) (unscaled operating))
    (both (eqb k preset_key) (missing d) (equal k preset_key) (gone d)))
    (held_is p tpdo1 k v w.pdo1 w.its_value))
    (held_is q tpdo2 k v w.pdo2 w.its_value))
    outward inward
  where
    outward : {A B C D : Type 0} → ((A ⊎ B) ⊎ C) ⊎ D → A ⊎ B ⊎ C ⊎ D
    outward (inl (inl (inl a))) = inl a
    outward (inl (inl (inr b))) = inr (inl b)
    outward (inl (inr c)) = inr (inr (inl c))
    outward (inr d') = inr (inr (inr d'))

    inward : {A B C D : Type 0} → A ⊎ B ⊎ C ⊎ D → ((A ⊎ B) ⊎ C) ⊎ D
    inward (inl a) = inl (inl (inl a))
    inward (inr (inl b)) = inl (inl (inr b))
    inward (inr (inr (inl c))) = inl (inr c)
    inward (inr (inr (inr d'))) = inr d'

-- the code of a value, accepted or not, for a signature or not, forbidden by the state or not
abbrev code : Bool → Bool → Bool → ℕ
code a s b = cond (not a) (cond s wrong_signature invalid_value) (cond b device_state 0)

-- which it is
record Which (a s b : Bool) : Type 0 where
  is_invalid : eqb (code a s b) 0x06090030 ≡ (not a && not s)
  is_wrong : eqb (code a s b) 0x08000020 ≡ (not a && s)
  is_barred : eqb (code a s b) 0x08000022 ≡ (a && b)
  is_free : eqb (code a s b) 0 ≡ (a && not b)

which : (a s b : Bool) → Which a s b
which true s true = record { is_invalid = refl; is_wrong = refl; is_barred = refl; is_free = refl }
which true s false = record { is_invalid = refl; is_wrong = refl; is_barred = refl; is_free = refl }
which false true b = record { is_invalid = refl; is_wrong = refl; is_barred = refl; is_free = refl }
which false false b = record { is_invalid = refl; is_wrong = refl; is_barred = refl; is_free = refl }

-- a code is c exactly if a fact holds
coded_as : {P : Type 0} {t : Bool} (n c : ℕ) → eqb n c ≡ t → Tests t P → (n ≡ c) ↔ P
coded_as n c e h = let x = same e h in (λ f. x.0 ((equal n c).1 f), λ q. (equal n c).0 (x.1 q))

codes : (d : Device) (r : Row) (v : ℕ) → Listed r → Words d v → Coded d r v
unfolding abort_code
codes d r v l w =
    let a = accepts_in d r v in
    let s = is_signature (accepted r) in
    let b = barred d (key r) v in
    let n = code a s b in
    let x = which a s b in
    let signed = signatures r l in
    let stopped = states d (key r) v w in
    let passed : Tests a (a ≡ true) = (λ e. e, λ e. e) in
    record {
      invalid_value_law = coded_as n 0x06090030 x.is_invalid (both (not a) (not s) (fails a) (neither s signed));
      wrong_signature_law = coded_as n 0x08000020 x.is_wrong (both (not a) s (fails a) signed);
      state = coded_as n 0x08000022 x.is_barred (both a b passed stopped);
      free = coded_as n 0 x.is_free (both a (not b) passed (neither b stopped));
    }

pub accepted_laws : AcceptedLaws
accepted_laws = record { all_of_them = all_of_them; values = values; signatures = signatures; states = states; codes = codes }
