-- An accepted write keeps a device valid: one fact for each rw row of the table, in its order. Assumes nothing.
use Prim.Native.Nat.{ℕ, suc, ◌/◌, ◌%◌, ◌^◌, ◌≤◌, ◌<◌}
use native.Mathlib.Omega.{arith}
use mathlib.Core.Path.{◌≡◌, sym, ◌∙◌}
use mathlib.Core.Bool.{true, false, not, ◌&&◌, ◌||◌}
use lib.Dec.{eqb, leb}
use borrow.Author.Tests.{ltb-true, leb-true, eqb-true, eq-eqb, not-false}
use Rattle.cases.specs.Tests.{within}
use Rattle.cases.proofs.Cases.{true_false, by, both, neither, Each, ◌▸◌, end}
use Rattle.position.specs.declared.Profile.{Profile}
use Rattle.position.specs.Position.{bit, scaling_bit}
use Rattle.position.specs.Profile.{full_range, scaled_range, ValidProfile}
use Rattle.position.proofs.Laws.{laws}
use Rattle.entries.specs.declared.Pdo.{Pdo}
use Rattle.entries.specs.declared.Communication.{Communication}
use Rattle.entries.specs.declared.Settings.{Settings}
use Rattle.entries.specs.declared.Device.{Device}
use Rattle.entries.specs.declared.table.Row.{Row}
use Rattle.entries.specs.Settings.{pdo}
use Rattle.entries.specs.Table.{table, key, width, is_rw, accepted}
use Rattle.entries.specs.Keys.{error_count_key, save_key, load_key, range_key, preset_key, step_key}
use Rattle.dictionary.specs.Accepted.{emergency_identifier, pdo_identifier, transmission_type, operating_parameters, accepts}
use Rattle.dictionary.specs.Accepted.{accepts_in}
use Rattle.dictionary.specs.Writes.{own_key, range_for, rescaled_to, written, Fits, put}
use Rattle.dictionary.specs.Valid.{ValidPdo, ValidCommunication, ValidSettings, ValidDevice}
use Rattle.dictionary.specs.Laws.{Takes}
use Rattle.dictionary.specs.AcceptedLaws.{those}
use Rattle.dictionary.proofs.Accepted.{taken}
use Rattle.dictionary.proofs.Own.{own_preset}
use Rattle.dictionary.proofs.Those.{of_each}
use Rattle.dictionary.proofs.Factory.{factory_valid}

-- a number of that length is one of its type
up_to : {v b : ℕ} → v < suc b → v ≤ b
up_to h = omega arith

-- with one number of a PDO written
module _ {p : Pdo} (v : ℕ) (h : ValidPdo p) where
  identifier_is : pdo_identifier v ≡ true → v < 256 ^ 4 → ValidPdo (pdo v p.transmission p.event)
  identifier_is a l = record { identifier = a; identifier_fits = up_to l; transmission = h.transmission; event = h.event }

  transmission_is : transmission_type v ≡ true → ValidPdo (pdo p.identifier v p.event)
  transmission_is a = record { identifier = h.identifier; identifier_fits = h.identifier_fits; transmission = a; event = h.event }

  event_is : v < 256 ^ 2 → ValidPdo (pdo p.identifier p.transmission v)
  event_is l = record { identifier = h.identifier; identifier_fits = h.identifier_fits; transmission = h.transmission; event = up_to l }

-- with some of the settings written
abbrev settings : ℕ → ℕ → ℕ → Pdo → Pdo → Profile → Settings
settings e i b p q f =
    record { communication = record { emergency = e; inhibit = i; heartbeat = b; pdo1 = p; pdo2 = q }; profile = f }

module _ {n : ℕ} {s : Settings} (h : ValidSettings n s) where
  abbrev c : Communication
  c = s.communication

  k : ValidCommunication n c
  k = h.communication

  emergency_is : (v : ℕ) → emergency_identifier n v ≡ true → v < 256 ^ 4
      → ValidSettings n (settings v c.inhibit c.heartbeat c.pdo1 c.pdo2 s.profile)
  emergency_is v a l =
      record {
        communication = record {
          emergency = a;
          emergency_fits = up_to l;
          inhibit = k.inhibit;
          heartbeat = k.heartbeat;
          pdo1 = k.pdo1;
          pdo2 = k.pdo2;
        };
        profile = h.profile;
      }

  times_are : (i b : ℕ) → i ≤ 0xFFFF → b ≤ 0xFFFF → ValidSettings n (settings c.emergency i b c.pdo1 c.pdo2 s.profile)
  times_are i b l m =
      record {
        communication = record {
          emergency = k.emergency;
          emergency_fits = k.emergency_fits;
          inhibit = l;
          heartbeat = m;
          pdo1 = k.pdo1;
          pdo2 = k.pdo2;
        };
        profile = h.profile;
      }

  pdos_are : {p q : Pdo} → ValidPdo p → ValidPdo q → ValidSettings n (settings c.emergency c.inhibit c.heartbeat p q s.profile)
  pdos_are l m =
      record {
        communication = record {
          emergency = k.emergency;
          emergency_fits = k.emergency_fits;
          inhibit = k.inhibit;
          heartbeat = k.heartbeat;
          pdo1 = l;
          pdo2 = m;
        };
        profile = h.profile;
      }

  profile_is : {f : Profile} → ValidProfile f → ValidSettings n (record { communication = c; profile = f })
  profile_is l = record { communication = k; profile = l }

-- with 6003h and the offset 0
rescaled_is : (o t s : ℕ) → o % 4 ≡ 0 → o < 16 → 1000 ≤ t → t ≤ full_range → (bit scaling_bit o ≡ false → t ≡ full_range)
    → (bit scaling_bit o ≡ true → t ≤ scaled_range)
    → 5000 ≤ s → s ≤ 1000000 → ValidProfile (rescaled_to o t s)
rescaled_is o t s e b l m f g i j =
    record {
      bits_low = e;
      bits_high = b;
      low = l;
      high = m;
      full = f;
      scaled = g;
      preset = omega arith;
      step_low = i;
      step_high = j;
      offset = omega arith;
    }

module _ {p : Profile} (v : ℕ) (h : ValidProfile p) where
  operating_is : operating_parameters v ≡ true → ValidProfile (rescaled_to v (range_for v) p.step)
  operating_is a =
      let bits = both (eqb (v % 4) 0) (eqb (v / 16) 0) a in
      let high = eqb-true (v / 16) 0 bits.1 in
      rescaled_is v (range_for v) p.step (eqb-true _ _ bits.0) (omega arith)
      (by (λ t. 1000 ≤ t) (bit scaling_bit v) (λ _. omega arith) (λ _. omega arith))
      (by (λ t. t ≤ full_range) (bit scaling_bit v) (λ _. omega arith) (λ _. omega arith))
      (λ e. rw e) (λ e. rw e (omega arith)) h.step_low h.step_high

  range_is : within 1000 1000000 v ≡ true → not (bit scaling_bit p.operating) ≡ false
      → ValidProfile (rescaled_to p.operating v p.step)
  range_is a s =
      let bounds = both (leb 1000 v) (leb v 1000000) a in
      let low = leb-true _ _ bounds.0 in
      let high = leb-true _ _ bounds.1 in
      let on = not-false _ s in
      rescaled_is p.operating v p.step h.bits_low h.bits_high low (omega arith) (λ e. true_false (sym on ∙ e))
      (λ _. high) h.step_low h.step_high

  step_is : within 5000 1000000 v ≡ true → ValidProfile (rescaled_to p.operating p.range v)
  step_is a =
      let bounds = both (leb 5000 v) (leb v 1000000) a in
      rescaled_is p.operating p.range v h.bits_low h.bits_high h.low h.high h.full h.scaled
      (leb-true _ _ bounds.0) (leb-true _ _ bounds.1)

-- what is known of v where the entry of a row takes it
record Taken (d : Device) (r : Row) (v : ℕ) : Type 0 where
  long : v < 256 ^ width r
  accepted : accepts_in d r v ≡ true
  -- it is not 6002h or 6005h with scaling off
  scaling : ((eqb (key r) range_key || eqb (key r) step_key) && not (bit scaling_bit d.settings.profile.operating)) ≡ false

Keeps : Row → Type 0
Keeps r =
    (d : Device) (v : ℕ) → Taken d r v → ValidSettings d.node d.settings → ValidSettings d.node (written d (key r) v).settings

keeps : Each Keeps (those is_rw table)
unfolding Keeps table put
keeps =
    (λ d v t h. h)
    ▸ (λ d v t h. h)
    ▸ (λ d v t h. h)
    ▸ (λ d v t h. emergency_is h v t.accepted t.long)
    ▸ (λ d v t h. times_are h v _ (up_to t.long) h.communication.heartbeat)
    ▸ (λ d v t h. times_are h _ v h.communication.inhibit (up_to t.long))
    ▸ (λ d v t h. pdos_are h (identifier_is v h.communication.pdo1 t.accepted t.long) h.communication.pdo2)
    ▸ (λ d v t h. pdos_are h (transmission_is v h.communication.pdo1 t.accepted) h.communication.pdo2)
    ▸ (λ d v t h. pdos_are h (event_is v h.communication.pdo1 t.long) h.communication.pdo2)
    ▸ (λ d v t h. pdos_are h h.communication.pdo1 (identifier_is v h.communication.pdo2 t.accepted t.long))
    ▸ (λ d v t h. pdos_are h h.communication.pdo1 (transmission_is v h.communication.pdo2 t.accepted))
    ▸ (λ d v t h. pdos_are h h.communication.pdo1 (event_is v h.communication.pdo2 t.long))
    ▸ (λ d v t h. profile_is h (operating_is v h.profile t.accepted))
    ▸ (λ d v t h. profile_is h (range_is v h.profile t.accepted t.scaling))
    ▸ (λ d v t h. profile_is h (laws.presets d.settings.profile d.reading.raw v h.profile (ltb-true _ _ t.accepted)).valid)
    ▸ (λ d v t h. profile_is h (step_is v h.profile t.accepted))
    ▸ (λ d v t h. pdos_are h (event_is v h.communication.pdo1 t.long) h.communication.pdo2)
    ▸ end

-- 6003h is below 6002h
Below : Row → Type 0
Below r = (n t v : ℕ) → accepts (accepted r) n t v ≡ true → v < t

below : Each Below (those (λ r. eqb (key r) preset_key) table)
unfolding Below table
below = (λ n t v a. ltb-true v t a) ▸ end

module _ (d : Device) (r : Row) (v : ℕ) (t : Takes d r v) where
  known : Taken d r v
  known =
      let k = key r in
      let scaling = (eqb k range_key || eqb k step_key) && not (bit scaling_bit d.settings.profile.operating) in
      let u = taken d r v t.unaborted in
      record { long = t.long; accepted = u.0; scaling = (neither scaling _ (neither _ _ (neither _ _ u.1).0).0).0 }

  pub written_fits : Fits d.settings.profile (own_key (key r)) v
  unfolding Below
  written_fits e =
      of_each Below (λ q. eqb (key q) preset_key) below r t.listed (eq-eqb _ _ (own_preset (key r) e)) d.node
      d.settings.profile.range v known.accepted

  pub written_valid : ValidDevice d → ValidDevice (written d (key r) v)
  unfolding Keeps put
  written_valid h =
      let k = own_key (key r) in
      record {
        node_low = h.node_low;
        node_high = h.node_high;
        identity = h.identity;
        raw = h.raw;
        raw_missing = h.raw_missing;
        errors = by (λ n. n ≤ 4) (eqb k error_count_key) (λ _. omega arith) (λ _. h.errors);
        settings = of_each Keeps is_rw keeps r t.listed t.writable d v known h.settings;
        saved =
            by (ValidSettings d.node) (eqb k save_key) (λ _. h.settings)
            (λ _. by (ValidSettings d.node) (eqb k load_key) (λ _. factory_valid d.node h.node_low h.node_high) (λ _. h.saved));
      }
