-- The head with the parts that a sample changes is what `promises` says, and stays valid.
use Prim.Native.Nat.{ℕ}
use native.Mathlib.Omega.{arith}
use lib.Dec.{eqb}
use Rattle.std.specs.Prelude.{Result, Ok, Err}
use Rattle.can.specs.declared.Refusal.{Refusal}
use Rattle.can.specs.Frame.{number_of}
use mathlib.Core.Path.{◌≡◌, refl, sym, ap, ap₂, subst, ◌∙◌}
use mathlib.Core.Bool.{Bool, true, false, not, ◌&&◌, beq, and-true, and-false, and-not_self, or-true, or-false}
use mathlib.Core.List.{List, []}
use borrow.Author.Tests.{eqb-true}
use Rattle.cases.proofs.Cases.{by}
use Rattle.dictionary.specs.Accepted.{on}
use Rattle.waiting.specs.Line as line
use Rattle.waiting.specs.Line.{places, order, first}
use Rattle.waiting.specs.Places.{Holds}
use Rattle.waiting.specs.Calls.{joins_in, withdraws_in, if_due}
use Rattle.waiting.proofs.Unmoved.{keeps_place, none_taken}
use Rattle.waiting.proofs.Flagged.{withdraws_those}
use Rattle.waiting.proofs.Laws.{laws}
use Rattle.parts.specs.Put.{with_line, with_reading, with_errors}
use Rattle.parts.specs.declared.Core.{Core}
use Rattle.parts.specs.declared.Head.{Head}
use Rattle.parts.specs.declared.Sensor.TheVariants.{Missing, Raw}
use Rattle.promises.specs.States.{is_live, communication, good, missing_reading, pdo}
use Rattle.promises.specs.Timers.{synchronous}
use Rattle.promises.specs.WaitingLine.{Kind, emergency, sdo_reply, heartbeat, tpdo, those, is_alerting, may_stay}
use Rattle.promises.specs.Acts.{take, lose, taking, losing, errors_after, emergency_only, goes, comes, settled_to, act}
use Rattle.promises.specs.Calls.{sample, bad_sample, sampled_as, answered, refusal_by}
use Rattle.promises.specs.Valid.{Valid}
use Rattle.promises.specs.Promised.{Samples}
use Rattle.promises.proofs.KindNumbers.{kind_at}
use Rattle.promises.proofs.Nothing.{act_step, step_nothing}
use Rattle.promises.proofs.Settled.{withdrawn}
use Rattle.promises.proofs.Conditions.{alerts, keeps}
use Rattle.promises.proofs.Valid.{valid_step}
use Rattle.samples.specs.declared.Sampled.{Sampled}
use Rattle.samples.specs.declared.Missed.{Missed}
use Rattle.samples.specs.Samples.{free, found_line, sampled_of, lost_line, one_more_error, missed_of}

alert_goes : (o a : Bool) → ((o && not (beq true a)) && not (o && not (beq false a))) ≡ ((o && true) && not a)
alert_goes true true = refl
alert_goes true false = refl
alert_goes false a = refl

alert_comes : (o a : Bool) → (o && not (beq false a)) ≡ ((o && true) && a)
alert_comes true true = refl
alert_comes true false = refl
alert_comes false a = refl

turned : (a : Bool) → a ≡ not (not (beq true a))
turned true = refl
turned false = refl

module _ (h : Head) (v : Valid h) where
  abbrev c : Core
  c = h.core

  abbrev inhibit : ℕ
  inhibit = c.timers.inhibit

  abbrev can_alert : Bool
  can_alert = free c.nmt (communication c).emergency inhibit

  -- if no kind goes, and the emergency waits already if it may, the line stays
  unmoved : (d : Core) → goes c d ≡ [] → is_alerting d ≡ is_alerting c
      → h.line ≡ joins_in (withdraws_in h.line (goes c d)) (comes emergency_only d)
  unmoved d none m =
      rw (none, m)
      (by (λ (ks : List ℕ). h.line ≡ joins_in h.line ks) (is_alerting c)
      (λ e. sym (keeps_place v.line 1 (omega arith) (omega arith) (v.urgent e)))
      (λ _. refl))

  module _ (raw : ℕ) where
    abbrev found : List ℕ
    found = found_line c.nmt (communication c).emergency inhibit (good c) c.announced h.line

    abbrev Found : List ℕ → Type 0
    Found l = l ≡ joins_in (withdraws_in h.line (goes c (taking c raw))) (comes emergency_only (taking c raw))

    -- only the emergency goes when a missing reading is found
    abbrev goes_found : Kind → Bool
    goes_found emergency = can_alert && c.announced
    goes_found sdo_reply = false
    goes_found heartbeat = false
    goes_found (tpdo w) = false

    found_right : good c ≡ false → (k : Kind) → may_stay c k ≡ true → goes_found k ≡ not (may_stay (taking c raw) k)
    found_right g emergency m = let s = alerts c m in rw (s.lives, s.is_on_law, s.rested) (turned c.announced)
    found_right g sdo_reply m = sym (ap not m)
    found_right g heartbeat m = sym (ap not m)
    found_right g (tpdo w) m = let s = keeps c w m in rw (s.operates, s.is_on_law, or-true (synchronous (pdo (communication c) w)))

    -- good after good, announced as good, announced as missing
    line_found : Found found
    line_found =
        by Found (good c)
        (λ g. unmoved (taking c raw) (rw g (simp and-not_self)) (rw g))
        (λ g.
        rw (← withdrawn h v goes_found (taking c raw) (found_right g))
        (by (λ l. l ≡ joins_in (withdraws_in h.line (those goes_found)) (comes emergency_only (taking c raw))) c.announced
        (λ a. rw a (simp (and-true, and-false)))
        (λ a. rw a (simp (and-true, and-false)))))

    taken : with_line (with_reading h (record { good = true; raw = raw })) found ≡ act false h (take raw)
    unfolding act settled_to
    taken = ap (with_line (with_reading h (record { good = true; raw = raw }))) line_found

    abbrev pub Sampling : Result Sampled Refusal → Type 0
    Sampling (Err r) = Samples h (Raw raw) (answered (number_of r) h)
    Sampling (Ok z) = Samples h (Raw raw) (answered 0 (with_line (with_reading h z.reading) z.line))

    samples_raw :
        Sampling (sampled_of c.nmt (communication c).emergency inhibit (good c) c.announced h.line raw)
    samples_raw =
        by Sampling (bad_sample (Raw raw))
        (λ b.
        let number : 3 ≡ refusal_by (sample (Raw raw)) = rw b in
        (ap₂ answered number (sym (step_nothing h (sample (Raw raw)) refl (rw b) refl)), v))
        (λ b.
        let m : sampled_as (Raw raw) ≡ take raw = rw b in
        let number : 0 ≡ refusal_by (sample (Raw raw)) = rw b in
        let p = taken ∙ sym (ap (act false h) m) ∙ act_step h (sample (Raw raw)) refl in
        (ap₂ answered number p, subst Valid (sym p) (valid_step h (sample (Raw raw)) v)))

    pub samples_so : {z : Result Sampled Refusal}
        → z ≡ sampled_of c.nmt (communication c).emergency inhibit (good c) c.announced h.line raw → Sampling z
    samples_so e = subst Sampling (sym e) samples_raw

  -- those that go when a good reading goes missing
  abbrev gone : Kind → Bool
  gone emergency = can_alert && not c.announced
  gone sdo_reply = false
  gone heartbeat = false
  gone (tpdo w) = not (synchronous (pdo (communication c) w))

  module _ (g : good c ≡ true) where
    alert : (may_stay c emergency && not (may_stay (losing c) emergency)) ≡ (can_alert && not c.announced)
    alert = rw g (alert_goes (is_live c && on (communication c).emergency && eqb inhibit 0) c.announced)

    -- of those that may wait
    lost_right : (k : Kind) → may_stay c k ≡ true → gone k ≡ not (may_stay (losing c) k)
    lost_right emergency m = sym alert ∙ ap (λ t. t && not (may_stay (losing c) emergency)) m
    lost_right sdo_reply m = sym (ap not m)
    lost_right heartbeat m = sym (ap not m)
    lost_right (tpdo w) m = let s = keeps c w m in rw (s.operates, s.is_on_law, or-false (synchronous (pdo (communication c) w)))

    lost_goes : withdraws_in h.line (goes c (losing c)) ≡ withdraws_in h.line (those gone)
    lost_goes = sym (withdrawn h v gone (losing c) lost_right)

    lost_comes : comes emergency_only (losing c) ≡ if_due (can_alert && c.announced) line.emergency
    lost_comes = rw (alert_comes (is_live c && on (communication c).emergency && eqb inhibit 0) c.announced)

    abbrev Lost : List ℕ → Type 0
    Lost l = l ≡ joins_in (withdraws_in h.line (goes c (losing c))) (comes emergency_only (losing c))

    -- where none waits, none goes
    line_lost : Lost (lost_line c.nmt (communication c) inhibit c.announced h.line)
    line_lost =
        let alerts = if_due (can_alert && c.announced) line.emergency in
        rw (lost_goes, lost_comes)
        (by (λ (l : List ℕ). l ≡ joins_in (withdraws_in h.line (those gone)) alerts) (eqb (first h.line) 0)
        (λ z.
        let held : Holds places h.line [] = subst (Holds places h.line) ((laws places).idle v.line (eqb-true _ _ z)) v.line in
        ap (λ l. joins_in l alerts) (sym (none_taken held (those gone))))
        (λ _. ap (λ l. joins_in l alerts) (withdraws_those (λ n. gone (kind_at n)) h.line order)))

  abbrev missed : Missed → Head
  missed z = with_line (with_errors (with_reading h z.reading) z.errors) z.line

  abbrev Missing_left : Missed → Type 0
  Missing_left z = missed z ≡ act false h lose

  lost_now : good c ≡ true
      → Missing_left (record {
        reading = missing_reading;
        errors = one_more_error c.device.errors;
        line = lost_line c.nmt (communication c) inhibit c.announced h.line;
      })
  unfolding act settled_to
  lost_now g =
      let more : one_more_error c.device.errors ≡ errors_after c.device = rw g in
      ap₂ {C = Head} (λ n l. with_line (with_errors (with_reading h missing_reading) n) l) more (line_lost g)

  lost_on : good c ≡ false → Missing_left (record { reading = missing_reading; errors = c.device.errors; line = h.line })
  unfolding act settled_to
  lost_on g =
      let same : c.device.errors ≡ errors_after c.device = rw g in
      ap₂ {C = Head} (λ n l. with_line (with_errors (with_reading h missing_reading) n) l) same
      (unmoved (losing c) (rw g (simp and-not_self)) (rw g))

  pub samples_missing :
      let z = missed_of c.nmt (communication c) inhibit (good c) c.device.errors c.announced h.line in
      Samples h Missing (answered 0 (missed z))
  samples_missing =
      let p = by Missing_left (good c) lost_now lost_on ∙ act_step h (sample Missing) refl in
      (ap (answered 0) p, subst Valid (sym p) (valid_step h (sample Missing) v))
