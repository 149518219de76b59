-- Proves `ErrorList` of specs/ErrorList.antt: 1003-0 counts the good-to-missing changes since the list was last emptied, at most 4.
use Prim.Native.Nat.{ℕ, zero, suc, ◌≤◌, min}
use native.Mathlib.Omega.{arith}
use lib.Dec.{ltb}
use mathlib.Core.Path.{◌≡◌, refl, sym, ap, ◌∙◌}
use mathlib.Core.Logic.{◌↔◌}
use mathlib.Core.Bool.{Bool, true, false, ◌&&◌, cond}
use mathlib.Core.List.{List, [], ◌∷◌}
use mathlib.Core.Option.{some}
use borrow.Author.Tests.{eqb-true, eq-eqb, ltb-true, ltb-false}
use Rattle.cases.proofs.Cases.{by, test, both}
use Rattle.can.specs.declared.Received.{Received}
use Rattle.entries.specs.declared.Device.{Device}
use Rattle.entries.specs.declared.Reading.{Reading}
use Rattle.entries.specs.Table.{table, lookup}
use Rattle.entries.specs.Keys.{error_count_key}
use Rattle.std.specs.Prelude.{Some as Number}
use Rattle.dictionary.specs.Reads.{shown}
use Rattle.dictionary.specs.Writes.{written, put}
use Rattle.dictionary.specs.Laws.{Shows}
use Rattle.dictionary.proofs.ReadBack.{emptied}
use Rattle.dictionary.proofs.Laws.{shows}
use Rattle.dictionary.proofs.Own.{own_other}
use Rattle.sdo.specs.Reply.{carried_out}
use Rattle.sdo.specs.Service.{Due, none, value, confirmation, abort, upload, answer}
use Rattle.parts.specs.declared.Head.{Head}
use Rattle.parts.specs.declared.Sensor.{Sensor}
use Rattle.parts.specs.declared.Sensor.TheVariants.{Missing, Raw}
use Rattle.promises.specs.States.{operational, is_in}
use Rattle.promises.specs.Calls.{Call, receive, tick, sample, slot, step}
use Rattle.promises.specs.Valid.{Valid}
use Rattle.promises.specs.Meant.{due_to, Writes}
use Rattle.promises.specs.Histories.{after, PowerUp, powered}
use Rattle.promises.specs.Service.{is_request, confirms}
use Rattle.promises.specs.Readings.{sample_by, reading_of}
use Rattle.promises.specs.ErrorList.{is_count, empties, losses_by, losses, shown_error, ErrorList}
use Rattle.promises.proofs.Valid.{valid_step}
use Rattle.promises.proofs.Altered.{Altered, heard, timed, sent, refused, took, lost, restarted, served, altered}
use Rattle.promises.proofs.Histories.{at_power_up, valid_powered}
use Rattle.promises.proofs.Service.{is_request_law}
use Rattle.promises.proofs.Tested.{confirmed_by}
use Rattle.promises.proofs.Readings.{reading_step, reading_powered}
use Rattle.promises.proofs.Effects.{told}
use Rattle.promises.proofs.Positions.{written_by}

-- what 1003h reads
module _ (d : Device) (o : Bool) where
  count_shown : Shows d o 0x1003 0 (Number d.errors)
  unfolding table lookup shown
  count_shown = shows d o 0x1003 0 refl refl

  error_shown : (j : ℕ) → 1 ≤ j → j ≤ 4 → Shows d o 0x1003 j (shown_error d.errors j)
  unfolding table lookup shown
  error_shown zero a b = absurd (omega arith)
  error_shown (suc zero) a b = shows d o 0x1003 1 refl refl
  error_shown (suc (suc zero)) a b = shows d o 0x1003 2 refl refl
  error_shown (suc (suc (suc zero))) a b = shows d o 0x1003 3 refl refl
  error_shown (suc (suc (suc (suc zero)))) a b = shows d o 0x1003 4 refl refl
  error_shown (suc (suc (suc (suc (suc j))))) a b = absurd (omega arith)

-- one more, at most 4
counts : (s : Sensor) (e n : ℕ) → e ≡ min 4 n → (h : Head)
    → cond ((reading_of s).good && ltb e 4) (suc e) e ≡ min 4 (losses_by h s n (sample Missing))
counts Missing e n q h = q
counts (Raw r) e n q h =
    by (λ (m : ℕ). m ≡ min 4 (suc n)) (ltb e 4) (λ t. omega (arith, q, ltb-true e 4 t)) (λ t. omega (arith, q, ltb-false e 4 t))

-- only a write to 1003-0 empties the list
errors_due : (d : Device) (f : List ℕ) (y : Due) → confirms is_count y ≡ false → (carried_out d (answer f y).effect).errors ≡ d.errors
unfolding put
errors_due d f none n = refl
errors_due d f (value w x) n = refl
errors_due d f (confirmation k v) n = rw (own_other k error_count_key refl refl, n)
errors_due d f (abort c) n = refl
errors_due d f (upload b t) n = refl

emptied_errors : (d : Device) (v : ℕ) → (written d error_count_key v).errors ≡ 0
unfolding put
emptied_errors d v = refl

module _ (h : Head) (f : Received) where
  -- what is written there is 0
  is_emptied : (empties h f ≡ true) ↔ Writes h f error_count_key 0
  is_emptied = (as_write, λ w. rw ((is_request_law h f).1 w.requests, w.accepted))
    where
      as_write : empties h f ≡ true → Writes h f error_count_key 0
      as_write e =
          let u = both (is_request h f) (confirms is_count (due_to h f)) e in
          let x = confirmed_by is_count (due_to h f) u.1 in
          let y : (v : ℕ) × (due_to h f ≡ confirmation error_count_key v) =
          (x.1, x.3 ∙ ap (λ (k : ℕ). confirmation k x.1) (eqb-true x.0 error_count_key x.2)) in
          let c = told h f y.1 in
          let zero : y.0 ≡ 0 =
          emptied h.core.device (is_in operational h.core) c.its_row y.0 c.takes (eq-eqb _ _ (sym c.key)) in
          record { requests = (is_request_law h f).0 u.0; accepted = y.1 ∙ ap (λ (v : ℕ). confirmation error_count_key v) zero }

module _ (h : Head) (s : Sensor) (n : ℕ) (p : h.core.device.reading ≡ reading_of s) (q : h.core.device.errors ≡ min 4 n) where
  abbrev Unemptied : Call → Type 0
  Unemptied (receive f) = empties h f ≡ false
  Unemptied tick = Unit {0}
  Unemptied (sample t) = Unit {0}
  Unemptied slot = Unit {0}

  counts_on : {t u : Bool} → t ≡ u → min 4 (cond u 0 n) ≡ min 4 (cond t 0 n)
  counts_on e = ap (λ (t : Bool). min 4 (cond t 0 n)) (sym e)

  errors_by : (c : Call) (d : Device) → Altered h c d → Unemptied c → d.errors ≡ min 4 (losses_by h s n c)
  errors_by _ _ (heard f) e = q ∙ counts_on e
  errors_by _ _ timed e = q
  errors_by _ _ sent e = q
  errors_by _ _ (refused r b) e = q
  errors_by _ _ (took r b) e = q
  errors_by _ _ lost e =
      let m = h.core.device.errors in
      ap (λ (r : Reading). cond (r.good && ltb m 4) (suc m) m) p ∙ counts s m n q h
  errors_by _ _ (restarted f r x) e = q ∙ counts_on e
  errors_by _ _ (served f x) e = errors_due h.core.device f.bytes (due_to h f) (rw ((is_request_law h f).1 x) at e) ∙ q ∙ counts_on e

  errors_step : Valid h → (c : Call) → (step h c).core.device.errors ≡ min 4 (losses_by h s n c)
  errors_step v (receive f) =
      test (empties h f)
      (λ e. ap (λ (d : Device). d.errors) (written_by h v ((is_emptied h f).0 e)) ∙ emptied_errors h.core.device 0 ∙ counts_on e)
      (errors_by (receive f) _ (altered h v (receive f)))
  errors_step v tick = errors_by tick _ (altered h v tick) tt
  errors_step v (sample t) = errors_by (sample t) _ (altered h v (sample t)) tt
  errors_step v slot = errors_by slot _ (altered h v slot) tt

errors_after_law : (cs : List Call) (h : Head) (s : Sensor) (n : ℕ) → Valid h → h.core.device.reading ≡ reading_of s
    → h.core.device.errors ≡ min 4 n
    → (after h cs).core.device.errors ≡ min 4 (losses h s n cs)
errors_after_law [] h s n v p q = q
errors_after_law (c ∷ cs) h s n v p q =
    errors_after_law cs (step h c) (sample_by s c) (losses_by h s n c) (valid_step h c v) (reading_step h v s c p) (errors_step h s n p q v c)

none_lost : (p : PowerUp) → (powered p).core.device.errors ≡ 0
none_lost = at_power_up (λ h. h.core.device.errors ≡ 0) (λ _ _. refl)

pub error_list : (p : PowerUp) (cs : List Call) → ErrorList p cs
error_list p cs =
    let h = after (powered p) cs in
    let d = h.core.device in
    let o = is_in operational h.core in
    let e : d.errors ≡ min 4 (losses (powered p) Missing 0 cs) =
    errors_after_law cs (powered p) Missing 0 (valid_powered p) (reading_powered p) (none_lost p) in
    record {
      count = count_shown d o ∙ ap (λ (n : ℕ). some (Number n)) e;
      error = λ j a b. error_shown d o j a b ∙ ap (λ (n : ℕ). some (shown_error n j)) e;
      emptied = is_emptied h;
    }
