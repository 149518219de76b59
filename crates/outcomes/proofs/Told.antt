-- Proves `Told` of specs/Told.antt from the demands. Assumes nothing.
use mathlib.Core.Path.{◌≡◌, refl, sym, ap, subst, ◌∙◌}
use mathlib.Core.Logic.{◌↔◌}
use mathlib.Core.Bool.{true, false, not, ◌&&◌, or-true}
use lib.Dec.{eqb}
use borrow.Author.Tests.{eqb-true, eq-eqb, not-true}
use Rattle.cases.proofs.Cases.{both, either}
use mathlib.Core.Option.{some}
use Rattle.position.specs.declared.Profile.{Profile}
use Rattle.dictionary.specs.Shown.{Shown}
use Rattle.std.specs.Prelude.{None as Blank, Some as Number}
use Rattle.parts.specs.declared.Sensor.{Sensor}
use Rattle.parts.specs.declared.Sensor.TheVariants.{Missing, Raw}
use Rattle.entries.specs.declared.Communication.{Communication}
use Rattle.waiting.specs.Line.{places, first}
use Rattle.waiting.specs.Places.{waiting}
use Rattle.waiting.proofs.Laws.{laws}
use Rattle.parts.specs.declared.Head.{Head}
use Rattle.promises.specs.States.{communication, PdoNumber, one, two, pdo}
use Rattle.promises.specs.Timers.{synchronous}
use Rattle.promises.specs.WaitingLine.{tpdo, number}
use Rattle.promises.specs.Calls.{sample}
use Rattle.promises.specs.Valid.{Valid}
use Rattle.promises.specs.Withdrawals.{Withdrawal, loses}
use Rattle.promises.specs.Histories.{after, powered}
use Rattle.promises.specs.Readings.{last_sample, shown_position, profile_of}
use Rattle.promises.proofs.Types.{on_events, events, valid_pdo}
use Rattle.promises.proofs.Histories.{valid_after, valid_powered}
use Rattle.promises.proofs.Demand2.{demand2}
use Rattle.promises.proofs.Demand3.{demand3}
use Rattle.lent.specs.Questions.{number_in, goes_if_missing}
use Rattle.outcomes.specs.Told.{ToldRightly}

blank_by : (p : Profile) (s : Sensor) → ((number_in (some (shown_position p s))).known ≡ false) ↔ (s ≡ Missing)
blank_by p Missing = (λ e. refl, λ e. refl)
blank_by p (Raw r) = (λ e. cc, λ e. cc)

known_by : (x : Shown) → (number_in (some x)).known ≡ true → x ≡ Number (number_in (some x)).position
known_by Blank e = cc
known_by (Number n) e = refl

-- by the first kind and its type
module _ (h : Head) (v : Valid h) where
  abbrev s : Communication
  s = communication h.core

  abbrev Goes : Type 0
  Goes = (w : PdoNumber) × (first (waiting h.line) ≡ number (tpdo w)) × Withdrawal h (sample Missing) (tpdo w)

  goes_first : (w : PdoNumber) → (eqb (first h.line) (number (tpdo w)) && not (synchronous (pdo s w))) ≡ true → Goes
  goes_first w e =
      let u = both (eqb (first h.line) (number (tpdo w))) (not (synchronous (pdo s w))) e in (
        w,
        sym ((laws places).first_of_law v.line) ∙ eqb-true _ _ u.0,
        loses (events (pdo s w) (valid_pdo h.core v.device w) (not-true _ u.1)),
      )

  taken : (w : PdoNumber) → first (waiting h.line) ≡ number (tpdo w) → Withdrawal h (sample Missing) (tpdo w)
      → (eqb (first h.line) (number (tpdo w)) && not (synchronous (pdo s w))) ≡ true
  taken w e (loses t) = rw ((laws places).first_of_law v.line, eq-eqb _ _ e, on_events (pdo s w) t)

  goes_so : (w : PdoNumber) → (eqb (first h.line) (number (tpdo w)) && not (synchronous (pdo s w))) ≡ true → goes_if_missing h ≡ true
  goes_so one e = rw e
  goes_so two e = rw e (or-true (eqb (first h.line) (number (tpdo one)) && not (synchronous (pdo s one))))

  goes : (goes_if_missing h ≡ true) ↔ Goes
  goes = (
    λ e. either (eqb (first h.line) (number (tpdo one)) && not (synchronous (pdo s one)))
        (eqb (first h.line) (number (tpdo two)) && not (synchronous (pdo s two))) e (goes_first one) (goes_first two),
    λ x. goes_so x.0 (taken x.0 x.1 x.2),
  )

pub told_rightly : ToldRightly
told_rightly p cs =
    let h = after (powered p) cs in
    let s = last_sample Missing cs in
    let tells = demand2.tells p cs in
    let shown = shown_position (profile_of h) s in
    let blank = blank_by (profile_of h) s in
    record {
      state = demand2.codes.codes p cs;
      good = tells.is_good_law;
      blank = subst (λ x. ((number_in x).known ≡ false) ↔ (s ≡ Missing)) (sym tells.position) blank;
      position = λ e. tells.position
          ∙ ap some (known_by shown (subst (λ x. (number_in x).known ≡ true) tells.position e))
          ∙ ap (λ x. some (Number (number_in x).position)) (sym tells.position);
      none_waits = demand3.five_slots.none_exactly h (record { start = p; calls = cs; so = refl });
      goes_if_missing_law = goes h (valid_after (powered p) cs (valid_powered p));
    }
