-- Proves `Tells` of specs/Readings.antt: the reading is the last sample taken, and what 6004h, 1001h and 6503h show of it.
use Prim.Native.Nat.{ℕ}
use native.Mathlib.Omega.{arith}
use lib.Dec.{ltb}
use mathlib.Core.Path.{◌≡◌, refl, sym, ap, ap₂, subst, ◌∙◌}
use mathlib.Core.Logic.{◌↔◌}
use mathlib.Core.Bool.{Bool, true, false, not, cond}
use mathlib.Core.List.{List, [], ◌∷◌}
use mathlib.Core.Option.{some}
use borrow.Author.Tests.{eqb-true, leb-false, ltb-false}
use Rattle.cases.proofs.Cases.{by, true_false}
use Rattle.position.specs.declared.Profile.{Profile}
use Rattle.position.specs.Position.{position}
use Rattle.position.specs.Profile.{highest_raw}
use Rattle.names.specs.declared.Transfer.{Transfer}
use Rattle.entries.specs.declared.Device.{Device}
use Rattle.entries.specs.declared.Reading.{Reading}
use Rattle.entries.specs.declared.table.Row.{Row}
use Rattle.entries.specs.declared.table.Accepted.TheVariants.{Nothing}
use Rattle.entries.specs.declared.table.WhenBlank.TheVariants.{Missing as WhileMissing}
use Rattle.entries.specs.declared.table.Source.TheVariants.{Position}
use Rattle.std.specs.Prelude.{Ok as At, None as Blank, Some as Number}
use Rattle.entries.specs.Table.{table, width, lookup}
use Rattle.dictionary.specs.Shown.{Shown}
use Rattle.dictionary.specs.Reads.{shown, reads}
use Rattle.dictionary.specs.Laws.{Shows}
use Rattle.dictionary.proofs.Laws.{shows}
use Rattle.sdo.specs.Request.{top, index_of, sub_of, reading}
use Rattle.sdo.specs.Service.{value, abort, is_blank, number_in, due}
use Rattle.sdo.specs.Upload.{due_in}
use Rattle.sdo.proofs.UploadLaws.{uploads}
use Rattle.parts.specs.declared.Head.{Head}
use Rattle.parts.specs.declared.Sensor.{Sensor}
use Rattle.parts.specs.declared.Sensor.TheVariants.{Missing, Raw}
use Rattle.promises.specs.States.{operational, is_in, good, missing_reading}
use Rattle.promises.specs.Calls.{Call, receive, tick, sample, slot, step}
use Rattle.promises.specs.Valid.{Valid}
use Rattle.promises.specs.Histories.{after, PowerUp, powered}
use Rattle.promises.specs.Service.{reply_due}
use Rattle.promises.specs.Gap.{is_good_sample}
use Rattle.promises.specs.Readings.{reads_in, profile_of, sample_by, last_sample, reading_of, shown_position, shown_register, due_shown, Tells}
use Rattle.promises.proofs.Valid.{valid_step}
use Rattle.promises.proofs.Altered.{Altered, heard, timed, sent, refused, took, lost, restarted, served, carried, altered}
use Rattle.promises.proofs.Histories.{at_power_up, valid_powered}

-- what is due to a read
shown_due : (w : ℕ) (s : Shown) → cond (is_blank s) (abort 0x08000024) (value w (number_in s)) ≡ due_shown w s
shown_due w Blank = refl
shown_due w (Number n) = refl

-- 6004h, of a reading
abbrev pub shown_as : Profile → Reading → Shown
shown_as p r = cond (not r.good) Blank (Number (position p r.raw))

-- what the entries of a device read
module _ (d : Device) (o : Bool) where
  -- its row
  abbrev position_row : Row
  position_row = record { key = 0x6004_00; width = 4; rw = false; accepted = Nothing; blank = WhileMissing; source = Position }

  position_found : lookup 0x6004 0 ≡ At position_row
  unfolding table lookup
  position_found = refl

  position_there : (shown d o position_row ≡ shown_as d.settings.profile d.reading) × (width position_row ≡ 4)
  unfolding table shown
  position_there = (refl, refl)

  pub position_shown : reads d o 0x6004 0 ≡ some (shown_as d.settings.profile d.reading)
  position_shown = shows d o 0x6004 0 position_found position_there.0

  registers_shown : let register : Shown = Number (cond (not d.reading.good) 1 0) in Shows d o 0x1001 0 register × Shows d o 0x6503 0 register
  unfolding table lookup shown
  registers_shown = (shows d o 0x1001 0 refl refl, shows d o 0x6503 0 refl refl)

  -- a read is no segment request
  pub read_due_law : (t : Transfer) (f : List ℕ) (u : Row) → reading f ≡ true → lookup (index_of f) (sub_of f) ≡ At u
      → due_in d o t f ≡ due_shown (width u) (shown d o u)
  unfolding due
  read_due_law t f u r q =
      (uploads d o t f).other (λ s. omega (arith, eqb-true (top f) 2 r))
      ∙ rw (q, eqb-true (top f) 2 r) (shown_due (width u) (shown d o u))

  position_due : (t : Transfer) (f : List ℕ) → reading f ≡ true → index_of f ≡ 0x6004 → sub_of f ≡ 0
      → due_in d o t f ≡ due_shown 4 (shown_as d.settings.profile d.reading)
  position_due t f r i j = read_due_law t f position_row r (rw (i, j) position_found) ∙ rw (position_there.1, position_there.0)

-- by the sample whose reading it is
by_sample : (p : Profile) (s : Sensor) → shown_as p (reading_of s) ≡ shown_position p s
by_sample p Missing = refl
by_sample p (Raw r) = refl

register_by : (s : Sensor) → Number (cond (not (reading_of s).good) 1 0) ≡ shown_register s
register_by Missing = refl
register_by (Raw r) = refl

good_by : (s : Sensor) → ((reading_of s).good ≡ true) ↔ ((r : ℕ) × (s ≡ Raw r))
good_by Missing = (λ e. true_false (sym e), λ x. ap (λ t. (reading_of t).good) x.1)
good_by (Raw r) = (λ e. (r, refl), λ x. refl)

blank_by : (p : Profile) (s : Sensor) → (some (shown_position p s) ≡ some Blank) ↔ (s ≡ Missing)
blank_by p Missing = (λ _. refl, λ _. refl)
blank_by p (Raw r) = (λ e. absurd (let z : ◌≡◌ {A = ℕ} 0 1 = cc in omega arith), λ e. absurd (let z : ◌≡◌ {A = ℕ} 0 1 = cc in omega arith))

reading_by : (h : Head) (s : Sensor) (c : Call) (d : Device) → h.core.device.reading ≡ reading_of s → Altered h c d
    → d.reading ≡ reading_of (sample_by s c)
reading_by h s _ _ e (heard f) = e
reading_by h s _ _ e timed = e
reading_by h s _ _ e sent = e
reading_by h s _ _ e (refused r b) = e ∙ ap (λ (t : Bool). reading_of (cond t s (Raw r))) (sym b)
reading_by h s _ _ e (took r b) = ap (λ (t : Bool). reading_of (cond t s (Raw r))) (sym b)
reading_by h s _ _ e lost = refl
reading_by h s _ _ e (restarted f r x) = e
reading_by h s _ _ e (served f x) = (carried h.core.device (reply_due h f).effect).1 ∙ e

pub reading_step : (h : Head) → Valid h → (s : Sensor) (c : Call) → h.core.device.reading ≡ reading_of s
    → (step h c).core.device.reading ≡ reading_of (sample_by s c)
reading_step h v s c e = reading_by h s c (step h c).core.device e (altered h v c)

reading_after : (cs : List Call) (h : Head) (s : Sensor) → Valid h → h.core.device.reading ≡ reading_of s
    → (after h cs).core.device.reading ≡ reading_of (last_sample s cs)
reading_after [] h s v e = e
reading_after (c ∷ cs) h s v e = reading_after cs (step h c) (sample_by s c) (valid_step h c v) (reading_step h v s c e)

-- a missing reading stays missing until a good sample
still_missing : (c : Call) → is_good_sample c ≡ false → (reading_of (sample_by Missing c)).good ≡ false
still_missing (receive f) e = refl
still_missing tick e = refl
still_missing (sample Missing) e = refl
still_missing (sample (Raw r)) e =
    by (λ (s : Sensor). (reading_of s).good ≡ false) (ltb highest_raw r) (λ _. refl)
    (λ t. absurd (omega (arith, leb-false r highest_raw e, ltb-false highest_raw r t)))
still_missing slot e = refl

pub stays_missing : (h : Head) → Valid h → (c : Call) → is_good_sample c ≡ false → good h.core ≡ false → good (step h c).core ≡ false
stays_missing h v c e g =
    let missing : h.core.device.reading ≡ missing_reading =
    ap₂ {C = Reading} (λ b r. record { good = b; raw = r }) g (v.device.raw_missing g) in
    ap (λ (r : Reading). r.good) (reading_step h v Missing c missing) ∙ still_missing c e

-- at power-up the reading is missing
pub reading_powered : (p : PowerUp) → (powered p).core.device.reading ≡ missing_reading
reading_powered = at_power_up (λ h. h.core.device.reading ≡ missing_reading) (λ _ _. refl)

tells_of : (h : Head) (s : Sensor) → h.core.device.reading ≡ reading_of s → Tells h s
tells_of h s e =
    let d = h.core.device in
    let o = is_in operational h.core in
    let shown : shown_as (profile_of h) d.reading ≡ shown_position (profile_of h) s =
    ap (shown_as (profile_of h)) e ∙ by_sample (profile_of h) s in
    let register : Number (cond (not d.reading.good) 1 0) ≡ shown_register s =
    ap (λ (r : Reading). Number (cond (not r.good) 1 0)) e ∙ register_by s in
    let reads_it : reads_in h 0x6004 0 ≡ some (shown_position (profile_of h) s) = position_shown d o ∙ ap some shown in
    let blank = blank_by (profile_of h) s in
    record {
      reading_is = e;
      is_good_law = subst (λ (r : Reading). (r.good ≡ true) ↔ ((n : ℕ) × (s ≡ Raw n))) (sym e) (good_by s);
      position = reads_it;
      blank = (λ b. blank.0 (sym reads_it ∙ b), λ m. reads_it ∙ blank.1 m);
      register = (registers_shown d o).0 ∙ ap some register;
      status = (registers_shown d o).1 ∙ ap some register;
      asked = λ f r i j. position_due d o h.transfer f.bytes r i j ∙ ap (due_shown 4) shown;
    }

pub tells : (p : PowerUp) (cs : List Call) → Tells (after (powered p) cs) (last_sample Missing cs)
tells p cs =
    tells_of (after (powered p) cs) (last_sample Missing cs) (reading_after cs (powered p) Missing (valid_powered p) (reading_powered p))
