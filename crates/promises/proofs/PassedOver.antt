-- Proves `PassedOver` of specs/PassedOver.antt.
use Prim.Native.Nat.{ℕ, suc, ◌%◌}
use native.Mathlib.Nat.{suc-mod, zero-mod}
use mathlib.Core.Path.{◌≡◌, refl, sym, ap, ◌∙◌}
use mathlib.Core.Logic.{◌↔◌}
use mathlib.Core.Bool.{Bool, true, false, ◌&&◌, and-false, and-not_self, or-true}
use mathlib.Core.List.{List, [], ◌∷◌, ◌++◌}
use Rattle.cases.proofs.Cases.{by, by₂, test, true_false}
use Rattle.can.specs.declared.Received.{Received}
use Rattle.can.specs.Number.{low_first}
use Rattle.entries.specs.declared.Reading.{Reading}
use Rattle.parts.specs.declared.Head.{Head}
use Rattle.parts.specs.declared.Sensor.{Sensor}
use Rattle.parts.specs.declared.Sensor.TheVariants.{Missing, Raw}
use Rattle.promises.specs.States.{good, PdoNumber, fixed_for}
use Rattle.promises.specs.Timers.{OnEvents, OnSyncs}
use Rattle.promises.specs.WaitingLine.{tpdo, may_stay, may_join, present, carried, frame, frame_of}
use Rattle.promises.specs.Acts.{sync, fixes_now, acted, moments_of}
use Rattle.promises.specs.Calls.{Call, receive, tick, step}
use Rattle.promises.specs.Valid.{waits, Valid}
use Rattle.promises.specs.Histories.{after, PowerUp, powered}
use Rattle.promises.specs.Readings.{last_sample, reading_of}
use Rattle.promises.specs.Meant.{Synchronises}
use Rattle.promises.specs.Moments.{count_by, since, pdo_of, Ready, EachOf, Begins, Counts, counts_after, Moments}
use Rattle.promises.specs.Moments.{ticks_anew, tick_counts, syncs_anew, synchronises}
use Rattle.promises.specs.Moments as moments
use Rattle.promises.specs.PassedOver.{Due, enters, elapses, syncs, PassedOver}
use Rattle.promises.proofs.Waits.{waits_act}
use Rattle.promises.proofs.Meant.{core_step}
use Rattle.promises.proofs.Conditions.{keeps}
use Rattle.promises.proofs.Types.{on_events, no_both}
use Rattle.promises.proofs.Fixed.{fixed_by}
use Rattle.promises.proofs.Histories.{valid_after, valid_powered}
use Rattle.promises.proofs.Readings.{tells}
use Rattle.promises.proofs.Tested.{is_entry_law, is_sync_law, synchronised}
use Rattle.promises.proofs.Moments.{moments_so}

pub since_append : (anew counts : Head → Call → Bool) (xs : List Call) (h : Head) (ys : List Call) (n : ℕ)
    → since anew counts h (xs ++ ys) n ≡ since anew counts (after h xs) ys (since anew counts h xs n)
since_append anew counts [] h ys n = refl
since_append anew counts (x ∷ xs) h ys n = since_append anew counts xs (step h x) ys (count_by anew counts h x n)

-- two counts with the same remainder modulo the period
module _ (period : ℕ) where
  abbrev Like : ℕ → ℕ → Type 0
  Like m n = m % period ≡ n % period

  like_next : (m n : ℕ) → Like m n → Like (suc m) (suc n)
  like_next m n e = suc-mod m period ∙ ap (λ x. suc x % period) e ∙ sym (suc-mod n period)

  falls : (m n : ℕ) → Like m n → EachOf period m → EachOf period n
  falls m n e x = record { some = x.some; turn = sym (like_next m n e) ∙ x.turn }

  like_falls : (m n : ℕ) → Like m n → EachOf period m ↔ EachOf period n
  like_falls m n e = (falls m n e, falls n m (sym e))

  module _ (anew counts : Head → Call → Bool) where
    like_since : (cs : List Call) (h : Head) (m n : ℕ) → Like m n → Like (since anew counts h cs m) (since anew counts h cs n)
    like_since [] h m n e = e
    like_since (x ∷ cs) h m n e =
        like_since cs (step h x) _ _
        (by₂ Like (anew h x) (λ _. refl) (λ _. by₂ Like (counts h x) (λ _. like_next m n e) (λ _. e)))

    -- a call that brings the count to a multiple, or restarts it
    like_anew : (h : Head) (x : Call) (n : ℕ) → counts h x ≡ true → EachOf period n → Like (count_by anew counts h x n) 0
    like_anew h x n c e =
        by (λ m. Like m 0) (anew h x) (λ _. refl) (λ _. rw c (e.turn ∙ sym (zero-mod period)))

    counted_on_law : (xs : List Call) (h : Head) (x : Call) (ds : List Call) (n : ℕ)
        → Like (count_by anew counts (after h xs) x (since anew counts h xs n)) 0
        → EachOf period (since anew counts h (xs ++ x ∷ ds) n) ↔ EachOf period (since anew counts (step (after h xs) x) ds 0)
    counted_on_law xs h x ds n e =
        rw (since_append anew counts xs h (x ∷ ds) n) (like_falls _ _ (like_since ds (step (after h xs) x) _ 0 e))

pub a_sample : (s : Sensor) → (reading_of s).good ≡ true → (r : ℕ) × (s ≡ Raw r)
a_sample Missing e = true_false (sym e)
a_sample (Raw r) e = (r, refl)

module _ (p : PowerUp) (cs : List Call) where
  abbrev h : Head
  h = after (powered p) cs

  abbrev n : Counts
  n = counts_after p cs

  v : Valid h
  v = valid_after (powered p) cs (valid_powered p)

  pub is_good_law : good h.core ≡ (reading_of (last_sample Missing cs)).good
  is_good_law = ap (λ (r : Reading). r.good) (tells p cs).reading_is

  begins : {c : Call} {w : PdoNumber} → Due h n c w → Ready h w → Begins h n c (tpdo w)
  begins (enters m o t) r = moments.enters m o r t
  begins (elapses o t e) r = moments.elapses o r t e
  begins (syncs s t e) r = moments.syncs s r t e

  due : {c : Call} {w : PdoNumber} → Begins h n c (tpdo w) → Due h n c w × Ready h w
  due (moments.enters m o r t) = (enters m o t, r)
  due (moments.elapses o r t e) = (elapses o t e, r)
  due (moments.syncs s r t e) = (syncs s t e, r)

  lost : last_sample Missing cs ≡ Missing → good h.core ≡ false
  lost e = is_good_law ∙ ap (λ s. (reading_of s).good) e

  -- a SYNC withdraws no PDO
  waits_on : (f : Received) (w : PdoNumber) → Synchronises h f → waits h (tpdo w) ≡ true → waits (step h (receive f)) (tpdo w) ≡ true
  waits_on f w s y =
      rw (synchronised h f s, waits_act false h sync v (tpdo w), and-not_self (may_stay h.core (tpdo w)), y)
      (or-true (moments_of h.core sync (tpdo w) && may_join (acted h.core sync) (tpdo w)))

  -- nor does it fix a position while the reading is missing
  same : (f : Received) (w : PdoNumber) → Synchronises h f → good h.core ≡ false
      → frame_of (step h (receive f)).core (tpdo w) ≡ frame_of h.core (tpdo w)
  same f w s g =
      let c = h.core in
      let none : fixes_now c w ≡ false = rw g (simp and-false) in
      let kept : fixed_for (acted c sync).fixed w ≡ fixed_for c.fixed w = fixed_by c w ∙ rw none in
      ap (λ x. frame_of x (tpdo w)) (core_step h (receive f) ∙ ap (acted c) (synchronised h f s))
      ∙ ap (λ x. let p = pdo_of h w in frame p.identifier 4 (low_first 4 (carried p (present c) x))) kept

  -- of types 254 and 255 none waits while the reading is missing
  waits_through : {c : Call} {w : PdoNumber} → Due h n c w → good h.core ≡ false → waits h (tpdo w) ≡ true
      → (waits (step h c) (tpdo w) ≡ true) × (frame_of (step h c).core (tpdo w) ≡ frame_of h.core (tpdo w))
  waits_through {c} {w} (enters m o t) g y = true_false (sym (keeps h.core w (v.only (tpdo w) y)).operates ∙ o)
  waits_through {c} {w} (elapses o t e) g y =
      true_false (sym (keeps h.core w (v.only (tpdo w) y)).lasts ∙ rw (on_events (pdo_of h w) t, g))
  waits_through {c} {w} (syncs {f} s t e) g y = (waits_on f w s y, same f w s g)

  passes : (c : Call) (w : PdoNumber) → Due h n c w → last_sample Missing cs ≡ Missing → waits (step h c) (tpdo w) ≡ waits h (tpdo w)
  passes c w d e =
      test (waits h (tpdo w))
      (λ y. (waits_through d (lost e) y).0 ∙ sym y)
      (λ y. test (waits (step h c) (tpdo w))
      (λ z. true_false (sym (due ((moments_so p cs).only_then c (tpdo w) y z)).1.is_good_law ∙ lost e))
      (λ z. z ∙ sym y))

  abbrev TicksOn : Call → PdoNumber → Type 0
  TicksOn c w = Like (pdo_of h w).event (count_by (ticks_anew w) tick_counts h c (n.ticks w)) 0

  ticks_on : {c : Call} {w : PdoNumber} → Due h n c w → OnEvents (pdo_of h w) → TicksOn c w
  ticks_on (enters {f} m o t) e = rw ((is_entry_law h f).1 (m, o))
  ticks_on {c} {w} (elapses o t e) _ = like_anew (pdo_of h w).event (ticks_anew w) tick_counts h tick (n.ticks w) o e
  ticks_on {c} {w} (syncs s t e) x = no_both (pdo_of h w) x t

  abbrev SyncsOn : Call → PdoNumber → Type 0
  SyncsOn c w = Like (pdo_of h w).transmission (count_by (syncs_anew w) synchronises h c (n.syncs w)) 0

  syncs_on : {c : Call} {w : PdoNumber} → Due h n c w → OnSyncs (pdo_of h w) → SyncsOn c w
  syncs_on {c} {w} (enters m o t) x = no_both (pdo_of h w) t x
  syncs_on {c} {w} (elapses o t e) x = no_both (pdo_of h w) t x
  syncs_on {c} {w} (syncs {f} s t e) _ =
      like_anew (pdo_of h w).transmission (syncs_anew w) synchronises h (receive f) (n.syncs w) ((is_sync_law h f).1 s) e

  pub passed_over : PassedOver p cs
  passed_over =
      let m : Moments p cs = moments_so p cs in
      record {
        passes = passes;
        same_frame = λ c w d e y. (waits_through d (lost e) y).1;
        joins = λ c w r d e o.
            m.joins c (tpdo w) (begins d (record { is_on_law = o; is_good_law = is_good_law ∙ ap (λ s. (reading_of s).good) e }));
        not_later = λ c w x y.
            let d = due (m.only_then c (tpdo w) x y) in
            (d.0, a_sample (last_sample Missing cs) (sym is_good_law ∙ d.1.is_good_law));
        ticks_on = λ c w d e ds. counted_on_law (pdo_of h w).event (ticks_anew w) tick_counts cs (powered p) c ds 0 (ticks_on d e);
        syncs_on = λ c w d e ds. counted_on_law (pdo_of h w).transmission (syncs_anew w) synchronises cs (powered p) c ds 0 (syncs_on d e);
      }
