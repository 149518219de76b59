-- No position frame joins while the reading is missing, so only those leave that waited.
use Prim.Native.Nat.{◌+◌, ◌≤◌}
use native.Mathlib.Omega.{arith}
use mathlib.Core.Path.{◌≡◌, refl, sym, ap, ◌∙◌}
use mathlib.Core.Bool.{Bool, true, false, cond}
use mathlib.Core.List.{List, [], ◌∷◌, ◌++◌}
use Rattle.cases.proofs.Cases.{neither, test, true_false}
use Rattle.can.specs.declared.Frame.{Frame}
use Rattle.waiting.specs.Line.{first}
use Rattle.waiting.specs.Places.{waiting}
use Rattle.parts.specs.declared.Head.{Head}
use Rattle.parts.specs.declared.Sensor.TheVariants.{Missing}
use Rattle.promises.specs.States.{node, good, PdoNumber, one, two}
use Rattle.promises.specs.WaitingLine.{Kind, emergency, sdo_reply, heartbeat, tpdo, number, boot_up_frame, frame_of}
use Rattle.promises.specs.Acts.{Act, boot, idle, send, acted, frame_by, enter, lose, nothing, reset, serve, sync, take, time}
use Rattle.promises.specs.Calls.{Call, receive, tick, sample, slot, is_slot, meant, step}
use Rattle.promises.specs.Valid.{waits, Valid}
use Rattle.promises.specs.Histories.{after, frames, sent, PowerUp, powered}
use Rattle.promises.specs.Gap.{among, how_many, is_position, shows_position, waiting_positions, is_good_sample}
use Rattle.promises.proofs.Waits.{waits_new}
use Rattle.promises.proofs.Valid.{valid_step}
use Rattle.promises.proofs.Meant.{core_step}
use Rattle.promises.proofs.Conditions.{shows}
use Rattle.promises.proofs.Departures.{sends_it, sent_gone}
use Rattle.promises.proofs.Answers.{AtSlot, booting, idling, sending, at_slot}
use Rattle.promises.proofs.Histories.{at_power_up, valid_after, valid_powered}
use Rattle.promises.proofs.Readings.{stays_missing}
use Rattle.promises.proofs.Known.{framed, frames_by, known, known_boot_up}

count_append : {A : Type 0} (t : A → Bool) (xs ys : List A) → how_many t (xs ++ ys) ≡ how_many t xs + how_many t ys
count_append t [] ys = omega arith
count_append t (x ∷ xs) ys =
    test (t x) (λ e. rw e (omega (arith, count_append t xs ys))) (λ e. rw e (count_append t xs ys))

pub none_among : {A : Type 0} (t : A → Bool) (xs : List A) → how_many t xs ≤ 0 → among t xs ≡ false
none_among t [] e = refl
none_among t (x ∷ xs) e =
    test (t x) (λ y. let z = rw y at e in absurd (omega (arith, z))) (λ y. rw y (none_among t xs (rw y at e)))

-- one that did not wait does not wait now
fewer : (before now : Bool) → (before ≡ false → now ≡ false) → cond now 1 0 ≤ cond before 1 0
fewer true true f = omega arith
fewer true false f = omega arith
fewer false true f = true_false (f refl)
fewer false false f = omega arith

module _ (h : Head) (v : Valid h) where
  -- a PDO joins only while the reading is good
  pub joins_good : (x : Call) (w : PdoNumber) → waits h (tpdo w) ≡ false → waits (step h x) (tpdo w) ≡ true → good (step h x).core ≡ true
  joins_good x w n y =
      ap good (core_step h x)
      ∙ (shows (acted h.core (meant h x)) w (waits_new (is_slot x) h (meant h x) v (tpdo w) n y).1).is_good_law

  module _ (x : Call) (gone : good (step h x).core ≡ false) where
    pub none_joins : (w : PdoNumber) → waits h (tpdo w) ≡ false → waits (step h x) (tpdo w) ≡ false
    none_joins w n = test (waits (step h x) (tpdo w)) (λ y. true_false (sym (joins_good x w n y) ∙ gone)) (λ y. y)

    abbrev Fewer : List Frame → Type 0
    Fewer fs = how_many is_position fs + waiting_positions (step h x) ≤ waiting_positions h

    none_sent : (fs : List Frame) → how_many is_position fs ≡ 0 → Fewer fs
    none_sent fs e =
        omega (
          arith,
          e,
          fewer (waits h (tpdo one)) (waits (step h x) (tpdo one)) (none_joins one),
          fewer (waits h (tpdo two)) (waits (step h x) (tpdo two)) (none_joins two),
        )

  module _ (gone : good (step h slot).core ≡ false) where
    pdo_sent : (w : PdoNumber) (f : Frame) → is_position f ≡ true → waits h (tpdo w) ≡ true → waits (step h slot) (tpdo w) ≡ false
        → Fewer slot gone (f ∷ [])
    pdo_sent one f e y n =
        rw (e, y, n) (omega (arith, fewer (waits h (tpdo two)) (waits (step h slot) (tpdo two)) (none_joins slot gone two)))
    pdo_sent two f e y n =
        rw (e, y, n) (omega (arith, fewer (waits h (tpdo one)) (waits (step h slot) (tpdo one)) (none_joins slot gone one)))

    kind_sent : (k : Kind) → first (waiting h.line) ≡ number k → waits h k ≡ true → Fewer slot gone (frame_of h.core k ∷ [])
    kind_sent k e y = by_kind k e y (known (node h.core) h.core refl v.device k (v.only k y)).position
      where
        other : (f : Frame) → is_position f ≡ false → Fewer slot gone (f ∷ [])
        other f n = none_sent slot gone (f ∷ []) (rw n)

        by_kind : (k : Kind) → first (waiting h.line) ≡ number k → waits h k ≡ true → is_position (frame_of h.core k) ≡ shows_position k
            → Fewer slot gone (frame_of h.core k ∷ [])
        by_kind emergency e y s = other (frame_of h.core emergency) s
        by_kind sdo_reply e y s = other (frame_of h.core sdo_reply) s
        by_kind heartbeat e y s = other (frame_of h.core heartbeat) s
        by_kind (tpdo w) e y s =
            pdo_sent w (frame_of h.core (tpdo w)) s y (sent_gone h v slot (tpdo w) (sends_it h v slot (tpdo w) refl e))

    slot_sent : (a : Act) → AtSlot h a → Fewer slot gone (framed (frame_by h.core a))
    slot_sent nothing x' = elim x' [ ]
    slot_sent (enter _) x3 = elim x3 [ ]
    slot_sent (reset _) x4 = elim x4 [ ]
    slot_sent (take _) x5 = elim x5 [ ]
    slot_sent lose x5 = elim x5 [ ]
    slot_sent time x6 = elim x6 [ ]
    slot_sent sync x7 = elim x7 [ ]
    slot_sent (serve _) x9 = elim x9 [ ]
    slot_sent boot (booting i) =
        none_sent slot gone (boot_up_frame h.core ∷ [])
        (rw (known_boot_up (node h.core) h.core refl v.device).position)
    slot_sent idle (idling i e) = none_sent slot gone [] refl
    slot_sent (send k) (sending _ i e y) = kind_sent k e y

  fewer_step : (x : Call) (gone : good (step h x).core ≡ false) → Fewer x gone (frames h x)
  fewer_step (receive f) gone = none_sent (receive f) gone [] refl
  fewer_step tick gone = none_sent tick gone [] refl
  fewer_step (sample s) gone = none_sent (sample s) gone [] refl
  fewer_step slot gone = rw (frames_by h v slot) (slot_sent gone (meant h slot) (at_slot h v))

pub hidden : (cs : List Call) (h : Head) → Valid h → good h.core ≡ false → among is_good_sample cs ≡ false
    → how_many is_position (sent h cs) ≤ waiting_positions h
hidden [] h v g e = omega arith
hidden (x ∷ cs) h v g e =
    let n = neither (is_good_sample x) (among is_good_sample cs) e in
    let gone = stays_missing h v x n.0 g in
    omega (
      arith,
      count_append is_position (frames h x) (sent (step h x) cs),
      fewer_step h v x gone,
      hidden cs (step h x) (valid_step h x v) gone n.1,
    )

pub no_more_positions : (p : PowerUp) (before cs : List Call) → let h = step (after (powered p) before) (sample Missing) in
    among is_good_sample cs ≡ false → how_many is_position (sent h cs) ≤ waiting_positions h
no_more_positions p before cs e =
    let h = after (powered p) before in
    hidden cs (step h (sample Missing)) (valid_step h (sample Missing) (valid_after (powered p) before (valid_powered p)))
    (ap good (core_step h (sample Missing))) e

pub no_position_at_first : (p : PowerUp) (cs : List Call) → among is_good_sample cs ≡ false → among is_position (sent (powered p) cs) ≡ false
no_position_at_first p cs e =
    none_among is_position (sent (powered p) cs)
    (rw (at_power_up (λ h. waiting_positions h ≡ 0) (λ _ _. refl) p) at
    (hidden cs (powered p) (valid_powered p) (at_power_up (λ h. good h.core ≡ false) (λ _ _. refl) p) e))
