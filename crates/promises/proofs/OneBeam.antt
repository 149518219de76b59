-- Proves `equal` of specs/SyncFrames.antt, two heads given the same samples and SYNCs, and with it `SyncFrames`.
use Prim.Native.Nat.{ℕ, suc}
use native.Mathlib.Omega.{arith}
use mathlib.Core.Path.{◌≡◌, refl, sym, ap, ap₂, ◌∙◌}
use mathlib.Core.Bool.{Bool, true, false, ◌||◌, cond}
use mathlib.Core.List.{List, [], ◌∷◌, ◌++◌, append_assoc}
use borrow.Author.Tests.{eq-eqb, le-leb}
use Rattle.cases.proofs.Cases.{neither, test, true_false}
use Rattle.can.specs.declared.Frame.{Frame}
use Rattle.position.specs.Position as formula
use Rattle.parts.specs.declared.Sensor.{Sensor}
use Rattle.parts.specs.declared.Sensor.TheVariants.{Missing, Raw}
use Rattle.promises.specs.States.{is_initialising, PdoNumber}
use Rattle.promises.specs.WaitingLine.{tpdo}
use Rattle.promises.specs.Calls.{Call, receive, tick, sample, slot, slot_answer, frame_in}
use Rattle.promises.specs.Histories.{after, PowerUp, powered}
use Rattle.promises.specs.FiveSlots.{Sends}
use Rattle.promises.specs.Gap.{how_many}
use Rattle.promises.specs.Readings.{profile_of, sample_by, last_sample}
use Rattle.promises.specs.SyncFrames.{Belongs, its_position, position_frame, is_sync_frame, is_sample, samples_and_syncs, SyncFrames}
use Rattle.promises.proofs.SyncFrames.{belongs, carries_it, taken_while_good}
use Rattle.promises.proofs.SyncSteps.{stays_on, fixed_anew_law, unmoved_by}

-- ---- lists
append_cancel : (xs ys zs : List Call) → xs ++ ys ≡ xs ++ zs → ys ≡ zs
append_cancel [] ys zs e = e
append_cancel (x ∷ xs) ys zs e = append_cancel xs ys zs (cc e)

given_append : (xs ys : List Call) → samples_and_syncs (xs ++ ys) ≡ samples_and_syncs xs ++ samples_and_syncs ys
given_append [] ys = refl
given_append (x ∷ xs) ys =
    test (is_sample x || is_sync_frame x)
    (λ e. rw e (ap {B = List Call} (λ l. x ∷ l) (given_append xs ys)))
    (λ e. rw e (given_append xs ys))

-- SYNCs are among them
syncs_given : (xs : List Call) → how_many is_sync_frame (samples_and_syncs xs) ≡ how_many is_sync_frame xs
syncs_given [] = refl
syncs_given (x ∷ xs) =
    test (is_sample x || is_sync_frame x)
    (λ e. rw (e, syncs_given xs))
    (λ e. rw (e, (neither (is_sample x) (is_sync_frame x) e).1) (syncs_given xs))

-- what stands before a SYNC is found by the number of SYNCs there
same_before : (xs ys : List Call) (s t : Call) (us vs : List Call) → is_sync_frame s ≡ true → is_sync_frame t ≡ true
    → xs ++ s ∷ us ≡ ys ++ t ∷ vs → how_many is_sync_frame xs ≡ how_many is_sync_frame ys → xs ≡ ys
same_before [] [] s t us vs a b e n = refl
same_before [] (y ∷ ys) s t us vs a b e n =
    let same : s ≡ y = cc e in
    let more = rw (← same, a) at n in absurd (omega (arith, more))
same_before (x ∷ xs) [] s t us vs a b e n =
    let same : x ≡ t = cc e in
    let more = rw (same, b) at n in absurd (omega (arith, more))
same_before (x ∷ xs) (y ∷ ys) s t us vs a b e n =
    let same : x ≡ y = cc e in
    let rest : xs ++ s ∷ us ≡ ys ++ t ∷ vs = cc e in
    ap₂ {C = List Call} (λ z l. z ∷ l) same (same_before xs ys s t us vs a b rest (fewer (is_sync_frame y) (rw same at n)))
  where
    fewer : {i j : ℕ} (t : Bool) → cond t (suc i) i ≡ cond t (suc j) j → i ≡ j
    fewer true q = omega (arith, q)
    fewer false q = q

-- ---- samples
last_append : (xs ys : List Call) (s : Sensor) → last_sample s (xs ++ ys) ≡ last_sample (last_sample s xs) ys
last_append [] ys s = refl
last_append (x ∷ xs) ys s = last_append xs ys (sample_by s x)

no_sample : (x : Call) (s : Sensor) → is_sample x ≡ false → sample_by s x ≡ s
no_sample (receive f) s e = refl
no_sample tick s e = refl
no_sample (sample r) s e = true_false e
no_sample slot s e = refl

last_given : (xs : List Call) (s : Sensor) → last_sample s (samples_and_syncs xs) ≡ last_sample s xs
last_given [] s = refl
last_given (x ∷ xs) s =
    test (is_sample x || is_sync_frame x)
    (λ e. rw e (last_given xs (sample_by s x)))
    (λ e. rw e (last_given xs s ∙ ap (λ r. last_sample r xs) (sym (no_sample x s (neither (is_sample x) (is_sync_frame x) e).0))))

-- ---- the same SYNC
module _ {p : PowerUp} {w : PdoNumber} (ps cs us : List Call) (b : Belongs p (ps ++ cs) w) (e : b.before ≡ ps ++ us) where
  is_sync_law : is_sync_frame b.sync ≡ true
  is_sync_law =
      let f = b.fixes in
      let s = f.synchronises in
      let h = after (powered p) b.before in
      rw (
        f.received,
        (neither (f.frame.extended || f.frame.remote) (is_initialising h.core) s.hears.heard).0,
        eq-eqb _ _ s.identifier,
        le-leb f.frame.length 1 s.length,
      )

  split_so : cs ≡ us ++ b.sync ∷ b.since
  split_so =
      append_cancel ps cs (us ++ b.sync ∷ b.since)
      (b.split ∙ ap (λ l. l ++ b.sync ∷ b.since) e ∙ append_assoc ps us (b.sync ∷ b.since))

  given_so : (es : List Call) → samples_and_syncs (cs ++ es) ≡ samples_and_syncs us ++ b.sync ∷ samples_and_syncs (b.since ++ es)
  given_so es =
      ap samples_and_syncs (ap (λ l. l ++ es) split_so ∙ append_assoc us (b.sync ∷ b.since) es)
      ∙ given_append us (b.sync ∷ b.since ++ es)
      ∙ ap (λ l. samples_and_syncs us ++ l) first
    where
      first : samples_and_syncs (b.sync ∷ b.since ++ es) ≡ b.sync ∷ samples_and_syncs (b.since ++ es)
      first = test (is_sample b.sync) (λ y. rw y) (λ y. rw (y, is_sync_law))

  sample_so : last_sample (last_sample Missing ps) (samples_and_syncs us) ≡ Raw b.raw
  sample_so =
      last_given us (last_sample Missing ps) ∙ sym (last_append ps us Missing) ∙ ap (last_sample Missing) (sym e) ∙ b.fixes.good

positions_equal : (p q : PowerUp) (ps qs cs ds es fs : List Call) (v w : PdoNumber) (a : Belongs p (ps ++ cs) v) (b : Belongs q (qs ++ ds) w)
    → last_sample Missing ps ≡ last_sample Missing qs
    → samples_and_syncs (cs ++ es) ≡ samples_and_syncs (ds ++ fs)
    → (us vs : List Call) → a.before ≡ ps ++ us → b.before ≡ qs ++ vs → how_many is_sync_frame us ≡ how_many is_sync_frame vs
    → profile_of (after (powered p) a.before) ≡ profile_of (after (powered q) b.before)
    → its_position a ≡ its_position b
positions_equal p q ps qs cs ds es fs v w a b s g us vs x y n r =
    let same = same_before (samples_and_syncs us) (samples_and_syncs vs) a.sync b.sync (samples_and_syncs (a.since ++ es))
    (samples_and_syncs (b.since ++ fs)) (is_sync_law ps cs us a x) (is_sync_law qs ds vs b y)
    (sym (given_so ps cs us a x es) ∙ g ∙ given_so qs ds vs b y fs) (syncs_given us ∙ n ∙ sym (syncs_given vs)) in
    let raws : Raw a.raw ≡ Raw b.raw =
    sym (sample_so ps cs us a x) ∙ ap₂ last_sample s same ∙ sample_so qs ds vs b y in
    let raw : a.raw ≡ b.raw = cc raws in
    ap₂ formula.position r raw

-- so the bytes of the frames that carry them
bytes_equal : (p q : PowerUp) (cs ds : List Call) (v w : PdoNumber) (a : Belongs p cs v) (b : Belongs q ds w) → its_position a ≡ its_position b
    → let h = after (powered p) cs in let g = after (powered q) ds in
    Sends h slot (tpdo v) → Sends g slot (tpdo w) → (frame_in (slot_answer h)).bytes ≡ (frame_in (slot_answer g)).bytes
bytes_equal p q cs ds v w a b e s t =
    ap (λ (f : Frame). f.bytes) (carries_it p v cs a s)
    ∙ ap (λ x. (position_frame 0 x).bytes) e
    ∙ sym (ap (λ (f : Frame). f.bytes) (carries_it q w ds b t))

pub sync_frames : SyncFrames
sync_frames =
    record {
      belongs = λ p cs w. belongs p w cs;
      carries = λ p cs w b. carries_it p w cs b;
      stays = stays_on;
      anew = fixed_anew_law;
      unmoved = unmoved_by;
      taken_while_good = taken_while_good;
      equal = λ p q ps qs cs ds es fs v w a b s g us vs x y n r.
          bytes_equal p q (ps ++ cs) (qs ++ ds) v w a b (positions_equal p q ps qs cs ds es fs v w a b s g us vs x y n r);
    }
