-- Proves `belongs`, `carries` and `taken_while_good` of specs/SyncFrames.antt: a frame of a synchronous PDO belongs to its last due SYNC.
use Prim.Native.Nat.{ℕ}
use lib.Dec.{ltb}
use mathlib.Core.Path.{◌≡◌, refl, sym, ap, subst, ◌∙◌}
use mathlib.Core.Logic.{◌⊎◌, inl, inr}
use mathlib.Core.Bool.{Bool, true, false}
use mathlib.Core.List.{List, [], ◌∷◌, ◌++◌, append_assoc, append-nil}
use Rattle.cases.specs.Tests.{within}
use Rattle.cases.proofs.Cases.{by, both, test, true_false}
use Rattle.can.specs.declared.Received.{Received}
use Rattle.position.specs.Position as formula
use Rattle.position.specs.Profile.{highest_raw}
use Rattle.entries.specs.declared.Pdo.{Pdo}
use Rattle.entries.specs.declared.Reading.{Reading}
use Rattle.entries.specs.Table.{Found}
use Rattle.dictionary.specs.Accepted.{on}
use Rattle.dictionary.specs.Writes.{put}
use Rattle.sdo.specs.declared.reply.Effect.{Effect}
use Rattle.sdo.specs.declared.reply.Served.{Served}
use Rattle.sdo.specs.Reply.{carried_out}
use Rattle.sdo.specs.Service.{Due, none, value, confirmation, abort, upload, answer}
use Rattle.sdo.specs.Upload.{due_in}
use Rattle.sdo.specs.Laws.{Told}
use Rattle.sdo.proofs.UploadLaws.{told_in}
use Rattle.waiting.specs.Line.{first}
use Rattle.waiting.specs.Places.{waiting}
use Rattle.parts.specs.declared.Core.{Core}
use Rattle.parts.specs.declared.Head.{Head}
use Rattle.parts.specs.declared.Sensor.TheVariants.{Missing, Raw}
use Rattle.promises.specs.States.{operational, is_in, is_initialising, communication, good, PdoNumber, pdo, clock, fixed_for}
use Rattle.promises.specs.Timers.{synchronous, OnSyncs, sync_due, completes}
use Rattle.promises.specs.WaitingLine.{Kind, emergency, sdo_reply, heartbeat, tpdo, may_stay, may_join, present}
use Rattle.promises.specs.Acts.{Act, nothing, enter, reset, boot, idle, send, take, lose, time, sync, serve, fixes_now, acted}
use Rattle.promises.specs.Calls.{Call, receive, tick, sample, slot, is_slot, meant, step, slot_answer, is_frame, frame_in}
use Rattle.promises.specs.Valid.{waits, Valid}
use Rattle.promises.specs.Meant.{Synchronises}
use Rattle.promises.specs.Histories.{after, PowerUp, powered}
use Rattle.promises.specs.FiveSlots.{Sends, WaitsThrough}
use Rattle.promises.specs.Gap.{is_position}
use Rattle.promises.specs.Readings.{last_sample, reading_of}
use Rattle.promises.specs.Moments as moments
use Rattle.promises.specs.Moments.{pdo_of, Begins, counts_after}
use Rattle.promises.specs.SyncFrames.{position_then, Fixes, NoneFixes, Belongs, its_position, position_frame, Taken, at_slot, at_sync}
use Rattle.promises.proofs.KindNumbers.{sent_as_law, first_has}
use Rattle.promises.proofs.Fits.{Fits, fits}
use Rattle.promises.proofs.Fixed.{synchronises, still_fixed, fixed_by}
use Rattle.promises.proofs.Types.{on_syncs, syncs_on, events, no_both, valid_pdo}
use Rattle.promises.proofs.Counts.{free, unbarred}
use Rattle.promises.proofs.Conditions.{shows, keeps, transmission_kept}
use Rattle.promises.proofs.Valid.{valid_step}
use Rattle.promises.proofs.Meant.{core_step}
use Rattle.promises.proofs.Causes.{Cause, cause}
use Rattle.promises.proofs.Histories.{after_append, at_power_up, valid_after, valid_powered}
use Rattle.promises.proofs.Departures.{sends_it}
use Rattle.promises.proofs.Readings.{tells}
use Rattle.promises.proofs.Remainders.{its_turn, in_turn}
use Rattle.promises.proofs.Tested.{entered, synchronised}
use Rattle.promises.proofs.Moments.{Kept, counts_kept, moments_so}
use Rattle.promises.proofs.PassedOver.{a_sample, is_good_law}
use Rattle.promises.proofs.Positions.{carries}

-- ---- which call fixes a position
sync_cause : (h : Head) (f : Received) (a : Act) → Cause h f a → synchronises a ≡ true → Synchronises h f
sync_cause h f nothing x e = true_false (sym e)
sync_cause h f (enter g) x e = true_false (sym e)
sync_cause h f (reset r) x e = true_false (sym e)
sync_cause h f boot x e = true_false (sym e)
sync_cause h f idle x e = true_false (sym e)
sync_cause h f (send k) x e = true_false (sym e)
sync_cause h f (take r) x e = true_false (sym e)
sync_cause h f lose x e = true_false (sym e)
sync_cause h f time x e = true_false (sym e)
sync_cause h f sync x e = x
sync_cause h f (serve s) x e = true_false (sym e)

module _ (p : PowerUp) (cs : List Call) where
  abbrev pub h : Head
  h = after (powered p) cs

  abbrev pub c : Core
  c = h.core

  pub v : Valid h
  v = valid_after (powered p) cs (valid_powered p)

  kept : Kept c (counts_after p cs)
  kept = counts_kept p cs

  present_so : {r : ℕ} → last_sample Missing cs ≡ Raw r → present c ≡ position_then p cs r
  present_so e =
      ap (λ (x : Reading). formula.position c.device.settings.profile x.raw) ((tells p cs).reading_is ∙ ap reading_of e)

  module _ (x : Call) (w : PdoNumber) where
    abbrev pub later : ℕ
    later = fixed_for (step h x).core.fixed w

    later_so : later ≡ fixed_for (acted c (meant h x)).fixed w
    later_so = ap (λ (d : Core). fixed_for d.fixed w) (core_step h x)

    -- it does, or what was fixed stays
    abbrev pub Fixed : Type 0
    Fixed = (r : ℕ) × Fixes p cs x w r × (later ≡ position_then p cs r)

    abbrev pub Stays : Type 0
    Stays = ((r : ℕ) → Fixes p cs x w r → ⊥) × (later ≡ fixed_for c.fixed w)

    no_sync : synchronises (meant h x) ≡ false → Stays
    no_sync e = (
      λ r y.
          let m : meant h x ≡ sync = rw y.received (synchronised h y.frame y.synchronises) in
          true_false (sym (ap synchronises m) ∙ e),
      later_so ∙ ap (λ u. fixed_for u w) (still_fixed c (meant h x) e),
    )

  module _ (f : Received) (w : PdoNumber) (s : Synchronises h f) where
    abbrev its : Pdo
    its = pdo_of h w

    abbrev due : Bool
    due = sync_due its (clock c.timers w)

    fixed_so : later (receive f) w ≡ fixed_for (acted c sync).fixed w
    fixed_so = later_so (receive f) w ∙ ap (λ a. fixed_for (acted c a).fixed w) (synchronised h f s)

    fixes : fixes_now c w ≡ true → Fixed (receive f) w
    fixes e =
        let u = both due (may_join c (tpdo w)) e in
        let d = both (synchronous its) (completes its.transmission (clock c.timers w).syncs) u.0 in
        let may = shows c w u.1 in
        let r = a_sample (last_sample Missing cs) (sym (is_good_law p cs) ∙ may.is_good_law) in (
          r.0,
          record {
            frame = f;
            received = refl;
            synchronises = s;
            switched_on_law = may.is_on_law;
            type = syncs_on its d.0;
            due = its_turn _ _ _ (kept.syncs w s.operational may.is_on_law d.0) d.1;
            good = r.1;
          },
          fixed_so ∙ fixed_by c w ∙ rw e (present_so r.1),
        )

    stays : fixes_now c w ≡ false → Stays (receive f) w
    stays e = (
      λ r y.
          let t = on_syncs its y.type in
          let turn : due ≡ true = rw t (in_turn _ _ _ (kept.syncs w s.operational y.switched_on_law t) y.due) in
          let may : may_join c (tpdo w) ≡ true = rw (s.operational, y.switched_on_law) (is_good_law p cs ∙ ap (λ z. (reading_of z).good) y.good) in
          true_false (sym (rw (turn, may)) ∙ e),
      fixed_so ∙ fixed_by c w ∙ rw e,
    )

    by_sync : Fixed (receive f) w ⊎ Stays (receive f) w
    by_sync = test (fixes_now c w) (λ e. inl (fixes e)) (λ e. inr (stays e))

  pub fixed_or_not : (x : Call) (w : PdoNumber) → Fixed x w ⊎ Stays x w
  fixed_or_not (receive f) w =
      test (synchronises (meant h (receive f)))
      (λ e. by_sync f w (sync_cause h f (meant h (receive f)) (cause h f v) e))
      (λ e. inr (no_sync (receive f) w e))
  fixed_or_not tick w = inr (no_sync tick w (by (λ a. synchronises a ≡ false) (is_initialising c) (λ _. refl) (λ _. refl)))
  fixed_or_not (sample Missing) w = inr (no_sync (sample Missing) w refl)
  fixed_or_not (sample (Raw r)) w =
      inr (no_sync (sample (Raw r)) w (by (λ a. synchronises a ≡ false) (ltb highest_raw r) (λ _. refl) (λ _. refl)))
  fixed_or_not slot w =
      inr (no_sync slot w
      (by (λ a. synchronises a ≡ false) (is_initialising c) (λ _. refl)
      (λ _. sent_as_law (λ a. synchronises a ≡ false) (first h.line) refl (λ _. refl))))

-- ---- a PDO that waits keeps its type
module _ (c : Core) (w : PdoNumber) (is_on_law : on (pdo (communication c) w).identifier ≡ true) where
  abbrev Same : Effect → Type 0
  Same e = (pdo (carried_out c.device e).settings.communication w).transmission ≡ (pdo (communication c) w).transmission

  type_told : (o : Bool) (q : List ℕ) (x : Found) (d : Due) → Told c.device o q x d → Same (answer q d).effect
  unfolding put
  type_told o q x none told = refl
  type_told o q x (value u m) told = refl
  type_told o q x (confirmation k n) told = transmission_kept (communication c) k n w (free c.device k n (unbarred told) w) is_on_law
  type_told o q x (abort code) told = refl
  type_told o q x (upload b u) told = refl

  type_act : (b : Bool) (a : Act) → Fits b c a → may_stay (acted c a) (tpdo w) ≡ true
      → (pdo (communication (acted c a)) w).transmission ≡ (pdo (communication c) w).transmission
  type_act b nothing f m = refl
  type_act b (enter g) f m = refl
  type_act b (reset r) f m = true_false (sym m)
  type_act b boot f m = refl
  type_act b idle f m = refl
  type_act b (send emergency) f m = refl
  type_act b (send sdo_reply) f m = refl
  type_act b (send heartbeat) f m = refl
  type_act b (send (tpdo x)) f m = refl
  type_act b (take r) f m = refl
  type_act b lose f m = refl
  type_act b time f m = refl
  type_act b sync f m = refl
  type_act b (serve s) f m =
      let o = is_in operational c in
      let q = f.1.1.0 in
      subst Same (ap (λ (u : Served). u.effect) (sym f.1.1.1))
      (type_told o q _ (due_in c.device o f.1.0 q) (told_in c.device o f.1.0 q))

pub type_step : (h : Head) → Valid h → (x : Call) (w : PdoNumber) → waits h (tpdo w) ≡ true → waits (step h x) (tpdo w) ≡ true
    → (pdo_of (step h x) w).transmission ≡ (pdo_of h w).transmission
type_step h v x w y z =
    let e = core_step h x in
    ap (λ (d : Core). (pdo (communication d) w).transmission) e
    ∙ type_act h.core w (keeps h.core w (v.only (tpdo w) y)).is_on_law (is_slot x) (meant h x) (fits h x)
    (sym (ap (λ (d : Core). may_stay d (tpdo w)) e) ∙ (valid_step h x v).only (tpdo w) z)

type_through : (cs : List Call) (h : Head) → Valid h → (w : PdoNumber) → WaitsThrough h cs (tpdo w)
    → (pdo_of (after h cs) w).transmission ≡ (pdo_of h w).transmission
type_through [] h v w y = refl
type_through (x ∷ cs) h v w y =
    type_through cs (step h x) (valid_step h x v) w y.1 ∙ type_step h v x w y.0 (begun cs y.1)
  where
    begun : (cs : List Call) → WaitsThrough (step h x) cs (tpdo w) → waits (step h x) (tpdo w) ≡ true
    begun [] u = u
    begun (c ∷ cs) u = u.0

-- ---- one call more
through_end : (cs : List Call) (h : Head) (x : Call) (k : Kind) → WaitsThrough h cs k → waits (step (after h cs) x) k ≡ true
    → WaitsThrough h (cs ++ x ∷ []) k
through_end [] h x k y z = (y, z)
through_end (c ∷ cs) h x k y z = (y.0, through_end cs (step h c) x k y.1 z)

module _ (p : PowerUp) (w : PdoNumber) where
  none_end : (ds cs : List Call) (x : Call) → NoneFixes p w cs ds → ((r : ℕ) → Fixes p (cs ++ ds) x w r → ⊥) → NoneFixes p w cs (ds ++ x ∷ [])
  none_end [] cs x n not-anew = (λ r y. not-anew r (subst (λ l. Fixes p l x w r) (sym (append-nil cs)) y), tt)
  none_end (d ∷ ds) cs x n not-anew =
      (n.0, none_end ds (cs ++ d ∷ []) x n.1 (λ r y. not-anew r (subst (λ l. Fixes p l x w r) (append_assoc cs (d ∷ []) ds) y)))

  -- what none fixes anew stays
  held : (ds cs : List Call) → NoneFixes p w cs ds
      → fixed_for (after (powered p) (cs ++ ds)).core.fixed w ≡ fixed_for (after (powered p) cs).core.fixed w
  held [] cs n = ap (λ l. fixed_for (after (powered p) l).core.fixed w) (append-nil cs)
  held (d ∷ ds) cs n =
      let now = ap (λ (g : Head). fixed_for g.core.fixed w) (after_append (powered p) cs (d ∷ [])) in
      ap (λ l. fixed_for (after (powered p) l).core.fixed w) (sym (append_assoc cs (d ∷ []) ds))
      ∙ held ds (cs ++ d ∷ []) n.1
      ∙ now
      ∙ unfixed (fixed_or_not p cs d w)
    where
      unfixed : Fixed p cs d w ⊎ Stays p cs d w → fixed_for (step (after (powered p) cs) d).core.fixed w
          ≡ fixed_for (after (powered p) cs).core.fixed w
      unfixed (inl y) = absurd (n.0 y.0 y.1)
      unfixed (inr y) = y.1

  -- at its SYNC the position was that of the sample
  pub fixed_then : {cs : List Call} {x : Call} {r : ℕ} → Fixes p cs x w r
      → fixed_for (step (after (powered p) cs) x).core.fixed w ≡ position_then p cs r
  fixed_then {cs} {x} {r} y = found (fixed_or_not p cs x w)
    where
      found : Fixed p cs x w ⊎ Stays p cs x w → fixed_for (step (after (powered p) cs) x).core.fixed w ≡ position_then p cs r
      found (inl z) = let same : z.0 ≡ r = cc (z.1.good, y.good) in z.2 ∙ ap (position_then p cs) same
      found (inr z) = absurd (z.0 r y)

  -- a PDO that begins to wait and is synchronous does so by a SYNC that fixes its position
  begun : (cs : List Call) (x : Call) → let h = after (powered p) cs in Begins h (counts_after p cs) x (tpdo w) → OnSyncs (pdo_of (step h x) w)
      → (r : ℕ) × Fixes p cs x w r
  begun cs (sample _) x4 s = elim x4 [ ]
  begun cs slot x4 s = elim x4 [ ]
  begun cs (receive f) (moments.enters m o r t) s =
      let h = after (powered p) cs in
      let same = core_step h (receive f) ∙ ap (acted h.core) (entered h f (m, o)) in
      no_both (pdo_of h w) t (subst OnSyncs (ap (λ (d : Core). pdo (communication d) w) same) s)
  begun cs tick (moments.elapses o r t e) s =
      let c = (after (powered p) cs).core in
      let same : communication (acted c (meant (after (powered p) cs) tick)) ≡ communication c =
      by (λ a. communication (acted c a) ≡ communication c) (is_initialising c) (λ _. refl) (λ _. refl) in
      no_both (pdo_of (after (powered p) cs) w) t
      (subst OnSyncs (ap (λ (d : Core). pdo (communication d) w) (core_step (after (powered p) cs) tick) ∙ ap (λ k. pdo k w) same) s)
  begun cs (receive f) (moments.syncs s r t e) u =
      let z = a_sample (last_sample Missing cs) (sym (is_good_law p cs) ∙ r.is_good_law) in
      (z.0, record { frame = f; received = refl; synchronises = s; switched_on_law = r.is_on_law; type = t; due = e; good = z.1 })

  -- ---- each frame belongs to a SYNC
  module _ (cs : List Call) (x : Call) where
    abbrev was : Head
    was = after (powered p) cs

    valid : Valid was
    valid = valid_after (powered p) cs (valid_powered p)

    more : Belongs p cs w → ((r : ℕ) → Fixes p cs x w r → ⊥) → waits (step was x) (tpdo w) ≡ true → Belongs p (cs ++ x ∷ []) w
    more b not-anew y =
        let there : after (step (after (powered p) b.before) b.sync) b.since ≡ was =
        sym (ap (after (powered p)) b.split ∙ after_append (powered p) b.before (b.sync ∷ b.since)) in
        let start = b.before ++ b.sync ∷ [] in
        let whole : start ++ b.since ≡ cs = append_assoc b.before (b.sync ∷ []) b.since ∙ sym b.split in
        record {
          before = b.before;
          sync = b.sync;
          since = b.since ++ x ∷ [];
          split = ap (λ l. l ++ x ∷ []) b.split ∙ append_assoc b.before (b.sync ∷ b.since) (x ∷ []);
          raw = b.raw;
          fixes = b.fixes;
          waited = through_end b.since _ x (tpdo w) b.waited (rw there y);
          last = none_end b.since start x b.last (λ r z. not-anew r (subst (λ l. Fixes p l x w r) whole z));
        }

    -- a PDO that begins to wait and is synchronous does so by a SYNC that fixes its position
    next : (waits was (tpdo w) ≡ true → OnSyncs (pdo_of was w) → Belongs p cs w) → waits (step was x) (tpdo w) ≡ true
        → OnSyncs (pdo_of (step was x) w) → Belongs p (cs ++ x ∷ []) w
    next b y t = by_call (fixed_or_not p cs x w)
      where
        now : {r : ℕ} → Fixes p cs x w r → Belongs p (cs ++ x ∷ []) w
        now {r} z =
            record { before = cs; sync = x; since = []; split = refl; raw = r; fixes = z; waited = y; last = tt }

        by_call : Fixed p cs x w ⊎ Stays p cs x w → Belongs p (cs ++ x ∷ []) w
        by_call (inl z) = now z.1
        by_call (inr z) =
            test (waits was (tpdo w))
            (λ u. let same = type_step was valid x w u y in more (b u (rw same at t)) z.0 y)
            (λ u. now (begun cs x ((moments_so p cs).only_then x (tpdo w) u y) t).1)

  abbrev Has : List Call → Type 0
  Has cs = waits (after (powered p) cs) (tpdo w) ≡ true → OnSyncs (pdo_of (after (powered p) cs) w) → Belongs p cs w

  each : (ds cs : List Call) → Has cs → Has (cs ++ ds)
  each [] cs b = subst Has (sym (append-nil cs)) b
  each (d ∷ ds) cs b =
      subst Has (append_assoc cs (d ∷ []) ds)
      (each ds (cs ++ d ∷ []) (let there = after_append (powered p) cs (d ∷ []) in λ y t. next cs d b (rw there at y) (rw there at t)))

  pub belongs : (cs : List Call) → Has cs
  belongs cs = each cs [] (λ y t. true_false (sym y ∙ at_power_up (λ h. waits h (tpdo w) ≡ false) (λ _ _. refl) p))

  -- ---- and carries its position
  module _ (cs : List Call) (b : Belongs p cs w) where
    abbrev there : Head
    there = step (after (powered p) b.before) b.sync

    is_valid : Valid (after (powered p) b.before)
    is_valid = valid_after (powered p) b.before (valid_powered p)

    now_there : after (powered p) cs ≡ after there b.since
    now_there = ap (after (powered p)) b.split ∙ after_append (powered p) b.before (b.sync ∷ b.since)

    fixed_now : fixed_for (after (powered p) cs).core.fixed w ≡ its_position b
    fixed_now =
        let start = b.before ++ b.sync ∷ [] in
        ap (λ l. fixed_for (after (powered p) l).core.fixed w) (b.split ∙ sym (append_assoc b.before (b.sync ∷ []) b.since))
        ∙ held b.since start b.last
        ∙ ap (λ (g : Head). fixed_for g.core.fixed w) (after_append (powered p) b.before (b.sync ∷ []))
        ∙ fixed_then b.fixes

    type_now : synchronous (pdo_of (after (powered p) cs) w) ≡ true
    type_now =
        let f = b.fixes in
        let g : Head = after (powered p) b.before in
        let m : meant g b.sync ≡ sync = rw f.received (synchronised g f.frame f.synchronises) in
        let at = core_step g b.sync ∙ ap (acted g.core) m in
        let same : (pdo_of (after (powered p) cs) w).transmission ≡ (pdo_of (after (powered p) b.before) w).transmission =
        ap (λ (g : Head). (pdo_of g w).transmission) now_there
        ∙ type_through b.since there (valid_step _ b.sync is_valid) w b.waited
        ∙ ap (λ (d : Core). (pdo (communication d) w).transmission) at in
        ap (within 1 240) same ∙ on_syncs (pdo_of (after (powered p) b.before) w) f.type

    pub carries_it : Sends (after (powered p) cs) slot (tpdo w)
        → frame_in (slot_answer (after (powered p) cs)) ≡ position_frame (pdo_of (after (powered p) cs) w).identifier (its_position b)
    carries_it s = s.answer ∙ rw (type_now, fixed_now)

-- ---- no frame leaves with a position taken while the reading was missing
pub taken_while_good : (p : PowerUp) (cs : List Call) → let h = after (powered p) cs in
    is_frame (slot_answer h) ≡ true → is_position (frame_in (slot_answer h)) ≡ true
    → (w : PdoNumber) × (x : ℕ) × Taken p cs w x × (frame_in (slot_answer h) ≡ position_frame (pdo_of h w).identifier x)
taken_while_good p cs f i =
    let h = after (powered p) cs in
    let v = valid_after (powered p) cs (valid_powered p) in
    let c = carries h v f i in
    let w = c.which in
    let its = pdo_of h w in
    let s = sends_it h v slot (tpdo w) refl c.is_first in
    let y = first_has (waiting h.line) (tpdo w) c.is_first in
    test (synchronous its)
    (λ t. let b = belongs p w cs y (syncs_on its t) in (w, its_position b, at_sync (syncs_on its t) b, carries_it p w cs b s))
    (λ t.
    let good-now : good h.core ≡ true = rw t at (keeps h.core w (v.only (tpdo w) y)).lasts in
    let r = a_sample (last_sample Missing cs) (sym (is_good_law p cs) ∙ good-now) in (
      w,
      position_then p cs r.0,
      at_slot (events its (valid_pdo h.core v.device w) t) r.1,
      s.answer ∙ rw t (ap (λ x. position_frame its.identifier x) (present_so p cs r.1)),
    ))
