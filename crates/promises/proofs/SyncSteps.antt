-- Proves `stays`, `anew` and `unmoved` of specs/SyncFrames.antt: what one call does to a frame of a synchronous PDO.
use Prim.Native.Nat.{ℕ}
use lib.Dec.{eqb}
use mathlib.Core.Path.{◌≡◌, refl, sym, ap, ◌∙◌}
use mathlib.Core.Logic.{◌⊎◌, inl, inr, ⊎_elim}
use mathlib.Core.Bool.{Bool, true, false, cond}
use mathlib.Core.List.{List}
use mathlib.Core.Option.{some}
use borrow.Author.Tests.{eq-eqb}
use Rattle.cases.specs.Padded.{pad}
use Rattle.cases.specs.Tests.{within}
use Rattle.cases.proofs.Cases.{test, true_false}
use Rattle.can.specs.declared.Received.{Received}
use Rattle.can.specs.Number.{low_first}
use Rattle.dictionary.specs.Shown.{Shown}
use Rattle.std.specs.Prelude.{None as Blank, Some as Number}
use Rattle.dictionary.specs.Accepted.{on}
use Rattle.dictionary.specs.Writes.{own_key, put}
use Rattle.sdo.specs.Reply.{confirmed}
use Rattle.parts.specs.declared.Nmt.{Nmt}
use Rattle.parts.specs.declared.Core.{Core}
use Rattle.parts.specs.declared.Head.{Head}
use Rattle.parts.specs.declared.Sensor.{Sensor}
use Rattle.parts.specs.declared.Sensor.TheVariants.{Missing, Raw}
use Rattle.promises.specs.States.{operational, stopped, code, is_in, communication, PdoNumber, pdo, fixed_for}
use Rattle.promises.specs.Timers.{synchronous, OnSyncs}
use Rattle.promises.specs.WaitingLine.{tpdo, frame_of}
use Rattle.promises.specs.Acts.{sync, serve, acted}
use Rattle.promises.specs.Calls.{Call, receive, sample, slot, step, tick}
use Rattle.promises.specs.Valid.{waits}
use Rattle.promises.specs.Meant.{Synchronises}
use Rattle.promises.specs.Withdrawals.{identifier_key, Withdrawal, resets, stops, leaves, loses, switches_off_law}
use Rattle.promises.specs.Histories.{after, PowerUp, powered}
use Rattle.promises.specs.FiveSlots.{Sends}
use Rattle.promises.specs.Readings.{last_sample, reads_in, shown_position, profile_of}
use Rattle.promises.specs.Moments.{pdo_of, EachOf, counts_after}
use Rattle.promises.specs.SyncFrames.{position_then, Fixes, position_frame}
use Rattle.promises.proofs.States.{not_operational, elsewhere}
use Rattle.promises.proofs.Types.{on_syncs, no_both}
use Rattle.promises.proofs.Conditions.{identifier_written}
use Rattle.promises.proofs.Meant.{core_step, enters, resets as reset-law}
use Rattle.promises.proofs.Causes.{writes}
use Rattle.promises.proofs.Departures.{only_so}
use Rattle.promises.proofs.Readings.{tells}
use Rattle.promises.proofs.Tested.{synchronised}
use Rattle.promises.proofs.SyncFrames.{v, Fixed, Stays, fixed_or_not, type_step, fixed_then}

-- whether an entry reads a number, and no blank
abbrev is_number_law : Shown → Bool
is_number_law Blank = false
is_number_law (Number n) = true

identifier_after : (c : Core) (f : List ℕ) (k v : ℕ) (w : PdoNumber)
    → (pdo (communication (acted c (serve (confirmed f (own_key k) v)))) w).identifier ≡ cond (eqb k (identifier_key w)) v (pdo (communication c) w).identifier
unfolding put
identifier_after c f k v w = identifier_written (communication c) k v w

-- no call but a slot takes it while the PDO stays switched on in Operational
pub stays_on : (p : PowerUp) (cs : List Call) (c : Call) (w : PdoNumber) → let h = after (powered p) cs in
    OnSyncs (pdo_of h w) → waits h (tpdo w) ≡ true → (c ≡ slot → ⊥)
    → is_in operational (step h c).core ≡ true → on (pdo_of (step h c) w).identifier ≡ true → waits (step h c) (tpdo w) ≡ true
stays_on p cs c w t y q o i =
    test (waits (step h c) (tpdo w)) (λ z. z)
    (λ z. absurd (⊎_elim (λ (x : Sends h c (tpdo w)). q x.is_slot_law) (λ (x : Withdrawal h c (tpdo w)). taken c x o i) (only_so h (v p cs) c (tpdo w) y z)))
  where
    h : Head
    h = after (powered p) cs

    taken : (c : Call) → Withdrawal h c (tpdo w) → is_in operational (step h c).core ≡ true → on (pdo_of (step h c) w).identifier ≡ true → ⊥
    taken tick x3 o i = elim x3 [ ]
    taken (sample (Raw _)) x7 o i = elim x7 [ ]
    taken slot x5 o i = elim x5 [ ]
    taken (receive f) (resets {r = r} m) o i = true_false (sym o ∙ not_operational (step h (receive f)).core (reset-law h f r m).initialising)
    taken (receive f) (stops m n) o i = true_false (sym o ∙ ap (λ (s : Nmt). eqb s.code (code operational)) (enters h f stopped m))
    taken (receive f) (leaves {g = g} m y n) o i = true_false (sym o ∙ elsewhere h.core (step h (receive f)).core g y n (enters h f g m))
    taken (receive f) (switches_off_law {v = j} x off) o i =
        true_false (sym i ∙ ap (λ (d : Core). on (pdo (communication d) w).identifier) (writes h f (v p cs) x)
        ∙ ap on (identifier_after h.core f.bytes (identifier_key w) j w) ∙ rw (eq-eqb (identifier_key w) (identifier_key w) refl, off))
    taken (sample Missing) (loses e) o i = no_both (pdo_of h w) e t

-- a due SYNC fixes what 6004h reads then
pub fixed_anew_law : (p : PowerUp) (cs : List Call) (f : Received) (w : PdoNumber) (x : ℕ) → let h = after (powered p) cs in
    Synchronises h f → on (pdo_of h w).identifier ≡ true → OnSyncs (pdo_of h w)
    → EachOf (pdo_of h w).transmission ((counts_after p cs).syncs w) → reads_in h 0x6004 0 ≡ some (Number x)
    → frame_of (step h (receive f)).core (tpdo w) ≡ position_frame (pdo_of h w).identifier x
fixed_anew_law p cs f w x s o t e q = by_sample (last_sample Missing cs) refl
  where
    h : Head
    h = after (powered p) cs

    Claim : Type 0
    Claim = frame_of (step h (receive f)).core (tpdo w) ≡ position_frame (pdo_of h w).identifier x

    same : (step h (receive f)).core ≡ acted h.core sync
    same = core_step h (receive f) ∙ ap (acted h.core) (synchronised h f s)

    by_sample : (u : Sensor) → last_sample Missing cs ≡ u → Claim
    by_sample Missing m =
        let none : some (Number x) ≡ some Blank = sym q ∙ (tells p cs).position ∙ ap (λ z. some (shown_position (profile_of h) z)) m in
        let blank : Number x ≡ Blank = cc none in
        absurd (true_false (ap is_number_law blank))
    by_sample (Raw r) m =
        let shown : some (Number x) ≡ some (Number (position_then p cs r)) =
        sym q ∙ (tells p cs).position ∙ ap (λ z. some (shown_position (profile_of h) z)) m in
        let its : x ≡ position_then p cs r = cc shown in
        let fixes : Fixes p cs (receive f) w r =
        record { frame = f; received = refl; synchronises = s; switched_on_law = o; type = t; due = e; good = m } in
        let fixed : fixed_for (acted h.core sync).fixed w ≡ x =
        sym (ap (λ (d : Core). fixed_for d.fixed w) same) ∙ fixed_then p w fixes ∙ sym its in
        ap (λ d. frame_of d (tpdo w)) same ∙ rw (on_syncs (pdo_of h w) t, fixed)

-- and no other call changes what the frame carries
pub unmoved_by : (p : PowerUp) (cs : List Call) (c : Call) (w : PdoNumber) → let h = after (powered p) cs in
    OnSyncs (pdo_of h w) → waits h (tpdo w) ≡ true → waits (step h c) (tpdo w) ≡ true
    → ((f : Received) → c ≡ receive f → Synchronises h f → EachOf (pdo_of h w).transmission ((counts_after p cs).syncs w) → ⊥)
    → (frame_of (step h c).core (tpdo w)).bytes ≡ (frame_of h.core (tpdo w)).bytes
unmoved_by p cs c w t y z n = found (fixed_or_not p cs c w)
  where
    h : Head
    h = after (powered p) cs

    now : synchronous (pdo_of h w) ≡ true
    now = on_syncs (pdo_of h w) t

    later_type : synchronous (pdo_of (step h c) w) ≡ true
    later_type = ap (within 1 240) (type_step h (v p cs) c w y z) ∙ now

    found : Fixed p cs c w ⊎ Stays p cs c w → (frame_of (step h c).core (tpdo w)).bytes ≡ (frame_of h.core (tpdo w)).bytes
    found (inl f) = let g = f.1 in absurd (n g.frame g.received g.synchronises g.due)
    found (inr f) = rw (later_type, now) (ap (λ x. pad 8 (low_first 4 x)) f.1)
