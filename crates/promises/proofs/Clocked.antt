-- A PDO's clock is the remainder of the ticks and SYNCs that the calls count, while the PDO can join.
use Prim.Native.Nat.{ℕ, suc}
use lib.Dec.{eqb}
use mathlib.Core.Path.{◌≡◌, refl, sym, ap, ap₂, subst, ◌∙◌}
use mathlib.Core.Bool.{Bool, true, false, not, ◌&&◌, ◌||◌, cond, and_comm, not-and_self, or-false}
use mathlib.Core.List.{List}
use Rattle.cases.specs.Tests.{within}
use Rattle.cases.proofs.Cases.{by, by₂, test, true_false}
use Rattle.entries.specs.declared.Communication.{Communication}
use Rattle.entries.specs.Table.{Found}
use Rattle.dictionary.specs.Accepted.{on, barred}
use Rattle.dictionary.specs.Writes.{own_key, communication_after, put}
use Rattle.dictionary.proofs.Own.{own_other}
use Rattle.entries.specs.Keys.{cycle_key}
use Rattle.sdo.specs.declared.reply.Effect.{Effect}
use Rattle.sdo.specs.declared.reply.Effect.TheVariants.{Write}
use Rattle.sdo.specs.declared.reply.Served.{Served}
use Rattle.sdo.specs.Reply.{carried_out}
use Rattle.sdo.specs.Service.{Due, none, value, confirmation, abort, upload, answer}
use Rattle.sdo.specs.Upload.{due_in}
use Rattle.sdo.specs.Laws.{Told}
use Rattle.sdo.proofs.UploadLaws.{told_in}
use Rattle.parts.specs.declared.Timers.{Timers}
use Rattle.parts.specs.declared.Core.{Core}
use Rattle.parts.specs.declared.Head.{Head}
use Rattle.promises.specs.States.{operational, stopped, pre_operational, is_in, communication, PdoNumber, one, two, pdo, clock, uncounted}
use Rattle.promises.specs.WaitingLine.{emergency, sdo_reply, heartbeat, tpdo}
use Rattle.promises.specs.Timers.{synchronous, clock_synced, if_running, timers_ticked, timers_synced, switched_on, clock_written, timers_written}
use Rattle.promises.specs.Acts.{Act, nothing, enter, reset, boot, idle, send, take, lose, time, sync}
use Rattle.promises.specs.Acts.{serve, uncounted_pdos, inhibited, timers_after, acted}
use Rattle.promises.specs.Calls.{Call, is_slot, meant, step}
use Rattle.promises.specs.Valid.{Valid}
use Rattle.promises.specs.Withdrawals.{identifier_key}
use Rattle.promises.specs.Moments.{count_by, pdo_of, is_switch, is_sub5, ticks_anew, tick_counts, syncs_anew, synchronises}
use Rattle.promises.proofs.Fits.{Fits, fits}
use Rattle.promises.proofs.Clocks.{was_on}
use Rattle.promises.proofs.Counts.{own_key_law, free, unbarred}
use Rattle.promises.proofs.Meant.{core_step}
use Rattle.promises.proofs.Conditions.{identifier_written, transmission_kept}
use Rattle.promises.proofs.Remainders.{Rest, anew, one_more}
use Rattle.promises.proofs.Tested.{Marks, marks, effect_to, Own, tested}

-- what becomes of one PDO's clock
module _ (s : Communication) (t : Timers) where
  clock_uncounted : (w : PdoNumber) → clock (uncounted_pdos t) w ≡ uncounted
  clock_uncounted one = refl
  clock_uncounted two = refl

  clock_inhibited : (ticks : ℕ) (w : PdoNumber) → clock (inhibited t ticks) w ≡ clock t w
  clock_inhibited ticks one = refl
  clock_inhibited ticks two = refl

  clock_ticked_law : (runs : Bool) (w : PdoNumber) → clock (timers_ticked runs s t) w ≡ if_running runs (pdo s w) (clock t w)
  clock_ticked_law runs one = refl
  clock_ticked_law runs two = refl

  clock_synced_law : (w : PdoNumber) → clock (timers_synced s t) w ≡ clock_synced (pdo s w) (clock t w)
  clock_synced_law one = refl
  clock_synced_law two = refl

  clock_written_law : (k v : ℕ) (later : Communication) (w : PdoNumber)
      → clock (timers_written (own_key k) s later t) w ≡ clock_written (is_sub5 w k v) (pdo s w) (pdo later w) (clock t w)
  clock_written_law k v later one = rw (own_key_law k)
  clock_written_law k v later two = rw (own_other k 0x1801_05 refl refl)

module _ (s : Communication) (k v : ℕ) where
  -- only a write to sub 5 alters the event time
  event_kept : (w : PdoNumber) → is_sub5 w k v ≡ false → (pdo (communication_after s (own_key k) v) w).event ≡ (pdo s w).event
  event_kept one e = rw (own_key_law k, e)
  event_kept two e = rw (own_other k 0x1801_05 refl refl, e)

  -- only a write to sub 1 that clears bit 31 switches on
  switched : (w : PdoNumber) → switched_on (pdo s w) (pdo (communication_after s (own_key k) v) w) ≡ (is_switch w k v && not (on (pdo s w).identifier))
  switched w =
      ap (λ i. not (on (pdo s w).identifier) && on i) (identifier_written s k v w)
      ∙ test (eqb k (identifier_key w)) (λ e. rw e (and_comm (not (on (pdo s w).identifier)) (on v)))
      (λ e. rw e (not-and_self (on (pdo s w).identifier)))

-- a write to 6200h is one to sub 5
own_sub5 : (w : PdoNumber) → Own (is_sub5 w)
own_sub5 one k v =
    let named = by (λ n. eqb n cycle_key ≡ false) (eqb k cycle_key) (λ _. refl) (λ e. e) in
    ap₂ (λ s t. s || t) (own_key_law k) named ∙ or-false (eqb k 0x1800_05 || eqb k cycle_key)
own_sub5 two k v = own_other k 0x1801_05 refl refl

own_switch : (w : PdoNumber) → Own (is_switch w)
own_switch one k v = rw (own_other k (identifier_key one) refl refl)
own_switch two k v = rw (own_other k (identifier_key two) refl refl)

-- a count that restarts together with the count of the calls
restarted : (sub5 switched : Bool) (period before t n : ℕ) → (sub5 ≡ false → period ≡ before) → Rest before t n
    → Rest period (cond (sub5 || switched) 0 t) (cond (switched || sub5) 0 n)
restarted true true period before t n same r = anew period
restarted true false period before t n same r = anew period
restarted false true period before t n same r = anew period
restarted false false period before t n same r = rw (same refl) r

-- the counts after an act: from entry or from switching on
abbrev begun : PdoNumber → Core → Marks → Bool
begun w c m = m.enters || effect_to (is_switch w) m.effect && not (on (pdo (communication c) w).identifier)

abbrev tick_by : PdoNumber → Core → Marks → ℕ → ℕ
tick_by w c m n = cond (begun w c m || effect_to (is_sub5 w) m.effect) 0 (cond (m.times && is_in operational c) (suc n) n)

abbrev sync_by : PdoNumber → Core → Marks → ℕ → ℕ
sync_by w c m n = cond (begun w c m) 0 (cond m.syncs (suc n) n)

-- ticks count in Operational; SYNCs for a PDO that is on and of types 1..240
abbrev pub Ticks : PdoNumber → Core → ℕ → Type 0
Ticks w c n = is_in operational c ≡ true → Rest (pdo (communication c) w).event (clock c.timers w).ticks n

abbrev pub Syncs : PdoNumber → Core → ℕ → Type 0
Syncs w c n =
    is_in operational c ≡ true
    → on (pdo (communication c) w).identifier ≡ true
    → synchronous (pdo (communication c) w) ≡ true
    → Rest (pdo (communication c) w).transmission (clock c.timers w).syncs n

module _ (w : PdoNumber) (c : Core) (n : ℕ) where
  abbrev s : Communication
  s = communication c

  abbrev t : Timers
  t = c.timers

  abbrev TicksBy : Effect → Type 0
  TicksBy e =
      Rest (pdo (carried_out c.device e).settings.communication w).event (clock (timers_after c e) w).ticks
      (cond (effect_to (is_switch w) e && not (on (pdo s w).identifier) || effect_to (is_sub5 w) e) 0 n)

  ticks_due : (q : List ℕ) (d : Due) → Rest (pdo s w).event (clock t w).ticks n → TicksBy (answer q d).effect
  unfolding put
  ticks_due q none r = r
  ticks_due q (value u m) r = r
  ticks_due q (abort code) r = r
  ticks_due q (upload b u) r = r
  ticks_due q (confirmation k v) r =
      let later = communication_after s (own_key k) v in
      rw (clock_written_law s t k v later w, own_switch w k v, own_sub5 w k v, ← switched s k v w)
      (restarted (is_sub5 w k v) (switched_on (pdo s w) (pdo later w)) (pdo later w).event (pdo s w).event (clock t w).ticks n
      (event_kept s k v w) r)

  ticks_act : (b : Bool) (a : Act) → Fits b c a → Ticks w c n → Ticks w (acted c a) (tick_by w c (marks a) n)
  ticks_act b nothing f r o = r o
  ticks_act b (enter operational) f r o = rw (clock_uncounted s t w) (anew (pdo s w).event)
  ticks_act b (enter stopped) f r o = true_false (sym o)
  ticks_act b (enter pre_operational) f r o = true_false (sym o)
  ticks_act b (reset x) f r o = true_false (sym o)
  ticks_act b boot f r o = true_false (sym o)
  ticks_act b idle f r o = r o
  ticks_act b (send emergency) f r o = rw (clock_inhibited s t _ w) (r o)
  ticks_act b (send sdo_reply) f r o = r o
  ticks_act b (send heartbeat) f r o = r o
  ticks_act b (send (tpdo x)) f r o = r o
  ticks_act b (take x) f r o = r o
  ticks_act b lose f r o = r o
  ticks_act b time f r o = rw (clock_ticked_law s t (is_in operational c) w, o) (one_more _ _ _ (r o))
  ticks_act b sync f r o = rw (clock_synced_law s t w) (r o)
  ticks_act b (serve x) f r o =
      let q = f.1.1.0 in
      subst TicksBy (ap (λ (u : Served). u.effect) (sym f.1.1.1)) (ticks_due q (due_in c.device (is_in operational c) f.1.0 q) (r o))

  abbrev SyncsBy : Effect → Type 0
  SyncsBy e =
      let later = pdo (carried_out c.device e).settings.communication w in
      on later.identifier ≡ true
      → synchronous later ≡ true
      → Rest later.transmission (clock (timers_after c e) w).syncs (cond (effect_to (is_switch w) e && not (on (pdo s w).identifier)) 0 n)

  module _ (o : is_in operational c ≡ true) (r : Syncs w c n) where
    syncs_written : (k v : ℕ) → barred c.device k v ≡ false → SyncsBy (Write (own_key k) v)
    unfolding put
    syncs_written k v e y z =
        let later = communication_after s (own_key k) v in
        rw (clock_written_law s t k v later w, own_switch w k v, ← switched s k v w)
        (by₂ (Rest (pdo later w).transmission) (switched_on (pdo s w) (pdo later w))
        (λ _. anew (pdo later w).transmission)
        (λ m.
        let was = was_on (on (pdo s w).identifier) (on (pdo later w).identifier) y m in
        let same = transmission_kept s k v w (free c.device k v e w) was in
        rw same (r o was (sym (ap (within 1 240) same) ∙ z))))

    syncs_told : (q : List ℕ) (x : Found) (d : Due) → Told c.device (is_in operational c) q x d → SyncsBy (answer q d).effect
    syncs_told q x none told y z = r o y z
    syncs_told q x (value u m) told y z = r o y z
    syncs_told q x (confirmation k v) told y z = syncs_written k v (unbarred told) y z
    syncs_told q x (abort code) told y z = r o y z
    syncs_told q x (upload b u) told y z = r o y z

  syncs_act : (b : Bool) (a : Act) → Fits b c a → Syncs w c n → Syncs w (acted c a) (sync_by w c (marks a) n)
  syncs_act b nothing f r o y z = r o y z
  syncs_act b (enter operational) f r o y z = rw (clock_uncounted s t w) (anew (pdo s w).transmission)
  syncs_act b (enter stopped) f r o y z = true_false (sym o)
  syncs_act b (enter pre_operational) f r o y z = true_false (sym o)
  syncs_act b (reset x) f r o y z = true_false (sym o)
  syncs_act b boot f r o y z = true_false (sym o)
  syncs_act b idle f r o y z = r o y z
  syncs_act b (send emergency) f r o y z = rw (clock_inhibited s t _ w) (r o y z)
  syncs_act b (send sdo_reply) f r o y z = r o y z
  syncs_act b (send heartbeat) f r o y z = r o y z
  syncs_act b (send (tpdo x)) f r o y z = r o y z
  syncs_act b (take x) f r o y z = r o y z
  syncs_act b lose f r o y z = r o y z
  syncs_act b time f r o y z = rw (clock_ticked_law s t (is_in operational c) w, o) (r o y z)
  syncs_act b sync f r o y z = rw (clock_synced_law s t w, y, z) (one_more _ _ _ (r o y z))
  syncs_act b (serve x) f r o y z =
      let q = f.1.1.0 in
      let from-due = syncs_told o r q _ (due_in c.device (is_in operational c) f.1.0 q) (told_in c.device (is_in operational c) f.1.0 q)
      in
      subst (λ e. SyncsBy e) (ap (λ (u : Served). u.effect) (sym f.1.1.1)) from-due y z

module _ (w : PdoNumber) (h : Head) (n : ℕ) (v : Valid h) (x : Call) where
  same_begun : syncs_anew w h x ≡ begun w h.core (marks (meant h x))
  same_begun = ap₂ (λ (e o : Bool). e || o && not (on (pdo_of h w).identifier)) (tested h v x).enters ((tested h v x).written (is_switch w) (own_switch w))

  pub ticks_step : Ticks w h.core n → Ticks w (step h x).core (count_by (ticks_anew w) tick_counts h x n)
  ticks_step r =
      let same : count_by (ticks_anew w) tick_counts h x n ≡ tick_by w h.core (marks (meant h x)) n =
      ap₂ (λ (anew ticks : Bool). cond anew 0 (cond ticks (suc n) n))
      (ap₂ (λ (b e : Bool). b || e) same_begun ((tested h v x).written (is_sub5 w) (own_sub5 w))) (tested h v x).ticks in
      rw (same, core_step h x) (ticks_act w h.core n (is_slot x) (meant h x) (fits h x) r)

  pub syncs_step : Syncs w h.core n → Syncs w (step h x).core (count_by (syncs_anew w) synchronises h x n)
  syncs_step r =
      let same : count_by (syncs_anew w) synchronises h x n ≡ sync_by w h.core (marks (meant h x)) n =
      ap₂ (λ (anew syncs : Bool). cond anew 0 (cond syncs (suc n) n)) same_begun (tested h v x).syncs in
      rw (same, core_step h x) (syncs_act w h.core n (is_slot x) (meant h x) (fits h x) r)
