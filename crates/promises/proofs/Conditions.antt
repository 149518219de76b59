-- The condition of a kind split into its parts, and what it is after a write.
use Prim.Native.Nat.{ℕ}
use lib.Dec.{eqb}
use mathlib.Core.Path.{◌≡◌, refl, ap, ◌∙◌}
use mathlib.Core.List.{List}
use mathlib.Core.Bool.{Bool, true, false, not, ◌&&◌, ◌||◌, beq, cond, not-not, and-true}
use Rattle.cases.specs.Tests.{within}
use Rattle.cases.proofs.Cases.{both, test}
use Rattle.entries.specs.declared.Communication.{Communication}
use Rattle.entries.specs.Keys.{emergency_key, heartbeat_key}
use Rattle.dictionary.specs.Accepted.{on, pdo_barred, barred}
use Rattle.dictionary.specs.Writes.{own_key, communication_after, put}
use Rattle.dictionary.proofs.Own.{own_other}
use Rattle.sdo.specs.Reply.{confirmed}
use Rattle.parts.specs.declared.Core.{Core}
use Rattle.promises.specs.States.{operational, is_in, is_initialising, is_live, good, communication, PdoNumber, one, two, pdo}
use Rattle.promises.specs.Timers.{synchronous}
use Rattle.promises.specs.WaitingLine.{Kind, emergency, sdo_reply, heartbeat, tpdo, is_alerting, may_stay, may_alert, may_beat, may_show, may_keep}
use Rattle.promises.specs.Acts.{serve, acted}
use Rattle.promises.specs.Withdrawals.{identifier_key}
use Rattle.promises.specs.Effects.{takes}
use Rattle.promises.proofs.Clocks.{type_kept}
use Rattle.promises.proofs.Counts.{own_free, pdo_index, free}

pub record Alerts (c : Core) : Type 0 where
  pub lives : is_live c ≡ true
  pub is_on_law : on (communication c).emergency ≡ true
  pub rested : eqb c.timers.inhibit 0 ≡ true
  pub differs : not (beq (good c) c.announced) ≡ true

-- all of the emergency's condition but what was announced
abbrev pub alerting : Core → Bool
alerting c = is_live c && on (communication c).emergency && eqb c.timers.inhibit 0

pub alerts : (c : Core) → is_alerting c ≡ true → Alerts c
alerts c y =
    let u = both (alerting c) (not (beq (good c) c.announced)) y in
    let t = both (is_live c && on (communication c).emergency) (eqb c.timers.inhibit 0) u.0 in
    let s = both (is_live c) (on (communication c).emergency) t.0 in
    record { lives = s.0; is_on_law = s.1; rested = t.1; differs = u.1 }

pub beats : (c : Core) → may_beat c.nmt (communication c).heartbeat ≡ true
    → (not (is_initialising c) ≡ true) × (not (eqb (communication c).heartbeat 0) ≡ true)
beats c = both (not (is_initialising c)) (not (eqb (communication c).heartbeat 0))

pub record Shows (c : Core) (w : PdoNumber) : Type 0 where
  pub operates : is_in operational c ≡ true
  pub is_on_law : on (pdo (communication c) w).identifier ≡ true
  pub is_good_law : good c ≡ true

pub shows : (c : Core) (w : PdoNumber) → may_show c.nmt (pdo (communication c) w).identifier (good c) ≡ true → Shows c w
shows c w y =
    let u = both (is_in operational c && on (pdo (communication c) w).identifier) (good c) y in
    let t = both (is_in operational c) (on (pdo (communication c) w).identifier) u.0 in
    record { operates = t.0; is_on_law = t.1; is_good_law = u.1 }

-- a PDO whose frame may stay: of types 1 to 240, or the reading is good
pub record Keeps (c : Core) (w : PdoNumber) : Type 0 where
  pub operates : is_in operational c ≡ true
  pub is_on_law : on (pdo (communication c) w).identifier ≡ true
  pub lasts : (synchronous (pdo (communication c) w) || good c) ≡ true

pub keeps : (c : Core) (w : PdoNumber) → may_stay c (tpdo w) ≡ true → Keeps c w
keeps c w y =
    let p = pdo (communication c) w in
    let u = both (is_in operational c && on p.identifier) (synchronous p || good c) y in
    let t = both (is_in operational c) (on p.identifier) u.0 in
    record { operates = t.0; is_on_law = t.1; lasts = u.1 }

module _ (s : Communication) (k v : ℕ) where
  pub identifier_written : (w : PdoNumber)
      → (pdo (communication_after s (own_key k) v) w).identifier ≡ cond (eqb k (identifier_key w)) v (pdo s w).identifier
  identifier_written one = rw (own_other k (identifier_key one) refl refl)
  identifier_written two = rw (own_other k (identifier_key two) refl refl)

  -- While a PDO is on its type cannot be written.
  pub transmission_kept : (w : PdoNumber) → pdo_barred (pdo_index w) (pdo s w) k v ≡ false → on (pdo s w).identifier ≡ true
      → (pdo (communication_after s (own_key k) v) w).transmission ≡ (pdo s w).transmission
  transmission_kept one e o = rw (type_kept 0x1800 s.pdo1 (own_key k) v (own_free one s.pdo1 k v e) o)
  transmission_kept two e o = rw (type_kept 0x1801 s.pdo2 (own_key k) v (own_free two s.pdo2 k v e) o)

-- A write of v to the entry of key k: 1014h alters the emergency's condition, 1017h the heartbeat's, a PDO's sub 1 that of the PDO.
module _ (c : Core) (f : List ℕ) (k v : ℕ) where
  pub alert_written : may_stay (acted c (serve (confirmed f (own_key k) v))) emergency
      ≡ may_alert c.nmt (cond (eqb k emergency_key) v (communication c).emergency) c.timers.inhibit (good c) c.announced
  unfolding put
  alert_written = rw (own_other k emergency_key refl refl)

  pub beat_written : may_stay (acted c (serve (confirmed f (own_key k) v))) heartbeat
      ≡ may_beat c.nmt (cond (eqb k heartbeat_key) v (communication c).heartbeat)
  unfolding put
  beat_written = rw (own_other k heartbeat_key refl refl)

  pub show_written : (w : PdoNumber)
      → may_stay (acted c (serve (confirmed f (own_key k) v))) (tpdo w) ≡ may_keep c.nmt (pdo (communication_after (communication c) (own_key k) v) w) (good c)
  unfolding put
  show_written w = refl

-- A write of v ends a condition exactly if the condition depends on the written setting (t says so) and v ends it.
module _ (c : Core) (t : Bool) (v : ℕ) where
  alert_ends : may_stay c emergency ≡ true
      → not (may_alert c.nmt (cond t v (communication c).emergency) c.timers.inhibit (good c) c.announced) ≡ (t && not (on v))
  alert_ends m = let s = alerts c m in test t (λ e. rw (e, s.lives, s.rested, s.differs) (simp and-true)) (λ e. rw e (ap not m))

  beat_ends : may_stay c heartbeat ≡ true → not (may_beat c.nmt (cond t v (communication c).heartbeat)) ≡ (t && eqb v 0)
  beat_ends m = test t (λ e. rw (e, (beats c m).0) (not-not (eqb v 0))) (λ e. rw e (ap not m))

  show_ends : (w : PdoNumber) → may_stay c (tpdo w) ≡ true
      → not (may_show c.nmt (cond t v (pdo (communication c) w).identifier) true) ≡ (t && not (on v))
  show_ends w m = let s = keeps c w m in test t (λ e. rw (e, s.operates) (simp and-true)) (λ e. rw (e, s.operates, s.is_on_law))

-- a PDO that is on keeps its type, and so a frame that may stay is switched off or stays
kept_on : (c : Core) (k v : ℕ) → barred c.device k v ≡ false → (w : PdoNumber) → may_stay c (tpdo w) ≡ true
    → may_keep c.nmt (pdo (communication_after (communication c) (own_key k) v) w) (good c)
    ≡ may_show c.nmt (cond (eqb k (identifier_key w)) v (pdo (communication c) w).identifier) true
kept_on c k v free-so w m =
    let s = communication c in
    let held = keeps c w m in
    let same = transmission_kept s k v w (free c.device k v free-so w) held.is_on_law in
    let lasts : (synchronous (pdo (communication_after s (own_key k) v) w) || good c) ≡ true =
    ap (λ t. within 1 240 t || good c) same ∙ held.lasts in
    rw (lasts, identifier_written s k v w)

pub ends : (c : Core) (f : List ℕ) (k v : ℕ) → barred c.device k v ≡ false → (x : Kind) → may_stay c x ≡ true
    → not (may_stay (acted c (serve (confirmed f (own_key k) v))) x) ≡ takes k v x
ends c f k v b emergency m = ap not (alert_written c f k v) ∙ alert_ends c (eqb k emergency_key) v m
ends c f k v b sdo_reply m = ap not m
ends c f k v b heartbeat m = ap not (beat_written c f k v) ∙ beat_ends c (eqb k heartbeat_key) v m
ends c f k v b (tpdo w) m = ap not (show_written c f k v w ∙ kept_on c k v b w m) ∙ show_ends c (eqb k (identifier_key w)) v w m
