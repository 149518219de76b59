-- An act that fits leaves valid timers: each count is below its period, also after a write of the period.
use Prim.Native.Nat.{ℕ, ◌≤◌}
use native.Mathlib.Omega.{arith}
use lib.Dec.{eqb}
use mathlib.Core.Path.{◌≡◌, refl, sym}
use mathlib.Core.Bool.{Bool, false, not, ◌&&◌, ◌||◌, or-true, or-false}
use mathlib.Core.List.{List}
use mathlib.Core.Logic.{inl}
use Rattle.cases.proofs.Cases.{by, by₂, neither, test}
use Rattle.entries.specs.declared.Device.{Device}
use Rattle.entries.specs.declared.Pdo.{Pdo}
use Rattle.entries.specs.declared.Communication.{Communication}
use Rattle.entries.specs.Table.{Found, missing}
use Rattle.entries.specs.Keys.{cycle_key, event_key_of, tpdo1, range_key, preset_key, step_key, heartbeat_key}
use Rattle.dictionary.specs.Accepted.{pdo_barred, barred}
use Rattle.dictionary.specs.Writes.{own_key, put}
use Rattle.dictionary.specs.Valid.{ValidDevice}
use Rattle.dictionary.proofs.Accepted.{taken}
use Rattle.position.specs.Position.{bit, scaling_bit}
use Rattle.sdo.specs.declared.reply.Effect.TheVariants.{Write}
use Rattle.sdo.specs.Reply.{carried_out}
use Rattle.sdo.specs.Service.{Due, none, value, confirmation, abort, upload, answer}
use Rattle.sdo.specs.Upload.{due_in}
use Rattle.sdo.specs.Laws.{Told, Confirmed}
use Rattle.sdo.proofs.UploadLaws.{told_in}
use Rattle.parts.specs.declared.Timers.{Timers}
use Rattle.parts.specs.declared.Core.{Core}
use Rattle.promises.specs.States.{operational, is_in, communication, PdoNumber, one, two, pdo, clock, at_rest}
use Rattle.promises.specs.WaitingLine.{emergency, sdo_reply, heartbeat, tpdo}
use Rattle.promises.specs.Timers.{inhibit_ticks}
use Rattle.promises.specs.Acts.{Act, nothing, enter, reset, boot, idle, send, take, lose, time, sync, serve, timers_after, acted}
use Rattle.promises.specs.Valid.{Below, ValidClock, ValidTimers}
use Rattle.promises.proofs.Fits.{Fits}
use Rattle.promises.proofs.Clocks.{below_counted, uncounted_valid, ticked_valid, synced_valid, written_valid}

timers_are : {s : Communication} {t : Timers} → t.inhibit ≤ 6555 → Below s.heartbeat t.heartbeat → ValidClock s.pdo1 t.pdo1
    → ValidClock s.pdo2 t.pdo2 → ValidTimers s t
timers_are {s} {t} i b p q = record { inhibit = i; heartbeat = b; clocks = both_valid }
  where
    both_valid : (w : PdoNumber) → ValidClock (pdo s w) (clock t w)
    both_valid one = p
    both_valid two = q

pub resting : (s : Communication) → ValidTimers s at_rest
resting s = timers_are (omega arith) (inl refl) (uncounted_valid s.pdo1) (uncounted_valid s.pdo2)

inhibit_ticks_law : (n : ℕ) → n ≤ 0xFFFF → inhibit_ticks n ≤ 6555
inhibit_ticks_law n h = by (λ t. t ≤ 6555) (eqb n 0) (λ _. omega arith) (λ _. omega arith)

-- 6200h is 1800-5 under a second index
pub own_key_law : (k : ℕ) → eqb (own_key k) (event_key_of tpdo1) ≡ (eqb k (event_key_of tpdo1) || eqb k cycle_key)
own_key_law k =
    test (eqb k cycle_key) (λ e. rw e (sym (or-true (eqb k (event_key_of tpdo1))))) (λ e. rw e (sym (or-false (eqb k (event_key_of tpdo1)))))

-- 1800h, 1801h
abbrev pub pdo_index : PdoNumber → ℕ
pdo_index one = 0x1800
pdo_index two = 0x1801

pub own_free : (w : PdoNumber) (p : Pdo) (k n : ℕ) → pdo_barred (pdo_index w) p k n ≡ false → pdo_barred (pdo_index w) p (own_key k) n ≡ false
own_free one p k n free = by (λ j. pdo_barred 0x1800 p j n ≡ false) (eqb k cycle_key) (λ _. refl) (λ _. free)
own_free two p k n free = by (λ j. pdo_barred 0x1801 p j n ≡ false) (eqb k cycle_key) (λ _. refl) (λ _. free)

-- a write that is confirmed is barred by neither PDO
pub free : (d : Device) (k n : ℕ) → barred d k n ≡ false → (w : PdoNumber)
    → pdo_barred (pdo_index w) (pdo d.settings.communication w) k n ≡ false
free d k n e = each
  where
    others : Bool
    others = (eqb k range_key || eqb k step_key) && not (bit scaling_bit d.settings.profile.operating) || eqb k preset_key && missing d

    apart : (others || pdo_barred 0x1800 d.settings.communication.pdo1 k n ≡ false)
        × (pdo_barred 0x1801 d.settings.communication.pdo2 k n ≡ false)
    apart =
        neither (others || pdo_barred 0x1800 d.settings.communication.pdo1 k n)
        (pdo_barred 0x1801 d.settings.communication.pdo2 k n) e

    each : (w : PdoNumber) → pdo_barred (pdo_index w) (pdo d.settings.communication w) k n ≡ false
    each one = (neither others (pdo_barred 0x1800 d.settings.communication.pdo1 k n) apart.0).1
    each two = apart.1

pub unbarred : {d : Device} {f : List ℕ} {x : Found} {k n : ℕ} → Confirmed d f x k n → barred d k n ≡ false
unbarred {d} {n = n} t = rw t.key (taken d t.its_row n t.takes.unaborted).1

module _ (c : Core) (v : ValidTimers (communication c) c.timers) where
  write_valid : (k n : ℕ) → barred c.device k n ≡ false
      → ValidTimers (carried_out c.device (Write (own_key k) n)).settings.communication (timers_after c (Write (own_key k) n))
  unfolding put
  write_valid k n e =
      timers_are v.inhibit (by₂ Below (eqb (own_key k) heartbeat_key) (λ _. inl refl) (λ _. v.heartbeat))
      (written_valid (v.clocks one) 0x1800 (own_key k) n (own_free one (communication c).pdo1 k n (free c.device k n e one)))
      (written_valid (v.clocks two) 0x1801 (own_key k) n (own_free two (communication c).pdo2 k n (free c.device k n e two)))

  told_valid : (o : Bool) (f : List ℕ) (x : Found) (y : Due) → Told c.device o f x y
      → let e = (answer f y).effect in ValidTimers (carried_out c.device e).settings.communication (timers_after c e)
  told_valid o f x none t = v
  told_valid o f x (value w n) t = v
  told_valid o f x (confirmation k n) t = write_valid k n (unbarred t)
  told_valid o f x (abort code) t = v
  told_valid o f x (upload b u) t = v

  pub timers_act : (atSlot : Bool) (a : Act) → Fits atSlot c a → ValidDevice c.device
      → ValidTimers (communication (acted c a)) (acted c a).timers
  timers_act b nothing f d = v
  timers_act b (enter g) f d = timers_are v.inhibit v.heartbeat (uncounted_valid _) (uncounted_valid _)
  timers_act b (reset r) f d = resting _
  timers_act b boot f d = resting _
  timers_act b idle f d = v
  timers_act b (send emergency) f d =
      timers_are (inhibit_ticks_law _ d.settings.communication.inhibit) v.heartbeat (v.clocks one) (v.clocks two)
  timers_act b (send sdo_reply) f d = v
  timers_act b (send heartbeat) f d = v
  timers_act b (send (tpdo w)) f d = v
  timers_act b (take r) f d = v
  timers_act b lose f d = v
  timers_act b time f d =
      let runs = is_in operational c in
      timers_are (omega (arith, v.inhibit)) (below_counted _ _) (ticked_valid (v.clocks one) runs) (ticked_valid (v.clocks two) runs)
  timers_act b sync f d =
      timers_are v.inhibit v.heartbeat (synced_valid (v.clocks one)) (synced_valid (v.clocks two))
  timers_act b (serve s) f d =
      let o = is_in operational c in
      let t = f.1.0 in
      let q = f.1.1.0 in
      rw f.1.1.1 (told_valid o q _ (due_in c.device o t q) (told_in c.device o t q))
