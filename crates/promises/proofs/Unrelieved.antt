-- A gap goes on while no good sample, no stop and no reset ends it: what held for it still holds.
use Prim.Native.Nat.{ℕ}
use mathlib.Core.Path.{◌≡◌, refl, sym, ap, ◌∙◌}
use mathlib.Core.Bool.{true, false}
use mathlib.Core.Logic.{◌⊎◌, inl, inr, ⊎_elim}
use Rattle.cases.proofs.Cases.{true_false}
use Rattle.dictionary.specs.Accepted.{on}
use Rattle.parts.specs.declared.Core.{Core}
use Rattle.parts.specs.declared.Head.{Head}
use Rattle.promises.specs.States.{is_live, node, communication, good}
use Rattle.promises.specs.WaitingLine.{emergency, sdo_reply, heartbeat, tpdo, is_alerting}
use Rattle.promises.specs.Acts.{Act, nothing, enter, reset, boot, idle, send, take, lose, time, sync, serve, acted}
use Rattle.promises.specs.Calls.{Call, receive, tick, sample, slot, meant, step}
use Rattle.promises.specs.Valid.{Valid}
use Rattle.promises.specs.Gap.{is_good_sample, is_command, stops_or_resets}
use Rattle.promises.proofs.Meant.{core_step, inhibit_after}
use Rattle.promises.proofs.Spoken.{halts_so}
use Rattle.promises.proofs.Halts.{Halts, resetting, stays_live, HaltedBy, halted}
use Rattle.promises.proofs.Readings.{stays_missing}

-- Missing, and announced or not held back by an inhibit time.
pub record Pending (c : Core) : Type 0 where
  pub alive : is_live c ≡ true
  pub lost : good c ≡ false
  pub free : (c.announced ≡ false) ⊎ (c.timers.inhibit ≡ 0)

-- then the emergency waits until it has announced that
pub pending_may : (c : Core) → Pending c → on (communication c).emergency ≡ true → c.announced ≡ true → is_alerting c ≡ true
pending_may c p o n = ⊎_elim (λ t. true_false (sym n ∙ t)) (λ (i : c.timers.inhibit ≡ 0). rw (p.alive, o, i, p.lost, n)) p.free

-- once announced it stays announced
told_act : (c : Core) (a : Act) → (Halts a → ⊥) → good c ≡ false → c.announced ≡ false → (acted c a).announced ≡ false
told_act c nothing n g t = t
told_act c (enter o) n g t = t
told_act c (reset r) n g t = absurd (n (resetting r))
told_act c boot n g t = t
told_act c idle n g t = t
told_act c (send emergency) n g t = g
told_act c (send sdo_reply) n g t = t
told_act c (send heartbeat) n g t = t
told_act c (send (tpdo w)) n g t = t
told_act c (take r) n g t = t
told_act c lose n g t = t
told_act c time n g t = t
told_act c sync n g t = t
told_act c (serve s) n g t = t

-- only sending the emergency starts an inhibit time, and that announces
stays_free : (c : Core) (a : Act) → good c ≡ false → c.timers.inhibit ≡ 0
    → ((acted c a).announced ≡ false) ⊎ ((acted c a).timers.inhibit ≡ 0)
stays_free c nothing g i = inr i
stays_free c (enter o) g i = inr i
stays_free c (reset r) g i = inr refl
stays_free c boot g i = inr refl
stays_free c idle g i = inr i
stays_free c (send emergency) g i = inl g
stays_free c (send sdo_reply) g i = inr i
stays_free c (send heartbeat) g i = inr i
stays_free c (send (tpdo w)) g i = inr i
stays_free c (take r) g i = inr i
stays_free c lose g i = inr i
stays_free c time g i = inr (rw i)
stays_free c sync g i = inr i
stays_free c (serve s) g i = inr (inhibit_after c s.effect ∙ i)

module _ (n : ℕ) (h : Head) (q : node h.core ≡ n) (v : Valid h) where
  no_halt : (x : Call) → is_command n stops_or_resets x ≡ false → Halts (meant h x) → ⊥
  no_halt x e s = by_call x e (halted h v x s)
    where
      by_call : (x : Call) → is_command n stops_or_resets x ≡ false → HaltedBy h x → ⊥
      by_call (receive f) e (k, m, t) = true_false (sym (halts_so n h f q k m t) ∙ e)
      by_call tick e b = b
      by_call (sample s) e b = b
      by_call slot e b = b

  pub stays_told : (x : Call) → is_command n stops_or_resets x ≡ false → good h.core ≡ false → h.core.announced ≡ false
      → (step h x).core.announced ≡ false
  stays_told x e g t = ap (λ c. c.announced) (core_step h x) ∙ told_act h.core (meant h x) (no_halt x e) g t

  pub stays_pending : (x : Call) → is_good_sample x ≡ false → is_command n stops_or_resets x ≡ false → Pending h.core
      → Pending (step h x).core
  stays_pending x g e p =
      record {
        alive = rw (core_step h x) (stays_live h.core (meant h x) (no_halt x e) p.alive);
        lost = stays_missing h v x g p.lost;
        free =
            ⊎_elim (λ t. inl (stays_told x e p.lost t)) (λ i. rw (core_step h x) (stays_free h.core (meant h x) p.lost i))
            p.free;
      }
