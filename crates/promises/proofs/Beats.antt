-- The heartbeat's timer is the remainder of the ticks that the calls count.
use Prim.Native.Nat.{ℕ, suc}
use lib.Dec.{eqb}
use mathlib.Core.Path.{◌≡◌, refl, ap₂}
use mathlib.Core.Bool.{Bool, false, ◌||◌, cond}
use Rattle.cases.proofs.Cases.{test, true_false}
use Rattle.entries.specs.Keys.{heartbeat_key}
use Rattle.dictionary.specs.Writes.{put}
use Rattle.dictionary.proofs.Own.{own_other}
use Rattle.sdo.specs.declared.reply.Effect.{Effect}
use Rattle.sdo.specs.declared.reply.Effect.TheVariants.{Nothing, Reply, Write}
use Rattle.sdo.specs.Reply.{carried_out}
use Rattle.parts.specs.declared.Core.{Core}
use Rattle.parts.specs.declared.Head.{Head}
use Rattle.promises.specs.States.{is_initialising, communication}
use Rattle.promises.specs.WaitingLine.{emergency, sdo_reply, heartbeat, tpdo}
use Rattle.promises.specs.Acts.{Act, nothing, enter, reset, boot, idle, send, take, lose, time, sync, serve, timers_after, acted}
use Rattle.promises.specs.Calls.{Call, is_slot, meant, step}
use Rattle.promises.specs.Valid.{Valid}
use Rattle.promises.specs.Moments.{count_by, is_period, beats_anew, beat_counts}
use Rattle.promises.proofs.Fits.{Fits, fits}
use Rattle.promises.proofs.Meant.{core_step}
use Rattle.promises.proofs.Remainders.{Rest, anew, one_more}
use Rattle.promises.proofs.Tested.{Marks, marks, effect_to, tested}

-- while timers do not stand
abbrev pub Beats : Core → ℕ → Type 0
Beats c n = is_initialising c ≡ false → Rest (communication c).heartbeat c.timers.heartbeat n

-- the count after an act
abbrev beat_by : Marks → ℕ → ℕ
beat_by m n = cond (m.boots || effect_to is_period m.effect) 0 (cond m.times (suc n) n)

module _ (c : Core) (n : ℕ) where
  by_write : (e : Effect) → Rest (communication c).heartbeat c.timers.heartbeat n
      → Rest (carried_out c.device e).settings.communication.heartbeat (timers_after c e).heartbeat (cond (effect_to is_period e) 0 n)
  unfolding put
  by_write Nothing r = r
  by_write Reply r = r
  by_write (Write k v) r = test (eqb k heartbeat_key) (λ e. rw e (anew v)) (λ e. rw e r)

  beats_act : (b : Bool) (a : Act) → Fits b c a → Beats c n → Beats (acted c a) (beat_by (marks a) n)
  beats_act b nothing f r i = r i
  beats_act b (enter g) f r i = r f
  beats_act b (reset x) f r i = true_false i
  beats_act b boot f r i = anew (communication c).heartbeat
  beats_act b idle f r i = r i
  beats_act b (send emergency) f r i = r i
  beats_act b (send sdo_reply) f r i = r i
  beats_act b (send heartbeat) f r i = r i
  beats_act b (send (tpdo w)) f r i = r i
  beats_act b (take x) f r i = r i
  beats_act b lose f r i = r i
  beats_act b time f r i = one_more _ _ _ (r i)
  beats_act b sync f r i = r i
  beats_act b (serve s) f r i = by_write s.effect (r i)

module _ (h : Head) (n : ℕ) (v : Valid h) (x : Call) where
  same_count : count_by beats_anew beat_counts h x n ≡ beat_by (marks (meant h x)) n
  same_count =
      let t = tested h v x in
      ap₂ (λ (anew ticks : Bool). cond anew 0 (cond ticks (suc n) n)) (ap₂ (λ (a b : Bool). a || b) t.boots (t.written is_period (λ k _. own_other k heartbeat_key refl refl)))
      t.beats

  pub beats_step : Beats h.core n → Beats (step h x).core (count_by beats_anew beat_counts h x n)
  beats_step r = rw (same_count, core_step h x) (beats_act h.core n (is_slot x) (meant h x) (fits h x) r)
