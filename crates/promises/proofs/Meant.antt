-- What a call with an effect does.
use Prim.Native.Nat.{◌+◌}
use lib.Dec.{eqb, ltb, leb}
use mathlib.Core.Path.{◌≡◌, refl, sym, ap, ◌∙◌}
use mathlib.Core.Bool.{Bool, true, false, not, ◌&&◌, beq, and-false}
use borrow.Author.Tests.{eqb-true, eq-eqb}
use Rattle.cases.proofs.Cases.{by, true_false}
use Rattle.can.specs.declared.Received.{Received}
use Rattle.sdo.specs.declared.reply.Effect.{Effect}
use Rattle.sdo.specs.declared.reply.Effect.TheVariants.{Nothing, Reply, Write}
use Rattle.waiting.specs.Line.{first}
use Rattle.waiting.specs.Places.{waiting}
use Rattle.parts.specs.declared.Core.{Core}
use Rattle.parts.specs.declared.Head.{Head}
use Rattle.parts.specs.declared.Sensor.TheVariants.{Missing, Raw}
use Rattle.position.specs.Profile.{highest_raw}
use Rattle.promises.specs.States.{CommandedState, operational, code, state, is_in, is_initialising, is_live, node}
use Rattle.promises.specs.States.{good, Reset, Command, no_command, to_enter, to_reset, command_of}
use Rattle.promises.specs.WaitingLine.{Kind, emergency, sdo_reply, heartbeat, tpdo, number, may_stay, may_join}
use Rattle.promises.specs.Acts.{Act, send, acted, moments_of, timers_after, settled_to, act}
use Rattle.promises.specs.Calls.{Call, receive, tick, sample, slot, is_served, commanded, meant, step}
use Rattle.promises.specs.Valid.{waits, Valid}
use Rattle.promises.specs.Meant.{Commands}
use Rattle.promises.specs.Resets.{Restarted}
use Rattle.promises.proofs.KindNumbers.{sent_as_law}
use Rattle.promises.proofs.Hearing.{heard_by_law}
use Rattle.promises.proofs.Waits.{waits_act, reply_waiting}
use Rattle.promises.proofs.Slots.{sends_first}

-- the core after a call is what its act makes of it
pub core_step : (h : Head) (c : Call) → (step h c).core ≡ acted h.core (meant h c)
unfolding act settled_to
core_step h c = refl

module _ (h : Head) (f : Received) where
  pub commands : {k : Command} → Commands h f k → meant h (receive f) ≡ commanded h.core k
  commands m = rw (eq-eqb _ _ m.hears.unrefused, m.hears.heard, eq-eqb _ _ m.identifier, m.says)

  pub enters : (g : CommandedState) → Commands h f (to_enter g) → (step h (receive f)).core.nmt ≡ state g
  enters g m =
      ap (λ c. c.nmt) (core_step h (receive f) ∙ ap (acted h.core) (commands m))
      ∙ by (λ a. (acted h.core a).nmt ≡ state g) (is_in g h.core)
      (λ e. ap (λ n. record { code = n }) (eqb-true h.core.nmt.code (code g) e)) (λ _. refl)

  pub resets : (r : Reset) → Commands h f (to_reset r) → Restarted r h.core (step h (receive f)).core
  resets r m =
      rw (core_step h (receive f), commands m)
      (record { initialising = refl; timers = refl; announced = refl; settings = refl; saved = refl; reading = refl; errors = refl })

-- no request alters a running inhibit time
pub inhibit_after : (c : Core) (e : Effect) → (timers_after c e).inhibit ≡ c.timers.inhibit
inhibit_after c Nothing = refl
inhibit_after c Reply = refl
inhibit_after c (Write k v) = refl

-- an act that leaves the reply's bytes
module _ (c : Core) where
  abbrev Same : Act → Type 0
  Same a = (acted c a).reply ≡ c.reply

  reply_sent : (k : Kind) → Same (send k)
  reply_sent emergency = refl
  reply_sent sdo_reply = refl
  reply_sent heartbeat = refl
  reply_sent (tpdo w) = refl

  reply_commanded : (k : Command) → Same (commanded c k)
  reply_commanded no_command = refl
  reply_commanded (to_enter g) = by Same (is_in g c) (λ _. refl) (λ _. refl)
  reply_commanded (to_reset r) = refl

-- The reply's bytes stay at every call but a request that is served,
module _ (h : Head) where
  abbrev pub Unserved : Call → Type 0
  Unserved (receive f) = f.identifier ≡ 0x600 + node h.core → is_served h f ≡ false
  Unserved tick = Unit {0}
  Unserved (sample s) = Unit {0}
  Unserved slot = Unit {0}

  reply_stays : (x : Call) → Unserved x → Same h.core (meant h x)
  reply_stays (receive f) u =
      heard_by_law h f (Same h.core) refl (λ _ _. reply_commanded h.core (command_of (node h.core) f))
      (λ _ _. by (Same h.core) (leb f.length 1 && is_in operational h.core) (λ _. refl) (λ _. refl))
      (λ _ i. by (Same h.core) (is_served h f) (λ e. true_false (sym e ∙ u i)) (λ _. refl))
  reply_stays tick u = by (Same h.core) (is_initialising h.core) (λ _. refl) (λ _. refl)
  reply_stays (sample Missing) u = refl
  reply_stays (sample (Raw r)) u = by (Same h.core) (ltb highest_raw r) (λ _. refl) (λ _. refl)
  reply_stays slot u =
      by (Same h.core) (is_initialising h.core) (λ _. refl)
      (λ _. sent_as_law (Same h.core) (first h.line) refl (reply_sent h.core))

  pub reply_kept : (x : Call) → Unserved x → (step h x).core.reply ≡ h.core.reply
  reply_kept x u = ap (λ c. c.reply) (core_step h x) ∙ reply_stays x u

-- so at every call while a reply waits.
module _ (h : Head) (v : Valid h) (w : waits h sdo_reply ≡ true) where
  unserved : (x : Call) → Unserved h x
  unserved (receive f) = λ _. rw (reply_waiting h v, w, and-false (eqb f.length 8 && is_live h.core))
  unserved tick = tt
  unserved (sample s) = tt
  unserved slot = tt

  pub reply_fixed : (x : Call) → (step h x).core.reply ≡ h.core.reply
  reply_fixed x = reply_kept h x (unserved x)

beq_self : (b : Bool) → beq b b ≡ true
beq_self true = refl
beq_self false = refl

-- a slot that sends
module _ (h : Head) (v : Valid h) (i : is_initialising h.core ≡ false) where
  -- what is sent does not join in the same call
  sent_rests : (k : Kind) → (moments_of h.core (send k) k && may_join (acted h.core (send k)) k) ≡ false
  sent_rests emergency = rw (beq_self (good h.core)) (simp and-false)
  sent_rests sdo_reply = refl
  sent_rests heartbeat = refl
  sent_rests (tpdo w) = refl

  pub leaves : (k : Kind) → first (waiting h.line) ≡ number k → waits (step h slot) k ≡ false
  leaves k e =
      let c = h.core in
      rw (sends_first h v i k e, waits_act true h (send k) v k, eq-eqb _ _ e, sent_rests k)
      (and-false (not (may_stay c k && not (may_stay (acted c (send k)) k))))
