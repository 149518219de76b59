-- From a frame to what it means, and back from what it means to which frame it was.
use Prim.Native.Nat.{ℕ, ◌+◌}
use native.Mathlib.Omega.{arith}
use lib.Dec.{eqb, leb}
use mathlib.Core.Path.{◌≡◌, refl, sym, ap, ◌∙◌}
use mathlib.Core.Bool.{true, false, not, ◌&&◌, ◌||◌}
use borrow.Author.Tests.{eqb-true, eq-eqb, ne_eqb, leb-true, not-true}
use Rattle.cases.proofs.Cases.{by, both}
use Rattle.can.specs.declared.Received.{Received}
use Rattle.can.specs.Frame.{refusal_of}
use Rattle.dictionary.specs.Writes.{own_key}
use Rattle.sdo.specs.Reply.{replies, confirmed}
use Rattle.sdo.specs.Service.{Due, answer}
use Rattle.waiting.specs.Line as line
use Rattle.waiting.specs.Line.{has}
use Rattle.parts.specs.declared.Head.{Head}
use Rattle.promises.specs.States.{operational, is_in, is_initialising, is_live, node, Command, no_command, to_enter, to_reset, command_of}
use Rattle.promises.specs.Acts.{Act, nothing, enter, reset, boot, idle, send, take, lose, time, sync, serve, acted}
use Rattle.promises.specs.Calls.{receive, is_served, commanded, served, is_heard, is_asked, meant, step}
use Rattle.promises.specs.Valid.{Valid}
use Rattle.promises.specs.Meant.{Heard, Commands, Requests, Synchronises, Writes, due_to}
use Rattle.promises.proofs.Waits.{reply_waiting}
use Rattle.promises.proofs.Hearing.{heard_by_law}
use Rattle.promises.proofs.Meant.{core_step}

-- Which frame it was; the acts that no frame means are none of these.
abbrev pub Cause : Head → Received → Act → Type 0
Cause h f nothing = Unit {0}
Cause h f (enter g) = Commands h f (to_enter g) × (is_in g h.core ≡ false)
Cause h f (reset r) = Commands h f (to_reset r)
Cause h f boot = ⊥
Cause h f idle = ⊥
Cause h f (send k) = ⊥
Cause h f (take r) = ⊥
Cause h f lose = ⊥
Cause h f time = ⊥
Cause h f sync = Synchronises h f
Cause h f (serve s) = Requests h f × (s ≡ answer f.bytes (due_to h f))

module _ (h : Head) (f : Received) (v : Valid h) where
  pub requests : Requests h f → meant h (receive f) ≡ served (answer f.bytes (due_to h f))
  requests r =
      rw (
        eq-eqb _ _ r.hears.unrefused,
        r.hears.heard,
        ne_eqb f.identifier 0x000 (λ e. omega (arith, e, r.identifier)),
        ne_eqb f.identifier 0x080 (λ e. omega (arith, e, r.identifier)),
        eq-eqb f.identifier (0x600 + node h.core) r.identifier,
        eq-eqb _ _ r.length,
        r.live,
        reply_waiting h v,
        r.free,
      )

  -- it is one that is served
  pub asked_by : Requests h f → is_asked h f ≡ true
  asked_by r =
      rw (
        eq-eqb _ _ r.hears.unrefused,
        r.hears.heard,
        eq-eqb f.identifier (0x600 + node h.core) r.identifier,
        eq-eqb _ _ r.length,
        r.live,
        reply_waiting h v,
        r.free,
      )

  -- by what is due
  pub means : Requests h f → {y : Due} → due_to h f ≡ y → meant h (receive f) ≡ served (answer f.bytes y)
  means r e = requests r ∙ ap (λ y. served (answer f.bytes y)) e

  pub writes : {k n : ℕ} → Writes h f k n → (step h (receive f)).core ≡ acted h.core (serve (confirmed f.bytes (own_key k) n))
  writes w = core_step h (receive f) ∙ ap (acted h.core) (means w.requests w.accepted)

  by_command : (x : Heard h f) → f.identifier ≡ 0x000 → (k : Command) → command_of (node h.core) f ≡ k
      → Cause h f (commanded h.core k)
  by_command x i no_command e = tt
  by_command x i (to_enter g) e = by (Cause h f) (is_in g h.core) (λ _. tt) (λ n. (record { hears = x; identifier = i; says = e }, n))
  by_command x i (to_reset r) e = record { hears = x; identifier = i; says = e }

  pub by_request : (x : Heard h f) → f.identifier ≡ 0x600 + node h.core
      → (eqb f.length 8 && is_live h.core && not (has line.sdo_reply h.line)) ≡ true → Requests h f
  by_request x i t =
      let free = not (has line.sdo_reply h.line) in
      let u = both (eqb f.length 8 && is_live h.core) free t in
      let w = both (eqb f.length 8) (is_live h.core) u.0 in
      record {
        hears = x;
        identifier = i;
        length = eqb-true f.length 8 w.0;
        live = w.1;
        free = sym (reply_waiting h v) ∙ not-true _ u.1;
      }

  pub asked_so : is_asked h f ≡ true → Requests h f
  asked_so q =
      let a = both (is_heard h f && eqb f.identifier (0x600 + node h.core)) (is_served h f) q in
      let b = both (is_heard h f) (eqb f.identifier (0x600 + node h.core)) a.0 in
      let c = both (eqb (refusal_of f) 0) (not (f.extended || f.remote || is_initialising h.core)) b.0 in
      by_request (record { unrefused = eqb-true _ _ c.0; heard = not-true _ c.1 }) (eqb-true _ _ b.1) a.1

  pub by_sync : (x : Heard h f) → f.identifier ≡ 0x080 → (leb f.length 1 && is_in operational h.core) ≡ true → Synchronises h f
  by_sync x i t =
      let u = both (leb f.length 1) (is_in operational h.core) t in
      record { hears = x; identifier = i; length = leb-true f.length 1 u.0; operational = u.1 }

  pub cause : Cause h f (meant h (receive f))
  cause =
      heard_by_law h f (Cause h f) tt (λ x i. by_command x i (command_of (node h.core) f) refl)
      (λ x i. by (Cause h f) (leb f.length 1 && is_in operational h.core) (λ t. by_sync x i t) (λ _. tt))
      (λ x i. by (Cause h f) (eqb f.length 8 && is_live h.core && not (has line.sdo_reply h.line))
      (λ t. by (Cause h f) (replies (answer f.bytes (due_to h f)).effect) (λ _. (by_request x i t, refl)) (λ _. tt))
      (λ _. tt))
