-- Power-up and calls leave valid heads: a property of every valid head is a property of every reachable head.
use Prim.Native.Nat.{ℕ, ◌≤◌}
use native.Mathlib.Omega.{arith}
use lib.Dec.{leb}
use mathlib.Core.Path.{◌≡◌, refl}
use borrow.Author.Tests.{leb-true, not-false}
use Rattle.cases.proofs.Cases.{by, both}
use Rattle.entries.specs.declared.Identity.{Identity}
use Rattle.entries.specs.Identity.{has_names}
use Rattle.cases.specs.Tests.{within}
use mathlib.Core.Bool.{not}
use mathlib.Core.List.{List, [], ◌∷◌, ◌++◌}
use Rattle.parts.specs.declared.Head.{Head}
use Rattle.parts.specs.declared.Answer.{Answer}
use Rattle.promises.specs.States.{started}
use Rattle.promises.specs.Calls.{Call, step, no_identity}
use Rattle.promises.specs.Valid.{Valid}
use Rattle.promises.specs.Histories.{after, PowerUp, powered, Reachable}
use Rattle.promises.proofs.Valid.{valid_step, valid_started}

pub after_append : (h : Head) (before cs : List Call) → after h (before ++ cs) ≡ after (after h before) cs
after_append h [] cs = refl
after_append h (c ∷ before) cs = after_append (step h c) before cs

pub valid_after : (h : Head) (cs : List Call) → Valid h → Valid (after h cs)
valid_after h [] v = v
valid_after h (c ∷ cs) v = valid_after (step h c) cs (valid_step h c v)

-- what holds of every head as power-up leaves it
pub at_power_up {ℓ} : (P : Head → Type ℓ) → ((n : ℕ) (i : Identity) → P (started n i)) → (p : PowerUp) → P (powered p)
at_power_up P s p =
    by (λ (a : Answer). P a.head) (not (within 1 127 p.number)) (λ _. s 1 no_identity)
    (λ _. by (λ (a : Answer). P a.head) (not (has_names p.identity)) (λ _. s 1 no_identity) (λ _. s p.number p.identity))

-- a head whose power-up is refused
pub valid_refused : Valid (started 1 no_identity)
valid_refused =
    valid_started 1 no_identity (omega arith) (omega arith)
    (record {
      fits = record {
        vendor = least;
        product = least;
        revision = least;
        serial = least;
        arrays = (refl, refl, refl);
      };
      named = refl;
    })
  where
    least : 0 ≤ 0xFFFFFFFF
    least = omega arith

pub valid_powered : (p : PowerUp) → Valid (powered p)
valid_powered p =
    let n = p.number in
    let i = p.identity in
    by (λ (a : Answer). Valid a.head) (not (within 1 127 n)) (λ _. valid_refused)
    (λ e. by (λ (a : Answer). Valid a.head) (not (has_names i)) (λ _. valid_refused)
    (λ u. let bounds = both (leb 1 n) (leb n 127) (not-false _ e) in
    valid_started n i (leb-true _ _ bounds.0) (leb-true _ _ bounds.1) (record { fits = p.fits; named = not-false _ u })))

pub valid_reachable : (h : Head) → Reachable h → Valid h
valid_reachable h r = rw r.so (valid_after (powered r.start) r.calls (valid_powered r.start))
