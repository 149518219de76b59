-- An NMT command, recognised by its bytes, is one that the head hears, and the other way round.
use Prim.Native.Nat.{ℕ}
use lib.Dec.{eqb}
use mathlib.Core.Path.{◌≡◌, sym, ap, subst, ◌∙◌}
use mathlib.Core.Bool.{not, Bool, true, false, ◌&&◌, ◌||◌, or-true}
use borrow.Author.Tests.{eqb-true, not-true, eq-eqb}
use Rattle.cases.proofs.Cases.{either, by, test, both, neither, true_false}
use Rattle.can.specs.declared.Received.{Received}
use Rattle.parts.specs.declared.Head.{Head}
use Rattle.promises.specs.States.{of_node, of_communication, operational, stopped, pre_operational, is_initialising, node}
use Rattle.promises.specs.States.{Reset, Command, no_command, to_enter, to_reset, command, byte_of, command_of}
use Rattle.promises.specs.Calls.{receive}
use Rattle.promises.specs.Meant.{Heard, Commands}
use Rattle.promises.specs.Service.{takes_reply}
use Rattle.promises.specs.Gap.{is_command, resets, stops_or_resets}

-- the first byte of a stop and of a reset
abbrev Spoken : ℕ → Command → Type 0
Spoken b no_command = Unit {0}
Spoken b (to_enter operational) = Unit {0}
Spoken b (to_enter stopped) = eqb b 0x02 ≡ true
Spoken b (to_enter pre_operational) = Unit {0}
Spoken b (to_reset r) = resets b ≡ true

spoken : (b : ℕ) → Spoken b (command b)
spoken b =
    by (Spoken b) (eqb b 0x01) (λ _. tt)
    (λ _. by (Spoken b) (eqb b 0x02) (λ e. e)
    (λ _. by (Spoken b) (eqb b 0x80) (λ _. tt)
    (λ _. by (Spoken b) (eqb b 0x81) (λ e. rw e)
    (λ _. by (Spoken b) (eqb b 0x82) (λ e. rw e (or-true (eqb b 0x81))) (λ _. tt)))))

module _ (n : ℕ) (h : Head) (f : Received) (q : node h.core ≡ n) where
  -- a command to this head means what its first byte says
  pub commands_so : (t : ℕ → Bool) (k : Command) → Commands h f k → (k ≡ no_command → ⊥) → (Spoken (byte_of f 0) k → t (byte_of f 0) ≡ true)
      → is_command n t (receive f) ≡ true
  commands_so t k m some so =
      let says : command_of n f ≡ k = rw q at m.says in
      test (eqb f.length 2 && (eqb (byte_of f 1) 0 || eqb (byte_of f 1) n))
      (λ a.
      let u = both (eqb f.length 2) (eqb (byte_of f 1) 0 || eqb (byte_of f 1) n) a in
      let plain = (neither (f.extended || f.remote) (is_initialising h.core) m.hears.heard).0 in
      rw (plain, eq-eqb _ _ m.identifier, u.0, u.1) (so (subst (Spoken (byte_of f 0)) (rw a at says) (spoken (byte_of f 0)))))
      (λ a. absurd (some (sym (rw a at says))))

  pub resets_so : (r : Reset) → Commands h f (to_reset r) → is_command n resets (receive f) ≡ true
  resets_so r m = commands_so resets (to_reset r) m (λ e. true_false (ap takes_reply e)) (λ s. s)

  pub halts_so : (k : Command) → Commands h f k → takes_reply k ≡ true → is_command n stops_or_resets (receive f) ≡ true
  halts_so no_command m t = true_false (sym t)
  halts_so (to_enter operational) m t = true_false (sym t)
  halts_so (to_enter stopped) m t = commands_so stops_or_resets (to_enter stopped) m (λ e. true_false (ap takes_reply e)) (λ s. rw s)
  halts_so (to_enter pre_operational) m t = true_false (sym t)
  halts_so (to_reset r) m t =
      commands_so stops_or_resets (to_reset r) m (λ e. true_false (ap takes_reply e)) (λ s. rw s (or-true (eqb (byte_of f 0) 0x02)))

  pub resets_heard : is_initialising h.core ≡ false → is_command n resets (receive f) ≡ true → (r : Reset) × Commands h f (to_reset r)
  resets_heard i e =
      let b = byte_of f 0 in
      let to = eqb (byte_of f 1) 0 || eqb (byte_of f 1) n in
      let plain = not (f.extended || f.remote) in
      let w = both (plain && eqb f.identifier 0x000 && eqb f.length 2 && to) (resets b) e in
      let x = both (plain && eqb f.identifier 0x000 && eqb f.length 2) to w.0 in
      let y = both (plain && eqb f.identifier 0x000) (eqb f.length 2) x.0 in
      let z = both plain (eqb f.identifier 0x000) y.0 in
      let u = not-true (f.extended || f.remote) z.0 in
      let its-identifier : f.identifier ≡ 0x000 = eqb-true f.identifier 0x000 z.1 in
      let length : f.length ≡ 2 = eqb-true f.length 2 y.1 in
      let extended : f.extended ≡ false = (neither f.extended f.remote u).0 in
      let hears : Heard h f = record { unrefused = rw (extended, its-identifier, length); heard = rw (u, i) } in
      let says : command_of (node h.core) f ≡ command b = rw (y.1, rw (← q) at x.1) in
      either (eqb b 0x81) (eqb b 0x82) w.1
      (λ t. (of_node, record { hears = hears; identifier = its-identifier; says = says ∙ ap command (eqb-true b 0x81 t) }))
      (λ t. (of_communication, record { hears = hears; identifier = its-identifier; says = says ∙ ap command (eqb-true b 0x82 t) }))
