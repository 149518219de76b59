-- A property of "no effect" and of everything that the head's identifiers can mean is a property of what any frame means.
use Prim.Native.Nat.{◌+◌}
use mathlib.Core.Path.{◌≡◌}
use mathlib.Core.Bool.{false, ◌||◌}
use borrow.Author.Tests.{eqb-true}
use Rattle.cases.proofs.Cases.{by, neither}
use Rattle.can.specs.declared.Received.{Received}
use Rattle.can.specs.Frame.{refusal_of}
use Rattle.parts.specs.declared.Core.{Core}
use Rattle.parts.specs.declared.Head.{Head}
use Rattle.promises.specs.States.{is_initialising, node, command_of}
use Rattle.promises.specs.Acts.{Act, nothing}
use Rattle.promises.specs.Calls.{receive, commanded, synchronised, requested, meant}
use Rattle.promises.specs.Meant.{Heard}

module _ (h : Head) (f : Received) (P : Act → Type 0) where
  abbrev c : Core
  c = h.core

  pub heard_by_law : P nothing
      → (Heard h f → f.identifier ≡ 0x000 → P (commanded c (command_of (node c) f)))
      → (Heard h f → f.identifier ≡ 0x080 → P (synchronised c f.length))
      → (Heard h f → f.identifier ≡ 0x600 + node c → P (requested h f))
      → P (meant h (receive f))
  heard_by_law none command sync request =
      by P _
      (λ u. by P _ (λ _. none)
      (λ n. let x : Heard h f = record { unrefused = eqb-true (refusal_of f) 0 u; heard = n } in
      by P _ (λ e. command x (eqb-true _ _ e))
      (λ _. by P _ (λ e. sync x (eqb-true _ _ e))
      (λ _. by P _ (λ e. request x (eqb-true _ _ e)) (λ _. none)))))
      (λ _. none)

pub booted : {h : Head} {f : Received} → Heard h f → is_initialising h.core ≡ false
booted {h} {f} x = (neither (f.extended || f.remote) (is_initialising h.core) x.heard).1
