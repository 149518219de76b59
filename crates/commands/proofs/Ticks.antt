-- Laws for the loop of `commands::tick`.
use Prim.Native.Nat.{ℕ, ◌+◌}
use mathlib.Core.Path.{◌≡◌, ◌∙◌}
use native.Mathlib.Numerals.{add-one}
use Rattle.parts.specs.declared.Head.{Head}
use Rattle.promises.specs.Calls.{tick, step}
use Rattle.transcript.specs.Commands.{ticks}

pub tick_more : (i : ℕ) (h : Head) {next r : Head} → next ≡ ticks i h → r ≡ step next tick → r ≡ ticks (i + 1) h
tick_more i h p e = e ∙ rw (p, add-one i)

pub tick_all : {i n : ℕ} (h : Head) {next : Head} → next ≡ ticks i h → i ≡ n → next ≡ ticks n h
tick_all h p e = p ∙ rw e
