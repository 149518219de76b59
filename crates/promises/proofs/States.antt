-- An act that fits leaves a named state, and Initialising as power-up and a reset leave it.
use mathlib.Core.Path.{◌≡◌, refl, sym, ◌∙◌}
use mathlib.Core.Bool.{Bool, true, false}
use borrow.Author.Tests.{eqb-true}
use Rattle.cases.proofs.Cases.{true_false}
use Rattle.parts.specs.declared.Core.{Core}
use Rattle.promises.specs.States.{CommandedState, operational, stopped, pre_operational, initialising_code, state, is_in, is_initialising}
use Rattle.promises.specs.States.{is_live, at_rest}
use Rattle.promises.specs.WaitingLine.{emergency, sdo_reply, heartbeat, tpdo}
use Rattle.promises.specs.Acts.{Act, nothing, enter, reset, boot, idle, send, take, lose, time, sync, serve, acted}
use Rattle.promises.specs.Valid.{is_named}
use Rattle.promises.proofs.Fits.{Fits}

pub named_act : (c : Core) (a : Act) → is_named c ≡ true → is_named (acted c a) ≡ true
named_act c nothing e = e
named_act c (enter operational) e = refl
named_act c (enter stopped) e = refl
named_act c (enter pre_operational) e = refl
named_act c (reset r) e = refl
named_act c boot e = refl
named_act c idle e = e
named_act c (send emergency) e = e
named_act c (send sdo_reply) e = e
named_act c (send heartbeat) e = e
named_act c (send (tpdo w)) e = e
named_act c (take r) e = e
named_act c lose e = e
named_act c time e = e
named_act c sync e = e
named_act c (serve s) e = e

-- Initialising is neither Operational nor Pre-operational.
pub not_operational : (c : Core) → is_initialising c ≡ true → is_in operational c ≡ false
not_operational c i = rw (eqb-true c.nmt.code initialising_code i)

pub not_live : (c : Core) → is_initialising c ≡ true → is_live c ≡ false
not_live c i = rw (eqb-true c.nmt.code initialising_code i)

-- a state that is entered from Operational is another
pub elsewhere : (c d : Core) (g : CommandedState) → is_in operational c ≡ true → is_in g c ≡ false → d.nmt ≡ state g
    → is_in operational d ≡ false
elsewhere c d operational y n e = true_false (sym y ∙ n)
elsewhere c d stopped y n e = rw e
elsewhere c d pre_operational y n e = rw e

abbrev pub Fresh : Core → Type 0
Fresh c = is_initialising c ≡ true → (c.announced ≡ true) × (c.timers ≡ at_rest)

pub fresh_act : (atSlot : Bool) (c : Core) (a : Act) → Fits atSlot c a → Fresh c → Fresh (acted c a)
fresh_act b c nothing f h = h
fresh_act b c (enter operational) f h = λ i. true_false (sym i)
fresh_act b c (enter stopped) f h = λ i. true_false (sym i)
fresh_act b c (enter pre_operational) f h = λ i. true_false (sym i)
fresh_act b c (reset r) f h = λ i. (refl, refl)
fresh_act b c boot f h = λ i. true_false (sym i)
fresh_act b c idle f h = h
fresh_act b c (send emergency) f h = λ i. true_false (sym i ∙ f)
fresh_act b c (send sdo_reply) f h = h
fresh_act b c (send heartbeat) f h = h
fresh_act b c (send (tpdo w)) f h = h
fresh_act b c (take r) f h = h
fresh_act b c lose f h = h
fresh_act b c time f h = λ i. true_false (sym i ∙ f)
fresh_act b c sync f h = λ i. true_false (sym f ∙ not_operational c i)
fresh_act b c (serve s) f h = λ i. true_false (sym f.0 ∙ not_live c i)
