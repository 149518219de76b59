-- The boot-up frame waits until the next slot, after any other calls.
use Prim.Native.Nat.{ℕ, ◌+◌}
use native.Mathlib.Omega.{arith}
use lib.Dec.{ltb}
use mathlib.Core.Path.{◌≡◌, refl, ap, ◌∙◌}
use mathlib.Core.Bool.{true, false}
use mathlib.Core.List.{List, [], ◌∷◌}
use Rattle.cases.proofs.Cases.{by, test, true_false}
use Rattle.waiting.specs.Line.{has}
use Rattle.parts.specs.declared.Head.{Head}
use Rattle.parts.specs.declared.Sensor.TheVariants.{Missing, Raw}
use Rattle.position.specs.Profile.{highest_raw}
use Rattle.promises.specs.States.{is_initialising, node}
use Rattle.promises.specs.WaitingLine.{number}
use Rattle.promises.specs.Acts.{acted}
use Rattle.promises.specs.Calls.{Call, receive, tick, sample, slot, is_slot, step}
use Rattle.promises.specs.Valid.{Valid}
use Rattle.promises.specs.Histories.{after, slots}
use Rattle.promises.specs.Meant.{not_booted}
use Rattle.promises.specs.FiveSlots.{one_byte, BootUpWaits}
use Rattle.promises.proofs.Nothing.{step_nothing}
use Rattle.promises.proofs.Valid.{valid_step}
use Rattle.promises.proofs.Unmeant.{not_meant}
use Rattle.promises.proofs.Slots.{answers, boots as boots-now, none_waits}
use Rattle.promises.proofs.Meant.{core_step}
use Rattle.promises.proofs.SameNode.{node_step}

-- In Initialising no call but a slot leaves it.
starting_stays : (h : Head) (c : Call) → Valid h → is_initialising h.core ≡ true → is_slot c ≡ false
    → is_initialising (step h c).core ≡ true
starting_stays h (receive f) v i s = ap (λ (g : Head). is_initialising g.core) (not_meant h f v (not_booted i)) ∙ i
starting_stays h tick v i s = ap (λ (g : Head). is_initialising g.core) (step_nothing h tick refl (rw i) refl) ∙ i
starting_stays h (sample Missing) v i s = rw (core_step h (sample Missing)) i
starting_stays h (sample (Raw r)) v i s =
    rw (core_step h (sample (Raw r))) (by (λ a. is_initialising (acted h.core a) ≡ true) (ltb highest_raw r) (λ _. i) (λ _. i))
starting_stays h slot v i s = true_false s

pub boots : (n : ℕ) (cs : List Call) (h : Head) → Valid h → is_initialising h.core ≡ true → node h.core ≡ n → slots cs ≡ 0
    → BootUpWaits n (after h cs)
boots n [] h v i q z =
    let b = answers h (boots-now h i) in
    record {
      initialising = i;
      only = λ k. ap (has (number k)) (none_waits h v i);
      waited = b.0;
      answer = b.1 ∙ ap (λ m. one_byte (0x700 + m) 0x00) q;
    }
boots n (c ∷ cs) h v i q z =
    test (is_slot c)
    (λ s. absurd (omega (arith, rw s at z)))
    (λ s. boots n cs (step h c) (valid_step h c v) (starting_stays h c v i s) (node_step h v c ∙ q) (omega (arith, rw s at z)))
