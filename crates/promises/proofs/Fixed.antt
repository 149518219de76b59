-- What is fixed at a SYNC: which acts change it, and that it is a position.
use Prim.Native.Nat.{◌<◌}
use native.Mathlib.Omega.{arith}
use mathlib.Core.Path.{◌≡◌, refl}
use mathlib.Core.Bool.{Bool, true, false}
use Rattle.cases.proofs.Cases.{by, true_false}
use Rattle.position.proofs.Laws.{laws as position-laws}
use Rattle.dictionary.specs.Valid.{ValidDevice}
use Rattle.parts.specs.declared.Core.{Core}
use Rattle.promises.specs.States.{PdoNumber, one, two, fixed_for, unfixed}
use Rattle.promises.specs.WaitingLine.{emergency, sdo_reply, heartbeat, tpdo, present}
use Rattle.promises.specs.Acts.{Act, nothing, enter, reset, boot, idle, send, take, lose, time, sync, serve, fixes_now, fixed_by_sync, acted}

-- whether an act is a SYNC
abbrev pub synchronises : Act → Bool
synchronises nothing = false
synchronises (enter g) = false
synchronises (reset r) = false
synchronises boot = false
synchronises idle = false
synchronises (send k) = false
synchronises (take r) = false
synchronises lose = false
synchronises time = false
synchronises sync = true
synchronises (serve s) = false

module _ (c : Core) where
  pub still_fixed : (a : Act) → synchronises a ≡ false → (acted c a).fixed ≡ c.fixed
  still_fixed nothing e = refl
  still_fixed (enter g) e = refl
  still_fixed (reset r) e = refl
  still_fixed boot e = refl
  still_fixed idle e = refl
  still_fixed (send emergency) e = refl
  still_fixed (send sdo_reply) e = refl
  still_fixed (send heartbeat) e = refl
  still_fixed (send (tpdo w)) e = refl
  still_fixed (take r) e = refl
  still_fixed lose e = refl
  still_fixed time e = refl
  still_fixed sync e = true_false e
  still_fixed (serve s) e = refl

  pub fixed_by : (w : PdoNumber) → fixed_for (acted c sync).fixed w ≡ fixed_by_sync c w
  fixed_by one = refl
  fixed_by two = refl

  pub present_below : ValidDevice c.device → present c < 1048576
  present_below v =
      omega (
        arith,
        (position-laws.positions c.device.settings.profile c.device.reading.raw v.settings.profile).below,
        v.settings.profile.high,
      )

  module _ (v : ValidDevice c.device) (f : (w : PdoNumber) → fixed_for c.fixed w < 1048576) where
    abbrev Positions : Act → Type 0
    Positions a = (w : PdoNumber) → fixed_for (acted c a).fixed w < 1048576

    kept : (a : Act) → synchronises a ≡ false → Positions a
    kept a e w = rw (still_fixed a e) (f w)

    pub fixed_act : (a : Act) → Positions a
    fixed_act sync w = rw (fixed_by w) (by (λ n. n < 1048576) (fixes_now c w) (λ _. present_below v) (λ _. f w))
    fixed_act nothing w = kept nothing refl w
    fixed_act (enter g) w = kept (enter g) refl w
    fixed_act (reset r) w = kept (reset r) refl w
    fixed_act boot w = kept boot refl w
    fixed_act idle w = kept idle refl w
    fixed_act (send k) w = kept (send k) refl w
    fixed_act (take r) w = kept (take r) refl w
    fixed_act lose w = kept lose refl w
    fixed_act time w = kept time refl w
    fixed_act (serve s) w = kept (serve s) refl w

pub none_fixed : (w : PdoNumber) → fixed_for unfixed w < 1048576
none_fixed one = omega arith
none_fixed two = omega arith
