-- An act that fits leaves a valid device.
use Prim.Native.Nat.{ℕ, ◌≤◌}
use native.Mathlib.Omega.{arith}
use lib.Dec.{ltb}
use mathlib.Core.Path.{◌≡◌, refl}
use mathlib.Core.Bool.{Bool, false, ◌&&◌}
use borrow.Author.Tests.{ltb-true}
use Rattle.cases.proofs.Cases.{by, both, true_false}
use Rattle.position.specs.Profile.{highest_raw}
use Rattle.entries.specs.declared.Device.{Device}
use Rattle.entries.specs.declared.Reading.{Reading}
use Rattle.dictionary.specs.Valid.{ValidSettings, ValidDevice}
use Rattle.sdo.proofs.UploadLaws.{uploads}
use Rattle.parts.specs.declared.Core.{Core}
use Rattle.promises.specs.States.{operational, is_in, Reset, of_node, of_communication, restored}
use Rattle.promises.specs.WaitingLine.{emergency, sdo_reply, heartbeat, tpdo}
use Rattle.promises.specs.Acts.{Act, nothing, enter, reset, boot, idle, send, take, lose, time}
use Rattle.promises.specs.Acts.{sync, serve, sensed, reset_to, errors_after, acted}
use Rattle.promises.proofs.Fits.{Fits}

module _ {d : Device} (v : ValidDevice d) where
  sensed_valid : (r : Reading) (e : ℕ) → r.raw ≤ highest_raw → (r.good ≡ false → r.raw ≡ 0) → e ≤ 4 → ValidDevice (sensed d r e)
  sensed_valid r e low blank few =
      record {
        node_low = v.node_low;
        node_high = v.node_high;
        identity = v.identity;
        raw = low;
        raw_missing = blank;
        errors = few;
        settings = v.settings;
        saved = v.saved;
      }

  few_errors : errors_after d ≤ 4
  few_errors =
      let one_less = ltb d.errors 4 in
      by (λ n. n ≤ 4) (d.reading.good && one_less) (λ e. omega (arith, ltb-true d.errors 4 (both d.reading.good one_less e).1))
      (λ _. v.errors)

  restored_valid : (r : Reset) → ValidSettings d.node (restored r d.settings d.saved)
  restored_valid of_node = v.saved
  restored_valid of_communication = record { communication = v.saved.communication; profile = v.settings.profile }

  reset_valid : (r : Reset) → ValidDevice (reset_to d (restored r d.settings d.saved))
  reset_valid r =
      record {
        node_low = v.node_low;
        node_high = v.node_high;
        identity = v.identity;
        raw = v.raw;
        raw_missing = v.raw_missing;
        errors = v.errors;
        settings = restored_valid r;
        saved = v.saved;
      }

pub device_act : (atSlot : Bool) (c : Core) (a : Act) → Fits atSlot c a → ValidDevice c.device → ValidDevice (acted c a).device
device_act b c nothing f v = v
device_act b c (enter g) f v = v
device_act b c (reset r) f v = reset_valid v r
device_act b c boot f v = v
device_act b c idle f v = v
device_act b c (send emergency) f v = v
device_act b c (send sdo_reply) f v = v
device_act b c (send heartbeat) f v = v
device_act b c (send (tpdo w)) f v = v
device_act b c (take r) f v = sensed_valid v _ _ f (λ e. true_false e) v.errors
device_act b c lose f v = sensed_valid v _ _ (omega arith) (λ _. refl) (few_errors v)
device_act b c time f v = v
device_act b c sync f v = v
device_act b c (serve s) f v = rw f.1.1.1 ((uploads c.device (is_in operational c) f.1.0 f.1.1.0).valid v)
