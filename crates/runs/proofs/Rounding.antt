-- Proves `Rounding` of specs/Rounding.antt by computation.
use native.Mathlib.Omega.{arith}
use mathlib.Core.Path.{refl}
use Rattle.entries.specs.Table.{table, lookup}
use Rattle.dictionary.specs.Reads.{shown}
use Rattle.dictionary.specs.Writes.{put}
use Rattle.sdo.specs.Service.{due}
use Rattle.sdo.specs.Upload.{due_in}
use Rattle.promises.specs.Acts.{settled_to, act}
use Rattle.promises.specs.ByEntries.{ScaledCount}
use Rattle.promises.proofs.Service.{is_request_law}
use Rattle.runs.specs.Rounding.{scale, Rounding}

four : ScaledCount scale 7 4
four = record { off = λ e. omega (arith, e); on = λ _. record { nearest = λ k. omega arith; upper = λ k e. omega (arith, e) } }

pub rounding : Rounding
unfolding table lookup shown put due due_in act settled_to
rounding =
    record {
      scale_read = record { operating = refl; range = refl; step = refl; offset = refl };
      sampled = refl;
      count = four;
      presets = record { requests = (is_request_law _ _).0 refl; accepted = refl };
      in_reply = refl;
      by_event = refl;
      at_sync = refl;
      in_preset = refl;
      before_range = refl;
      turned = refl;
      scaling_off = refl;
    }
