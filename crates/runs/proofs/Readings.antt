-- Proves `Positioning` of specs/Readings.antt by computation.
use mathlib.Core.Path.{◌≡◌, refl, sym, ◌∙◌}
use mathlib.Core.Bool.{Bool, true, false, not}
use Rattle.cases.proofs.Cases.{true_false}
use Rattle.entries.specs.Table.{table, lookup}
use Rattle.dictionary.specs.Reads.{shown}
use Rattle.dictionary.specs.Writes.{put}
use Rattle.sdo.specs.Service.{due}
use Rattle.sdo.specs.Upload.{due_in}
use Rattle.parts.specs.declared.Head.{Head}
use Rattle.parts.specs.declared.Sensor.TheVariants.{Raw}
use Rattle.promises.specs.Acts.{settled_to, act}
use Rattle.promises.specs.Calls.{Call, receive, tick, sample, slot, bad_sample}
use Rattle.promises.specs.Readings.{Moves, samples, writes, resets}
use Rattle.promises.proofs.Service.{is_request_law}
use Rattle.runs.specs.Readings.{Positioning}

-- a frame or a sample that is taken
abbrev may_move : Call → Bool
may_move (receive f) = true
may_move tick = false
may_move (sample s) = not (bad_sample s)
may_move slot = false

moves_so : (h : Head) (c : Call) → Moves h c → may_move c ≡ true
moves_so h _ (samples s b) = rw b
moves_so h _ (writes f k v w r) = refl
moves_so h _ (resets f x) = refl

still : (h : Head) (c : Call) → may_move c ≡ false → Moves h c → ⊥
still h c e m = true_false (sym (moves_so h c m) ∙ e)

pub positioning : Positioning
unfolding table lookup shown put due due_in act settled_to
positioning =
    record {
      blank_at_first = refl;
      presets = record { requests = (is_request_law _ _).0 refl; accepted = refl };
      unmoved = (still _ tick refl, (still _ (sample (Raw 1048576)) refl, (still _ slot refl, tt)));
      reads_preset = refl;
      waits = refl;
      shows = refl;
    }
