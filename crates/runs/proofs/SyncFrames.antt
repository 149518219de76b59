-- Proves `FixedAtSync` of specs/SyncFrames.antt by computation.
use Prim.Native.Nat.{◌≤◌}
use native.Mathlib.Omega.{arith}
use mathlib.Core.Path.{◌≡◌, refl}
use mathlib.Core.List.{◌++◌}
use Rattle.entries.specs.Table.{table, lookup}
use Rattle.dictionary.specs.Reads.{shown}
use Rattle.dictionary.specs.Writes.{put}
use Rattle.sdo.specs.Service.{due}
use Rattle.sdo.specs.Upload.{due_in}
use Rattle.promises.specs.Acts.{settled_to, act}
use Rattle.promises.specs.States.{two}
use Rattle.promises.specs.Histories.{PowerUp, powered}
use Rattle.promises.specs.SyncFrames.{Belongs}
use Rattle.promises.specs.Node1.{node1}
use Rattle.promises.proofs.OneBeam.{sync_frames}
use Rattle.runs.specs.SyncFrames.{running, often, seldom, FixedAtSync}

of_type_1 : (1 ≤ 1) × (1 ≤ 240)
of_type_1 = (omega arith, omega arith)

module _ (p : PowerUp) (e : powered p ≡ node1) where
  first_head : Belongs p (running ++ often) two
  unfolding table lookup shown put due due_in act settled_to
  first_head = sync_frames.belongs p (running ++ often) two (rw e refl) (rw e of_type_1)

  second_head : Belongs p (running ++ seldom) two
  unfolding table lookup shown put due due_in act settled_to
  second_head = sync_frames.belongs p (running ++ seldom) two (rw e refl) (rw e of_type_1)

pub fixed_at_sync : FixedAtSync
unfolding table lookup shown put due due_in act settled_to
fixed_at_sync =
    record {
      fixed = refl;
      anew = refl;
      missing = refl;
      passed_over = refl;
      found_again = refl;
      not_due = refl;
      due_again = refl;
      each_its_own = refl;
      direction = refl;
      preset = refl;
      range = refl;
      step = refl;
      taken_back = (refl, refl, refl, refl, refl);
      taken_back_missing = (refl, refl, refl);
      given_alike = refl;
      each_slot = refl;
      one_slot = refl;
      first_head = first_head;
      second_head = second_head;
    }
