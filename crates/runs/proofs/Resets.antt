-- Proves the runs of specs/Resets.antt by computation: "save" and "load", followed by other calls and a reset.
use Prim.Native.Nat.{ℕ}
use lib.Dec.{eqb}
use mathlib.Core.Path.{◌≡◌, refl, sym, ap, subst, ◌∙◌}
use mathlib.Core.Bool.{false}
use mathlib.Core.List.{List, []}
use mathlib.Core.Logic.{inl, inr}
use mathlib.Core.Option.{some}
use borrow.Author.Tests.{eqb-false}
use Rattle.cases.specs.Padded.{pad}
use Rattle.can.specs.declared.Received.{Received}
use Rattle.entries.specs.declared.Settings.{Settings}
use Rattle.entries.specs.Settings.{pdo, factory}
use Rattle.entries.specs.Table.{table, lookup}
use Rattle.std.specs.Prelude.{Some as Number}
use Rattle.dictionary.specs.Reads.{shown}
use Rattle.dictionary.specs.Writes.{put}
use Rattle.dictionary.specs.Worked.{save, load}
use Rattle.sdo.specs.Service.{confirmation, due}
use Rattle.sdo.specs.Upload.{due_in}
use Rattle.sdo.specs.Worked.{bytes}
use Rattle.parts.specs.declared.Head.{Head}
use Rattle.promises.specs.States.{missing_reading, of_node, to_reset}
use Rattle.promises.specs.Acts.{settled_to, act}
use Rattle.promises.specs.Calls.{receive, step}
use Rattle.promises.specs.Meant.{Commands, due_to}
use Rattle.promises.specs.Histories.{after}
use Rattle.promises.specs.Node1.{node1, to_node1, writes, to_all}
use Rattle.promises.specs.Worked.{missing}
use Rattle.promises.specs.Readings.{reads_in}
use Rattle.promises.specs.Resets.{Saves, None}
use Rattle.runs.specs.Effects.{writing}
use Rattle.runs.specs.Resets.{beating, between, Met, MetBySave, MetByLoad, Restoring}
use Rattle.runs.proofs.Effects.{standing, asked}
use Rattle.runs.proofs.Node1.{reached}

-- missing and told, with this 1017h and reply
abbrev settings : ℕ → Settings
settings period =
    record {
      communication = record { emergency = 0x81; inhibit = 0; heartbeat = period; pdo1 = pdo 0x181 254 100; pdo2 = pdo 0x281 1 0 };
      profile = (factory 1).profile;
    }

abbrev at : ℕ → List ℕ → Head
at period reply = standing missing_reading false (settings period) reply

abbrev settled : Head
settled = at 1000 (bytes 0x60 0x17 0x10 0x00 0 0 0 0)

to_missing : after node1 missing ≡ at 0 (pad 8 [])
unfolding act settled_to
to_missing = refl

to_settled : after (at 0 (pad 8 [])) (writes (bytes 0x2B 0x17 0x10 0x00 0xE8 0x03 0 0)) ≡ settled
unfolding table lookup put due due_in act settled_to
to_settled = refl

beating_is : after node1 beating ≡ settled
beating_is = ap (λ h. after h (writes (bytes 0x2B 0x17 0x10 0x00 0xE8 0x03 0 0))) to_missing ∙ to_settled

-- a write of another entry
other_written : (h : Head) (f : Received) (k n : ℕ) → due_to h f ≡ confirmation k n → eqb k 0x1010_01 ≡ false → eqb k 0x1011_01 ≡ false
    → Saves h (receive f) → ⊥
other_written h f k n e a b (v, inl w) = let q = w.accepted in eqb-false k 0x1010_01 a (cc)
other_written h f k n e a b (v, inr w) = let q = w.accepted in eqb-false k 0x1011_01 b (cc)

module _ (b : List ℕ) (k v n : ℕ) where
  abbrev f : Received
  f = to_node1 b

  met : due_to settled f ≡ confirmation k v → None Saves (step settled (receive f)) between
      → Commands (after (step settled (receive f)) between) (to_all 0x81) (to_reset of_node)
      → reads_in (step (after (step settled (receive f)) between) (receive (to_all 0x81))) 0x1017 0 ≡ some (Number n)
      → Met (after node1 beating) f k v n
  met accepted none_saves commands reads_again =
      subst (λ h. Met h f k v n) (sym beating_is)
      (record {
        reachable = reached beating _ (sym beating_is);
        written = record { requests = asked _ _ _ _ b; accepted = accepted };
        none_saves = none_saves;
        commands = commands;
        reads_again = reads_again;
      })

pub met_by_save : MetBySave
unfolding table lookup shown put due due_in act settled_to
met_by_save =
    met (writing (0x1010_01, save)).bytes 0x1010_01 save 1000 refl
    (λ x. x, (other_written _ _ 0x1017_00 500 refl refl refl, (λ x. x, tt)))
    (record { hears = record { unrefused = refl; heard = refl }; identifier = refl; says = refl })
    refl

pub met_by_load : MetByLoad
unfolding table lookup shown put due due_in act settled_to
met_by_load =
    met (writing (0x1011_01, load)).bytes 0x1011_01 load 0 refl
    (λ x. x, (other_written _ _ 0x1017_00 500 refl refl refl, (λ x. x, tt)))
    (record { hears = record { unrefused = refl; heard = refl }; identifier = refl; says = refl })
    refl

pub restoring : Restoring
unfolding table lookup shown put due due_in act settled_to
restoring = record { saves = refl; changes = (refl, refl); all = (refl, refl); below = (refl, refl) }
