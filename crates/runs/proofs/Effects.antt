-- Proves the runs of specs/Effects.antt by computation: a head, made by calls from power-up,
-- that takes a write to every rw entry. It makes the calls of `ready`, one write after another.
use Prim.Native.Nat.{ℕ}
use lib.IntN.{pos}
use mathlib.Core.Path.{◌≡◌, refl, sym, ap, ap₂, subst, ◌∙◌}
use mathlib.Core.Bool.{Bool, true, false}
use mathlib.Core.List.{List, [], ◌∷◌, ◌++◌, map}
use Rattle.cases.proofs.Cases.{Each, ◌▸◌, end}
use Rattle.cases.specs.Padded.{pad}
use Rattle.entries.specs.declared.Reading.{Reading}
use Rattle.entries.specs.declared.Settings.{Settings}
use Rattle.entries.specs.declared.table.Row.{Row}
use Rattle.std.specs.Prelude.{Ok as At}
use Rattle.entries.specs.Settings.{pdo, factory}
use Rattle.entries.specs.Table.{table, lookup}
use Rattle.dictionary.specs.Accepted.{abort_code}
use Rattle.dictionary.specs.Reads.{shown}
use Rattle.dictionary.specs.Writes.{put}
use Rattle.dictionary.specs.Worked.{save, load, writes as allWrites, identity1}
use Rattle.sdo.specs.Request.{index_of, sub_of}
use Rattle.sdo.specs.Service.{confirmation, due_of, due}
use Rattle.sdo.specs.Upload.{due_in}
use Rattle.sdo.specs.Worked.{bytes}
use Rattle.waiting.specs.Line.{places}
use Rattle.parts.specs.declared.Head.{Head}
use Rattle.parts.specs.declared.Sensor.TheVariants.{Raw}
use Rattle.promises.specs.States.{pre_operational, state, at_rest, unfixed}
use Rattle.names.specs.Transfer.{no_transfer}
use Rattle.promises.specs.Acts.{settled_to, act}
use Rattle.promises.specs.Calls.{Call, sample, slot}
use Rattle.promises.specs.Meant.{Requests, due_to}
use Rattle.promises.specs.Histories.{after}
use Rattle.promises.specs.Node1.{node1, to_node1, writes}
use Rattle.runs.specs.Effects.{ready, writing, Met, MetWhenReady}
use Rattle.runs.proofs.Node1.{reached}

-- Node 1, Pre-operational, with that reading, that announced, these settings and that last reply; nothing waits.
abbrev pub standing : Reading → Bool → Settings → List ℕ → Head
standing r told s reply =
    record {
      core = record {
        device = record { node = 1; identity = identity1; reading = r; errors = 0; settings = s; saved = factory 1 };
        nmt = state pre_operational;
        announced = told;
        timers = at_rest;
        reply = reply;
        fixed = unfixed;
      };
      transfer = no_transfer;
      line = pad places [];
    }

pub asked : (r : Reading) (told : Bool) (s : Settings) (reply b : List ℕ) → Requests (standing r told s reply) (to_node1 b)
asked r told s reply b =
    record { hears = record { unrefused = refl; heard = refl }; identifier = refl; length = refl; live = refl; free = refl }

-- at the raw position 100, with these identifiers of the PDOs, 6000h, 6002h and reply
abbrev settings : ℕ → ℕ → ℕ → ℕ → Settings
settings id1 id2 operating range =
    record {
      communication = record { emergency = 0x81; inhibit = 0; heartbeat = 0; pdo1 = pdo id1 254 100; pdo2 = pdo id2 1 0 };
      profile = record { operating = operating; range = range; preset = 0; step = 5000; offset = pos 0 };
    }

abbrev at : ℕ → ℕ → ℕ → ℕ → List ℕ → Head
at id1 id2 operating range reply = standing (record { good = true; raw = 100 }) true (settings id1 id2 operating range) reply

abbrev off1 : List Call
off1 = writes (bytes 0x23 0x00 0x18 0x01 0x81 0x01 0x00 0x80)

abbrev off2 : List Call
off2 = writes (bytes 0x23 0x01 0x18 0x01 0x81 0x02 0x00 0x80)

abbrev scale : List Call
scale = writes (bytes 0x2B 0x00 0x60 0x00 0x04 0x00 0 0)

abbrev fresh : Head
fresh = at 0x181 0x281 0 1048576 (pad 8 [])

abbrev one_off : Head
one_off = at 0x80000181 0x281 0 1048576 (bytes 0x60 0x00 0x18 0x01 0 0 0 0)

abbrev both_off : Head
both_off = at 0x80000181 0x80000281 0 1048576 (bytes 0x60 0x01 0x18 0x01 0 0 0 0)

abbrev scaled : Head
scaled = at 0x80000181 0x80000281 4 1000000 (bytes 0x60 0x00 0x60 0x00 0 0 0 0)

to_fresh : after node1 (slot ∷ sample (Raw 100) ∷ []) ≡ fresh
unfolding act settled_to
to_fresh = refl

to_one_off : after fresh off1 ≡ one_off
unfolding table lookup put due due_in act settled_to
to_one_off = refl

to_both_off : after one_off off2 ≡ both_off
unfolding table lookup put due due_in act settled_to
to_both_off = refl

to_scaled : after both_off scale ≡ scaled
unfolding table lookup put due due_in act settled_to
to_scaled = refl

ready_is : after node1 ready ≡ scaled
ready_is =
    ap (λ h. after h (off1 ++ off2 ++ scale)) to_fresh ∙ ap (λ h. after h (off2 ++ scale)) to_one_off
    ∙ ap (λ h. after h scale) to_both_off ∙ to_scaled

-- what is found first, and then what is due
module _ (w : ℕ × ℕ) where
  abbrev f : List ℕ
  f = (writing w).bytes

  found : (r : Row) → lookup (index_of f) (sub_of f) ≡ At r → due_of scaled.core.device false f (At r) ≡ confirmation w.0 w.1
      → due_to scaled (writing w) ≡ confirmation w.0 w.1
  unfolding due due_in
  found r e a = ap (due_of scaled.core.device false f) e ∙ a

each_written : Each (λ w. due_to scaled (writing w) ≡ confirmation w.0 w.1) allWrites
unfolding table lookup
each_written =
    found (0x1003_00, 0) _ refl refl
    ▸ found (0x1010_01, save) _ refl refl
    ▸ found (0x1011_01, load) _ refl refl
    ▸ found (0x1014_00, 0x80000081) _ refl refl
    ▸ found (0x1015_00, 10) _ refl refl
    ▸ found (0x1017_00, 1000) _ refl refl
    ▸ found (0x1800_01, 0x181) _ refl refl
    ▸ found (0x1800_02, 240) _ refl refl
    ▸ found (0x1800_05, 7) _ refl refl
    ▸ found (0x1801_01, 0x57F) _ refl refl
    ▸ found (0x1801_02, 255) _ refl refl
    ▸ found (0x1801_05, 65535) _ refl refl
    ▸ found (0x6000_00, 12) _ refl refl
    ▸ found (0x6002_00, 1000) _ refl refl
    ▸ found (0x6003_00, 999999) _ refl refl
    ▸ found (0x6005_01, 10000) _ refl refl
    ▸ found (0x6200_00, 8) _ refl refl
    ▸ end

in_turn : {A B : Type 0} (f g : A → B) {l : List A} → Each (λ a. f a ≡ g a) l → map f l ≡ map g l
in_turn f g end = refl
in_turn f g (e ▸ es) = ap₂ ◌∷◌ e (in_turn f g es)

pub met : MetWhenReady
unfolding table lookup abort_code shown due due_in
met =
    subst Met (sym ready_is)
    (record {
      reachable = reached ready _ (sym ready_is);
      requests = asked _ _ _ _;
      each = refl;
      accepted = in_turn _ _ each_written;
      aborted = refl;
      read = refl;
      client_aborts = refl;
    })
