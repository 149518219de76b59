-- What a received frame means, from the parts of a head that decide it: 01, chapters "States", "The waiting line" and "Service
-- requests". Reviewers can skip this file: it follows the code, and proofs/Heard.antt proves that it is what `promises` says.
use Rattle.std.specs.Prelude.{ℕ, ◌+◌, eqb, leb, not, ◌&&◌, ◌||◌, cond, List, [], ◌∷◌, Option, None, Some, Result, Ok, Err}
use Rattle.cases.specs.Cases.{first_of}
use Rattle.can.specs.declared.Received.{Received}
use Rattle.can.specs.declared.Refusal.{Refusal}
use Rattle.can.specs.Frame.{refusal_of, refusal_with}
use Rattle.names.specs.declared.Transfer.{Transfer}
use Rattle.names.specs.Transfer.{no_transfer}
use Rattle.entries.specs.declared.Device.{Device}
use Rattle.entries.specs.Keys.{error_count_key, save_key, load_key, operating_key}
use Rattle.sdo.specs.declared.reply.Effect.{Effect}
use Rattle.sdo.specs.declared.reply.Effect.TheVariants.{Nothing, Reply, Write}
use Rattle.sdo.specs.declared.reply.Served.{Served}
use Rattle.sdo.specs.Service.{answer}
use Rattle.sdo.specs.Upload.{due_in}
use Rattle.waiting.specs.Line as line
use Rattle.waiting.specs.Line.{has}
use Rattle.parts.specs.declared.Nmt.{Nmt}
use Rattle.promises.specs.States.{operational, stopped, code, live, initialising_code, command_of}
use Rattle.nmt.specs.declared.Order.{Order}
use Rattle.nmt.specs.declared.Order.TheVariants.{Enter, Reset}
use Rattle.nmt.specs.Orders.{order_of}
use Rattle.server.specs.declared.effect.Write.{Write as AcceptedWrite}
use Rattle.steps.specs.declared.hear.Heard.{Heard}
use Rattle.steps.specs.declared.hear.Way.{Way}
use Rattle.steps.specs.declared.hear.Way.TheVariants.{Replies, Syncs, Configures, Scales, Enters, Resets, Saves, Empties, Ends}

abbrev pub heard_as : Option Transfer → Way → Heard
heard_as t way = record { transfer = t; way = way }

abbrev pub synced_by : Nmt → ℕ → Option Heard
synced_by s length = cond (leb length 1 && eqb s.code (code operational)) (Some (heard_as None Syncs)) None

-- Entering Stopped ends a transfer, as a reset does.
abbrev pub ended_by : Nmt → Option Transfer
ended_by s = cond (eqb s.code (code stopped)) (Some no_transfer) None

abbrev pub ordered_by : Order → Heard
ordered_by (Enter s) = heard_as (ended_by s) (Enters s)
ordered_by (Reset all) = heard_as (Some no_transfer) (Resets all)

-- an order, or none
abbrev pub commanded_by : Option Order → Option Heard
commanded_by None = None
commanded_by (Some o) = Some (ordered_by o)

-- by the name of what is written
abbrev pub write_way : AcceptedWrite → Way
write_way w =
    cond (eqb w.key error_count_key) (Empties w.reply)
    (cond (eqb w.key save_key || eqb w.key load_key) (Saves w.reply w.key)
    (cond (leb operating_key w.key) (Scales w) (Configures w)))

abbrev pub effect_way : List ℕ → Effect → Way
effect_way b Nothing = Ends
effect_way b Reply = Replies b
effect_way b (Write k v) = write_way (record { reply = b; key = k; value = v })

abbrev pub served_by : Served → Heard
served_by s = heard_as (Some s.transfer) (effect_way s.bytes s.effect)

abbrev pub requested_by : Nmt → Device → Transfer → List ℕ → Received → Option Heard
requested_by s d t l f =
    cond (eqb f.length 8 && live s && not (has line.sdo_reply l))
    (Some (served_by (answer f.bytes (due_in d (eqb s.code (code operational)) t f.bytes))))
    None

abbrev pub unrefused_by : Nmt → Device → Transfer → List ℕ → Received → Option Heard
unrefused_by s d t l f =
    first_of (
    (f.extended || f.remote || eqb s.code initialising_code, None) ∷
    (eqb f.identifier 0x000, commanded_by (order_of s (command_of d.node f))) ∷
    (eqb f.identifier 0x080, synced_by s f.length) ∷
    (eqb f.identifier (0x600 + d.node), requested_by s d t l f) ∷ [])
    None

abbrev pub heard_by : Nmt → Device → Transfer → List ℕ → Received → Result (Option Heard) Refusal
heard_by s d t l f = cond (eqb (refusal_of f) 0) (Ok (unrefused_by s d t l f)) (Err (refusal_with (refusal_of f)))
