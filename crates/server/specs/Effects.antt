-- What a request changes in the parts of a head: 01, chapter "Service requests". Reviewers can skip this file:
-- it follows the code, and proofs/Requests.antt proves that the head with these parts is what `promises` says.
use Rattle.std.specs.Prelude.{ℕ, eqb, Bool, true, false, not, ◌&&◌, cond, List}
use Rattle.std.specs.Bool.{beq}
use Rattle.position.specs.declared.Profile.{Profile}
use Rattle.entries.specs.declared.Communication.{Communication}
use Rattle.entries.specs.declared.Settings.{Settings}
use Rattle.entries.specs.Settings.{factory}
use Rattle.entries.specs.Keys.{save_key}
use Rattle.dictionary.specs.Writes.{communication_after, profile_after}
use Rattle.waiting.specs.Line as line
use Rattle.waiting.specs.Line.{first}
use Rattle.waiting.specs.Places.{join_in}
use Rattle.waiting.specs.Calls.{joins_in, withdraws_in}
use Rattle.parts.specs.declared.Nmt.{Nmt}
use Rattle.parts.specs.declared.Timers.{Timers}
use Rattle.promises.specs.States.{pdo}
use Rattle.promises.specs.WaitingLine.{Kind, emergency, sdo_reply, heartbeat, tpdo, those, may_alert, may_beat, may_keep}
use Rattle.promises.specs.Timers.{timers_written}
use Rattle.server.specs.declared.effect.Replied.{Replied}
use Rattle.server.specs.declared.effect.Written.{Written}
use Rattle.server.specs.declared.effect.Configured.{Configured}

abbrev pub reply_joins : List ℕ → List ℕ
reply_joins l = join_in l line.sdo_reply

abbrev pub replied_by : List ℕ → List ℕ → Replied
replied_by l reply = record { reply = reply; line = reply_joins l }

-- a part as a write leaves it, while its reply waits
abbrev pub written_by : {T : Type 0} → T → List ℕ → List ℕ → Written T
written_by part l reply = record { part = part; reply = reply; line = reply_joins l }

abbrev pub emptied_by : List ℕ → List ℕ → Written ℕ
emptied_by l reply = written_by 0 l reply

abbrev pub kept_by : ℕ → Settings → ℕ → Settings
kept_by node settings k = cond (eqb k save_key) settings (factory node)

abbrev pub saved_by : ℕ → Settings → List ℕ → List ℕ → ℕ → Written Settings
saved_by node settings l reply k = written_by (kept_by node settings k) l reply

abbrev pub scaled_by : Profile → ℕ → List ℕ → List ℕ → ℕ → ℕ → Written Profile
scaled_by p raw l reply k v = written_by (profile_after p raw k v) l reply

-- who may not wait with these settings; a request is served where its reply may
abbrev pub leaves_at : Nmt → Communication → ℕ → Bool → Bool → Kind → Bool
leaves_at s k inhibit good announced emergency = not (may_alert s k.emergency inhibit good announced)
leaves_at s k inhibit good announced sdo_reply = false
leaves_at s k inhibit good announced heartbeat = not (may_beat s k.heartbeat)
leaves_at s k inhibit good announced (tpdo w) = not (may_keep s (pdo k w) good)

abbrev pub joins_at : Nmt → Communication → ℕ → Bool → Bool → Kind → Bool
joins_at s k inhibit good announced emergency = may_alert s k.emergency inhibit good announced
joins_at s k inhibit good announced sdo_reply = true
joins_at s k inhibit good announced heartbeat = false
joins_at s k inhibit good announced (tpdo w) = false

-- none waits, and the reading is the one last announced
abbrev pub quiet : List ℕ → Bool → Bool → Bool
quiet l good announced = eqb (first l) 0 && beq good announced

abbrev pub settled_line : List ℕ → Nmt → Communication → ℕ → Bool → Bool → List ℕ
settled_line l s k inhibit good announced =
    joins_in (withdraws_in l (those (leaves_at s k inhibit good announced))) (those (joins_at s k inhibit good announced))

abbrev pub rewritten_by : List ℕ → Nmt → Communication → ℕ → Bool → Bool → List ℕ
rewritten_by l s k inhibit good announced = cond (quiet l good announced) (reply_joins l) (settled_line l s k inhibit good announced)

abbrev pub configured_by : Nmt → Communication → Timers → Bool → Bool → List ℕ → List ℕ → ℕ → ℕ → Configured
configured_by s before t good announced l reply k v =
    let after = communication_after before k v in
    record {
      communication = after;
      timers = timers_written k before after t;
      reply = reply;
      line = rewritten_by l s after t.inhibit good announced;
    }
