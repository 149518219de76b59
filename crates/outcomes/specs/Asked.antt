-- `Asked`: what each public function requires of its arguments, and that it requires no more. So its promise holds for every input: a head
-- that comes from power-up and calls may receive any frame and answer any line, refused ones too. 01, chapter "Strength of the promises".
use Rattle.std.specs.Prelude.{◌*◌, ◌<◌, ◌≤◌, length}
use mathlib.Core.Path.{refl}
use Rattle.position.specs.Profile.{ValidProfile}
use Rattle.dictionary.specs.Writes.{Fits}
use Rattle.waiting.specs.Line.{places}
use Rattle.waiting.specs.Places.{waiting as waitingIn, Holds}
use Rattle.promises.specs.Histories.{Reachable}
use Rattle.promises.specs.Valid.{Valid}
use Rattle.text.specs.Lines.{longest}
use Rattle.head.specs.Writable.{Writable}
use Rattle.can.specs.contracts as can
use Rattle.names.specs.contracts as names
use Rattle.waiting.specs.contracts as waiting
use Rattle.position.specs.contracts as position
use Rattle.entries.specs.contracts as entries
use Rattle.dictionary.specs.contracts as dictionary
use Rattle.acceptance.specs.contracts as acceptance
use Rattle.values.specs.contracts as values
use Rattle.writes.specs.contracts as writes
use Rattle.requests.specs.contracts as requests
use Rattle.replies.specs.contracts as replies
use Rattle.serving.specs.contracts as serving
use Rattle.states.specs.contracts as states
use Rattle.counting.specs.contracts as counting
use Rattle.emergency.specs.contracts as emergency
use Rattle.heartbeat.specs.contracts as heartbeat
use Rattle.tpdo.specs.contracts as tpdo
use Rattle.settling.specs.contracts as settling
use Rattle.nmt.specs.contracts as nmt
use Rattle.server.specs.contracts as server
use Rattle.samples.specs.contracts as samples
use Rattle.steps.specs.contracts as steps
use Rattle.head.specs.contracts as head
use Rattle.lent.specs.contracts as lent
use Rattle.lines.specs.contracts as lines
use Rattle.numbers.specs.contracts as numbers
use Rattle.parsing.specs.contracts as parsing
use Rattle.printing.specs.contracts as printing
use Rattle.commands.specs.contracts as commands
use Rattle.feeding.specs.contracts as feeding
use Rattle.outcomes.specs.Outcome.{AsksNothingOf, AsksOnlyOf, AsksOnlyOfBoth}

pub record Asked : Type 0 where
  pub can·Refusal·number : AsksNothingOf can.Refusal.number.ended (λ M 𝓤. can.Refusal.number.clauses) (λ M 𝓤 𝓛 m f κs a. (tt, λ g. refl))
  pub can·number_in : AsksNothingOf can.number_in.ended (λ M 𝓤. can.number_in.clauses) (λ M 𝓤 𝓛 m f κs a. (tt, λ g. refl))
  pub can·checked : AsksNothingOf can.checked.ended (λ M 𝓤. can.checked.clauses) (λ M 𝓤 𝓛 m f κs a. (tt, λ g. refl))
  pub can·word : AsksNothingOf can.word.ended (λ M 𝓤. can.word.clauses) (λ M 𝓤 𝓛 m f κs a. (tt, λ g. refl))
  pub can·long : AsksNothingOf can.long.ended (λ M 𝓤. can.long.clauses) (λ M 𝓤 𝓛 m f κs a. (tt, λ g. refl))
  pub can·long_bytes : AsksNothingOf can.long_bytes.ended (λ M 𝓤. can.long_bytes.clauses) (λ M 𝓤 𝓛 m f κs a. (tt, λ g. refl))
  pub can·bits : AsksNothingOf can.bits.ended (λ M 𝓤. can.bits.clauses) (λ M 𝓤 𝓛 m f κs a. (tt, λ g. refl))
  pub names·is_name : AsksNothingOf names.is_name.ended (λ M 𝓤. names.is_name.clauses) (λ M 𝓤 𝓛 m f κs a. (tt, λ g. refl))
  pub names·unknown : AsksNothingOf names.unknown.ended (λ M 𝓤. names.unknown.clauses) (λ M 𝓤 𝓛 m f κs a. (tt, λ g. refl))
  pub names·short : AsksNothingOf names.short.ended (λ M 𝓤. names.short.clauses) (λ M 𝓤 𝓛 m f κs a. (tt, λ g. refl))
  pub names·runs : AsksNothingOf names.runs.ended (λ M 𝓤. names.runs.clauses) (λ M 𝓤 𝓛 m f κs a. (tt, λ g. refl))
  pub names·started : AsksNothingOf names.started.ended (λ M 𝓤. names.started.clauses) (λ M 𝓤 𝓛 m f κs a. (tt, λ g. refl))
  pub names·toggle : AsksNothingOf names.toggle.ended (λ M 𝓤. names.toggle.clauses) (λ M 𝓤 𝓛 m f κs a. (tt, λ g. refl))
  pub names·named : AsksNothingOf names.named.ended (λ M 𝓤. names.named.clauses) (λ M 𝓤 𝓛 m f κs a. (tt, λ g. refl))
  pub names·segment : AsksNothingOf names.segment.ended (λ M 𝓤. names.segment.clauses) (λ M 𝓤 𝓛 m f κs a. (tt, λ g. refl))
  pub names·next : AsksNothingOf names.next.ended (λ M 𝓤. names.next.clauses) (λ M 𝓤 𝓛 m f κs a. (tt, λ g. refl))
  pub waiting·none : AsksNothingOf waiting.none.ended (λ M 𝓤. waiting.none.clauses) (λ M 𝓤 𝓛 m f κs a. (tt, λ g. refl))
  pub waiting·waits : AsksNothingOf waiting.waits.ended (λ M 𝓤. waiting.waits.clauses) (λ M 𝓤 𝓛 m f κs a. (tt, λ g. refl))
  pub waiting·join : AsksNothingOf waiting.join.ended (λ M 𝓤. waiting.join.clauses) (λ M 𝓤 𝓛 m f κs a. (tt, λ g. refl))
  pub waiting·withdraw : AsksNothingOf waiting.withdraw.ended (λ M 𝓤. waiting.withdraw.clauses) (λ M 𝓤 𝓛 m f κs a. (tt, λ g. refl))
  pub waiting·first : AsksNothingOf waiting.first.ended (λ M 𝓤. waiting.first.clauses) (λ M 𝓤 𝓛 m f κs a. (tt, λ g. refl))
  pub waiting·taken : AsksOnlyOf waiting.taken.ended (λ κs a. Holds places a.0 (waitingIn a.0)) (λ M 𝓤. waiting.taken.clauses) (λ M 𝓤 𝓛 m f κs a. (tt, λ g. refl))
  pub waiting·join_if : AsksNothingOf waiting.join_if.ended (λ M 𝓤. waiting.join_if.clauses) (λ M 𝓤 𝓛 m f κs a. (tt, λ g. refl))
  pub waiting·withdraw_if : AsksNothingOf waiting.withdraw_if.ended (λ M 𝓤. waiting.withdraw_if.clauses) (λ M 𝓤 𝓛 m f κs a. (tt, λ g. refl))
  pub waiting·join_those : AsksNothingOf waiting.join_those.ended (λ M 𝓤. waiting.join_those.clauses) (λ M 𝓤 𝓛 m f κs a. (tt, λ g. refl))
  pub waiting·withdraw_those : AsksNothingOf waiting.withdraw_those.ended (λ M 𝓤. waiting.withdraw_those.clauses) (λ M 𝓤 𝓛 m f κs a. (tt, λ g. refl))
  pub position·scaling : AsksNothingOf position.scaling.ended (λ M 𝓤. position.scaling.clauses) (λ M 𝓤 𝓛 m f κs a. (tt, λ g. refl))
  pub position·inverted : AsksNothingOf position.inverted.ended (λ M 𝓤. position.inverted.clauses) (λ M 𝓤 𝓛 m f κs a. (tt, λ g. refl))
  pub position·directed_of : AsksOnlyOf position.directed_of.ended (λ κs a. ValidProfile a.0) (λ M 𝓤. position.directed_of.clauses) (λ M 𝓤 𝓛 m f κs a. (tt, λ g. refl))
  pub position·position_of : AsksOnlyOf position.position_of.ended (λ κs a. ValidProfile a.0) (λ M 𝓤. position.position_of.clauses) (λ M 𝓤 𝓛 m f κs a. (tt, λ g. refl))
  pub position·preset_to : AsksOnlyOf position.preset_to.ended (λ κs a. (ValidProfile a.0) × (a.1.1.0 < a.0.range)) (λ M 𝓤. position.preset_to.clauses) (λ M 𝓤 𝓛 m f κs a. (tt, λ g. refl))
  pub entries·Settings·factory : AsksNothingOf entries.Settings.factory.ended (λ M 𝓤. entries.Settings.factory.clauses) (λ M 𝓤 𝓛 m f κs a. (tt, λ g. refl))
  pub entries·name_of : AsksNothingOf entries.name_of.ended (λ M 𝓤. entries.name_of.clauses) (λ M 𝓤 𝓛 m f κs a. (tt, λ g. refl))
  pub entries·table·find : AsksNothingOf entries.table.find.ended (λ M 𝓤. entries.table.find.clauses) (λ M 𝓤 𝓛 m f κs a. (tt, λ g. refl))
  pub entries·table·altered : AsksNothingOf entries.table.altered.ended (λ M 𝓤. entries.table.altered.clauses) (λ M 𝓤 𝓛 m f κs a. (tt, λ g. refl))
  pub entries·table·key_of : AsksNothingOf entries.table.key_of.ended (λ M 𝓤. entries.table.key_of.clauses) (λ M 𝓤 𝓛 m f κs a. (tt, λ g. refl))
  pub dictionary·abort·Abort·code : AsksNothingOf dictionary.abort.Abort.code.ended (λ M 𝓤. dictionary.abort.Abort.code.clauses) (λ M 𝓤 𝓛 m f κs a. (tt, λ g. refl))
  pub acceptance·check_write : AsksNothingOf acceptance.check_write.ended (λ M 𝓤. acceptance.check_write.clauses) (λ M 𝓤 𝓛 m f κs a. (tt, λ g. refl))
  pub acceptance·check_value : AsksNothingOf acceptance.check_value.ended (λ M 𝓤. acceptance.check_value.clauses) (λ M 𝓤 𝓛 m f κs a. (tt, λ g. refl))
  pub acceptance·is_on : AsksNothingOf acceptance.is_on.ended (λ M 𝓤. acceptance.is_on.clauses) (λ M 𝓤 𝓛 m f κs a. (tt, λ g. refl))
  pub values·read : AsksOnlyOf values.read.ended (λ κs a. ValidProfile a.0.settings.profile) (λ M 𝓤. values.read.clauses) (λ M 𝓤 𝓛 m f κs a. (tt, λ g. refl))
  pub writes·write : AsksOnlyOf writes.write.ended (λ κs a. (ValidProfile a.0.settings.profile) × (Fits a.0.settings.profile a.1.0 a.1.1.0)) (λ M 𝓤. writes.write.clauses) (λ M 𝓤 𝓛 m f κs a. (tt, λ g. refl))
  pub writes·communication_after : AsksNothingOf writes.communication_after.ended (λ M 𝓤. writes.communication_after.clauses) (λ M 𝓤 𝓛 m f κs a. (tt, λ g. refl))
  pub writes·profile_after : AsksOnlyOf writes.profile_after.ended (λ κs a. (ValidProfile a.0) × (Fits a.0 a.1.1.0 a.1.1.1.0)) (λ M 𝓤. writes.profile_after.clauses) (λ M 𝓤 𝓛 m f κs a. (tt, λ g. refl))
  pub replies·no_reply : AsksNothingOf replies.no_reply.ended (λ M 𝓤. replies.no_reply.clauses) (λ M 𝓤 𝓛 m f κs a. (tt, λ g. refl))
  pub replies·abort : AsksNothingOf replies.abort.ended (λ M 𝓤. replies.abort.clauses) (λ M 𝓤 𝓛 m f κs a. (tt, λ g. refl))
  pub replies·confirm : AsksNothingOf replies.confirm.ended (λ M 𝓤. replies.confirm.clauses) (λ M 𝓤 𝓛 m f κs a. (tt, λ g. refl))
  pub replies·shown : AsksNothingOf replies.shown.ended (λ M 𝓤. replies.shown.clauses) (λ M 𝓤 𝓛 m f κs a. (tt, λ g. refl))
  pub replies·segment : AsksNothingOf replies.segment.ended (λ M 𝓤. replies.segment.clauses) (λ M 𝓤 𝓛 m f κs a. (tt, λ g. refl))
  pub requests·is_abort : AsksNothingOf requests.is_abort.ended (λ M 𝓤. requests.is_abort.clauses) (λ M 𝓤 𝓛 m f κs a. (tt, λ g. refl))
  pub requests·is_segment : AsksNothingOf requests.is_segment.ended (λ M 𝓤. requests.is_segment.clauses) (λ M 𝓤 𝓛 m f κs a. (tt, λ g. refl))
  pub requests·toggle : AsksNothingOf requests.toggle.ended (λ M 𝓤. requests.toggle.clauses) (λ M 𝓤 𝓛 m f κs a. (tt, λ g. refl))
  pub requests·taken_apart : AsksNothingOf requests.taken_apart.ended (λ M 𝓤. requests.taken_apart.clauses) (λ M 𝓤 𝓛 m f κs a. (tt, λ g. refl))
  pub serving·serve : AsksOnlyOf serving.serve.ended (λ κs a. ValidProfile a.0.settings.profile) (λ M 𝓤. serving.serve.clauses) (λ M 𝓤 𝓛 m f κs a. (tt, λ g. refl))
  pub states·is_initialising : AsksNothingOf states.is_initialising.ended (λ M 𝓤. states.is_initialising.clauses) (λ M 𝓤 𝓛 m f κs a. (tt, λ g. refl))
  pub states·is_operational : AsksNothingOf states.is_operational.ended (λ M 𝓤. states.is_operational.clauses) (λ M 𝓤 𝓛 m f κs a. (tt, λ g. refl))
  pub states·is_live : AsksNothingOf states.is_live.ended (λ M 𝓤. states.is_live.clauses) (λ M 𝓤 𝓛 m f κs a. (tt, λ g. refl))
  pub counting·counted : AsksNothingOf counting.counted.ended (λ M 𝓤. counting.counted.clauses) (λ M 𝓤 𝓛 m f κs a. (tt, λ g. refl))
  pub counting·restarted : AsksNothingOf counting.restarted.ended (λ M 𝓤. counting.restarted.clauses) (λ M 𝓤 𝓛 m f κs a. (tt, λ g. refl))
  pub emergency·may_wait : AsksNothingOf emergency.may_wait.ended (λ M 𝓤. emergency.may_wait.clauses) (λ M 𝓤 𝓛 m f κs a. (tt, λ g. refl))
  pub emergency·frame : AsksNothingOf emergency.frame.ended (λ M 𝓤. emergency.frame.clauses) (λ M 𝓤 𝓛 m f κs a. (tt, λ g. refl))
  pub emergency·inhibit_ticks : AsksOnlyOf emergency.inhibit_ticks.ended (λ κs a. a.0 ≤ 0xFFFF) (λ M 𝓤. emergency.inhibit_ticks.clauses) (λ M 𝓤 𝓛 m f κs a. (tt, λ g. refl))
  pub emergency·ticked : AsksNothingOf emergency.ticked.ended (λ M 𝓤. emergency.ticked.clauses) (λ M 𝓤 𝓛 m f κs a. (tt, λ g. refl))
  pub heartbeat·may_wait : AsksNothingOf heartbeat.may_wait.ended (λ M 𝓤. heartbeat.may_wait.clauses) (λ M 𝓤 𝓛 m f κs a. (tt, λ g. refl))
  pub heartbeat·ticked : AsksNothingOf heartbeat.ticked.ended (λ M 𝓤. heartbeat.ticked.clauses) (λ M 𝓤 𝓛 m f κs a. (tt, λ g. refl))
  pub heartbeat·frame : AsksNothingOf heartbeat.frame.ended (λ M 𝓤. heartbeat.frame.clauses) (λ M 𝓤 𝓛 m f κs a. (tt, λ g. refl))
  pub tpdo·is_synchronous : AsksNothingOf tpdo.is_synchronous.ended (λ M 𝓤. tpdo.is_synchronous.clauses) (λ M 𝓤 𝓛 m f κs a. (tt, λ g. refl))
  pub tpdo·may_join : AsksNothingOf tpdo.may_join.ended (λ M 𝓤. tpdo.may_join.clauses) (λ M 𝓤 𝓛 m f κs a. (tt, λ g. refl))
  pub tpdo·may_stay : AsksNothingOf tpdo.may_stay.ended (λ M 𝓤. tpdo.may_stay.clauses) (λ M 𝓤 𝓛 m f κs a. (tt, λ g. refl))
  pub tpdo·uncounted : AsksNothingOf tpdo.uncounted.ended (λ M 𝓤. tpdo.uncounted.clauses) (λ M 𝓤 𝓛 m f κs a. (tt, λ g. refl))
  pub tpdo·ticked : AsksNothingOf tpdo.ticked.ended (λ M 𝓤. tpdo.ticked.clauses) (λ M 𝓤 𝓛 m f κs a. (tt, λ g. refl))
  pub tpdo·synced : AsksNothingOf tpdo.synced.ended (λ M 𝓤. tpdo.synced.clauses) (λ M 𝓤 𝓛 m f κs a. (tt, λ g. refl))
  pub tpdo·written : AsksNothingOf tpdo.written.ended (λ M 𝓤. tpdo.written.clauses) (λ M 𝓤 𝓛 m f κs a. (tt, λ g. refl))
  pub tpdo·frame : AsksOnlyOf tpdo.frame.ended (λ κs a. ValidProfile a.1.0) (λ M 𝓤. tpdo.frame.clauses) (λ M 𝓤 𝓛 m f κs a. (tt, λ g. refl))
  pub tpdo·sync·sync : AsksOnlyOf tpdo.sync.sync.ended (λ κs a. ValidProfile a.1.0.profile) (λ M 𝓤. tpdo.sync.sync.clauses) (λ M 𝓤 𝓛 m f κs a. (tt, λ g. refl))
  pub settling·joined : AsksNothingOf settling.joined.ended (λ M 𝓤. settling.joined.clauses) (λ M 𝓤 𝓛 m f κs a. (tt, λ g. refl))
  pub nmt·ordered : AsksNothingOf nmt.ordered.ended (λ M 𝓤. nmt.ordered.clauses) (λ M 𝓤 𝓛 m f κs a. (tt, λ g. refl))
  pub nmt·entry·enter : AsksNothingOf nmt.entry.enter.ended (λ M 𝓤. nmt.entry.enter.clauses) (λ M 𝓤 𝓛 m f κs a. (tt, λ g. refl))
  pub nmt·entry·restart : AsksNothingOf nmt.entry.restart.ended (λ M 𝓤. nmt.entry.restart.clauses) (λ M 𝓤 𝓛 m f κs a. (tt, λ g. refl))
  pub nmt·entry·at_rest : AsksNothingOf nmt.entry.at_rest.ended (λ M 𝓤. nmt.entry.at_rest.clauses) (λ M 𝓤 𝓛 m f κs a. (tt, λ g. refl))
  pub server·serves : AsksNothingOf server.serves.ended (λ M 𝓤. server.serves.clauses) (λ M 𝓤 𝓛 m f κs a. (tt, λ g. refl))
  pub server·frame : AsksNothingOf server.frame.ended (λ M 𝓤. server.frame.clauses) (λ M 𝓤 𝓛 m f κs a. (tt, λ g. refl))
  pub server·effect·reply : AsksNothingOf server.effect.reply.ended (λ M 𝓤. server.effect.reply.clauses) (λ M 𝓤 𝓛 m f κs a. (tt, λ g. refl))
  pub server·effect·empty : AsksNothingOf server.effect.empty.ended (λ M 𝓤. server.effect.empty.clauses) (λ M 𝓤 𝓛 m f κs a. (tt, λ g. refl))
  pub server·effect·save : AsksNothingOf server.effect.save.ended (λ M 𝓤. server.effect.save.clauses) (λ M 𝓤 𝓛 m f κs a. (tt, λ g. refl))
  pub server·effect·scale : AsksOnlyOf server.effect.scale.ended (λ κs a. (ValidProfile a.0) × (Fits a.0 a.1.1.1.0.key a.1.1.1.0.value)) (λ M 𝓤. server.effect.scale.clauses) (λ M 𝓤 𝓛 m f κs a. (tt, λ g. refl))
  pub server·effect·configure : AsksNothingOf server.effect.configure.ended (λ M 𝓤. server.effect.configure.clauses) (λ M 𝓤 𝓛 m f κs a. (tt, λ g. refl))
  pub samples·raw : AsksNothingOf samples.raw.ended (λ M 𝓤. samples.raw.clauses) (λ M 𝓤 𝓛 m f κs a. (tt, λ g. refl))
  pub samples·missing : AsksNothingOf samples.missing.ended (λ M 𝓤. samples.missing.clauses) (λ M 𝓤 𝓛 m f κs a. (tt, λ g. refl))
  pub steps·hear·hear : AsksOnlyOf steps.hear.hear.ended (λ κs a. ValidProfile a.1.0.settings.profile) (λ M 𝓤. steps.hear.hear.clauses) (λ M 𝓤 𝓛 m f κs a. (tt, λ g. refl))
  pub steps·slot·slot : AsksOnlyOf steps.slot.slot.ended (λ κs a. ValidProfile a.1.1.0.profile) (λ M 𝓤. steps.slot.slot.clauses) (λ M 𝓤 𝓛 m f κs a. (tt, λ g. refl))
  pub steps·slot·boot : AsksNothingOf steps.slot.boot.ended (λ M 𝓤. steps.slot.boot.clauses) (λ M 𝓤 𝓛 m f κs a. (tt, λ g. refl))
  pub steps·slot·announce : AsksOnlyOfBoth steps.slot.announce.ended (λ κs a. (a.0 ≤ 0xFFFF) × (Holds places a.1.1.0 (waitingIn a.1.1.0))) (λ M 𝓤. steps.slot.announce.clauses) (λ M 𝓤 𝓛 m f κs a. (tt, λ g. refl))
  pub steps·slot·take : AsksOnlyOf steps.slot.take.ended (λ κs a. Holds places a.0 (waitingIn a.0)) (λ M 𝓤. steps.slot.take.clauses) (λ M 𝓤 𝓛 m f κs a. (tt, λ g. refl))
  pub steps·tick·tick : AsksNothingOf steps.tick.tick.ended (λ M 𝓤. steps.tick.tick.clauses) (λ M 𝓤 𝓛 m f κs a. (tt, λ g. refl))
  pub head·power_up : AsksNothingOf head.power_up.ended (λ M 𝓤. head.power_up.clauses) (λ M 𝓤 𝓛 m f κs a. (tt, λ g. refl))
  pub head·checked : AsksNothingOf head.checked.ended (λ M 𝓤. head.checked.clauses) (λ M 𝓤 𝓛 m f κs a. (tt, λ g. refl))
  pub head·powered : AsksNothingOf head.powered.ended (λ M 𝓤. head.powered.clauses) (λ M 𝓤 𝓛 m f κs a. (tt, λ g. refl))
  -- Every head comes from power-up and is altered by calls only; the promises are for such heads.
  pub head·receive : AsksOnlyOf head.receive.ended (λ κs a. Reachable a.0) (λ M 𝓤. head.receive.clauses) (λ M 𝓤 𝓛 m f κs a. (tt, λ g. refl))
  pub head·tick : AsksOnlyOf head.tick.ended (λ κs a. Reachable a.0) (λ M 𝓤. head.tick.clauses) (λ M 𝓤 𝓛 m f κs a. (tt, λ g. refl))
  pub head·sample : AsksOnlyOf head.sample.ended (λ κs a. Reachable a.0) (λ M 𝓤. head.sample.clauses) (λ M 𝓤 𝓛 m f κs a. (tt, λ g. refl))
  pub head·sample_missing : AsksOnlyOf head.sample_missing.ended (λ κs a. Reachable a.0) (λ M 𝓤. head.sample_missing.clauses) (λ M 𝓤 𝓛 m f κs a. (tt, λ g. refl))
  pub head·sample_raw : AsksOnlyOf head.sample_raw.ended (λ κs a. Reachable a.0) (λ M 𝓤. head.sample_raw.clauses) (λ M 𝓤 𝓛 m f κs a. (tt, λ g. refl))
  pub head·slot : AsksOnlyOf head.slot.ended (λ κs a. Reachable a.0) (λ M 𝓤. head.slot.clauses) (λ M 𝓤 𝓛 m f κs a. (tt, λ g. refl))
  pub lines·empty : AsksNothingOf lines.empty.ended (λ M 𝓤. lines.empty.clauses) (λ M 𝓤 𝓛 m f κs a. (tt, λ g. refl))
  pub lines·kept : AsksNothingOf lines.kept.ended (λ M 𝓤. lines.kept.clauses) (λ M 𝓤 𝓛 m f κs a. (tt, λ g. refl))
  pub lines·at_most : AsksNothingOf lines.at_most.ended (λ M 𝓤. lines.at_most.clauses) (λ M 𝓤 𝓛 m f κs a. (tt, λ g. refl))
  pub lines·push : AsksNothingOf lines.push.ended (λ M 𝓤. lines.push.clauses) (λ M 𝓤 𝓛 m f κs a. (tt, λ g. refl))
  pub lines·extend : AsksNothingOf lines.extend.ended (λ M 𝓤. lines.extend.clauses) (λ M 𝓤 𝓛 m f κs a. (tt, λ g. refl))
  pub lines·of : AsksNothingOf lines.of.ended (λ M 𝓤. lines.of.clauses) (λ M 𝓤 𝓛 m f κs a. (tt, λ g. refl))
  pub numbers·read : AsksOnlyOf numbers.read.ended (λ κs a. (a.1.1.0 ≤ 16) × (a.1.1.1.0 ≤ 10)) (λ M 𝓤. numbers.read.clauses) (λ M 𝓤 𝓛 m f κs a. (tt, λ g. refl))
  pub parsing·parse_line : AsksNothingOf parsing.parse_line.ended (λ M 𝓤. parsing.parse_line.clauses) (λ M 𝓤 𝓛 m f κs a. (tt, λ g. refl))
  pub parsing·parse : AsksNothingOf parsing.parse.ended (λ M 𝓤. parsing.parse.clauses) (λ M 𝓤 𝓛 m f κs a. (tt, λ g. refl))
  pub printing·frame : AsksNothingOf printing.frame.ended (λ M 𝓤. printing.frame.clauses) (λ M 𝓤 𝓛 m f κs a. (tt, λ g. refl))
  pub printing·none : AsksNothingOf printing.none.ended (λ M 𝓤. printing.none.clauses) (λ M 𝓤 𝓛 m f κs a. (tt, λ g. refl))
  pub printing·refusal : AsksNothingOf printing.refusal.ended (λ M 𝓤. printing.refusal.clauses) (λ M 𝓤 𝓛 m f κs a. (tt, λ g. refl))
  pub commands·obey : AsksOnlyOf commands.obey.ended (λ κs a. Reachable a.0) (λ M 𝓤. commands.obey.clauses) (λ M 𝓤 𝓛 m f κs a. (tt, λ g. refl))
  pub feeding·start : AsksNothingOf feeding.start.ended (λ M 𝓤. feeding.start.clauses) (λ M 𝓤 𝓛 m f κs a. (tt, λ g. refl))
  pub feeding·answer : AsksOnlyOf feeding.answer.ended (λ κs a. Reachable a.0) (λ M 𝓤. feeding.answer.clauses) (λ M 𝓤 𝓛 m f κs a. (tt, λ g. refl))
  pub feeding·feed : AsksOnlyOf feeding.feed.ended (λ κs a. Reachable a.0.head) (λ M 𝓤. feeding.feed.clauses) (λ M 𝓤 𝓛 m f κs a. (tt, λ g. refl))
  -- a line prints at most 64 bytes: the buffer has 64 for each byte of input
  pub feeding·chunk : AsksOnlyOfBoth feeding.chunk.ended (λ κs a. (Reachable a.0.head) × (longest * length a.1.0.now ≤ length a.1.1.0.now)) (λ M 𝓤. feeding.chunk.clauses) (λ M 𝓤 𝓛 m f κs a. (tt, λ g. refl))
  pub feeding·close : AsksOnlyOf feeding.close.ended (λ κs a. Reachable a.0.head) (λ M 𝓤. feeding.close.clauses) (λ M 𝓤 𝓛 m f κs a. (tt, λ g. refl))

-- The calls that are lent a head or a part of it, with what each requires.
pub record LentAsked : Type 0 where
  pub emergency·Telling·of : AsksNothingOf emergency.Telling.of.ended (λ M 𝓤. emergency.Telling.of.clauses) (λ M 𝓤 𝓛 m f κs a. (tt, λ g. refl))
  pub head·obeying·obey : AsksOnlyOf head.obeying.obey.ended (λ κs a. Writable a.0.now a.1.0) {Asked = λ κs a. Writable a.0.now a.1.0} (λ M 𝓤. head.obeying.obey.clauses) (λ M 𝓤 𝓛 m f κs a. (tt, λ g. refl))
  pub head·sending·send : AsksOnlyOf head.sending.send.ended (λ κs a. Reachable a.0.now) {Asked = λ κs a. (a.0.now.core.device.settings.communication.inhibit ≤ 0xFFFF) × (Holds places a.0.now.line (waitingIn a.0.now.line))} (λ M 𝓤. head.sending.send.clauses) (λ M 𝓤 𝓛 m f κs a. (tt, λ g. refl))
  pub lent·haybleater_power_up : AsksNothingOf lent.haybleater_power_up.ended (λ M 𝓤. lent.haybleater_power_up.clauses) (λ M 𝓤 𝓛 m f κs a. (tt, λ g. refl))
  pub lent·haybleater_receive : AsksOnlyOf lent.haybleater_receive.ended (λ κs a. Reachable a.0.now) {Asked = λ κs a. Valid a.0.now} (λ M 𝓤. lent.haybleater_receive.clauses) (λ M 𝓤 𝓛 m f κs a. (tt, λ g. refl))
  pub lent·haybleater_tick : AsksOnlyOf lent.haybleater_tick.ended (λ κs a. Reachable a.0.now) {Asked = λ κs a. Valid a.0.now} (λ M 𝓤. lent.haybleater_tick.clauses) (λ M 𝓤 𝓛 m f κs a. (tt, λ g. refl))
  pub lent·haybleater_sample : AsksOnlyOf lent.haybleater_sample.ended (λ κs a. Reachable a.0.now) {Asked = λ κs a. Valid a.0.now} (λ M 𝓤. lent.haybleater_sample.clauses) (λ M 𝓤 𝓛 m f κs a. (tt, λ g. refl))
  pub lent·haybleater_missing : AsksOnlyOf lent.haybleater_missing.ended (λ κs a. Reachable a.0.now) {Asked = λ κs a. Valid a.0.now} (λ M 𝓤. lent.haybleater_missing.clauses) (λ M 𝓤 𝓛 m f κs a. (tt, λ g. refl))
  pub lent·haybleater_slot : AsksOnlyOf lent.haybleater_slot.ended (λ κs a. Reachable a.0.now) {Asked = λ κs a. Valid a.0.now} (λ M 𝓤. lent.haybleater_slot.clauses) (λ M 𝓤 𝓛 m f κs a. (tt, λ g. refl))
  pub lent·haybleater_state : AsksNothingOf lent.haybleater_state.ended (λ M 𝓤. lent.haybleater_state.clauses) (λ M 𝓤 𝓛 m f κs a. (tt, λ g. refl))
  pub lent·haybleater_good : AsksNothingOf lent.haybleater_good.ended (λ M 𝓤. lent.haybleater_good.clauses) (λ M 𝓤 𝓛 m f κs a. (tt, λ g. refl))
  pub lent·haybleater_position : AsksOnlyOf lent.haybleater_position.ended (λ κs a. Reachable a.0.now) {Asked = λ κs a. Valid a.0.now} (λ M 𝓤. lent.haybleater_position.clauses) (λ M 𝓤 𝓛 m f κs a. (tt, λ g. refl))
  pub lent·haybleater_goes_if_missing : AsksNothingOf lent.haybleater_goes_if_missing.ended (λ M 𝓤. lent.haybleater_goes_if_missing.clauses) (λ M 𝓤 𝓛 m f κs a. (tt, λ g. refl))
  pub lent·haybleater_waits : AsksNothingOf lent.haybleater_waits.ended (λ M 𝓤. lent.haybleater_waits.clauses) (λ M 𝓤 𝓛 m f κs a. (tt, λ g. refl))
