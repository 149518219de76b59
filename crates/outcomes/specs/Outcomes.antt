-- `Outcomes`: the contract of each public function allows one outcome. All crates are here, the lowest
-- first. docs/PROMISES.md lists what has no such theorem, and why. 01, chapter "Strength of the promises".
use Rattle.std.specs.Prelude.{◌≡◌}
use mathlib.Core.Path.{refl}
use Rattle.parts.specs.declared.Sensor.TheVariants.{Missing, Raw}
use Rattle.promises.specs.Calls.{answered}
use Rattle.promises.specs.Promised.{PowersUp, Receives, Ticks, Samples, Slots}
use Rattle.emergency.specs.Telling.{telling_of}
use Rattle.steps.specs.Obey.{obeyed_in}
use Rattle.steps.specs.Sent.{sent_in}
use Rattle.lent.specs.Questions.{state_code, is_good, position_of, any_waits, goes_if_missing}
use Rattle.lent.specs.Steps.{sent_as}
use Rattle.can.specs.contracts as can
use Rattle.names.specs.contracts as names
use Rattle.waiting.specs.contracts as waiting
use Rattle.position.specs.contracts as position
use Rattle.entries.specs.contracts as entries
use Rattle.dictionary.specs.contracts as dictionary
use Rattle.acceptance.specs.contracts as acceptance
use Rattle.values.specs.contracts as values
use Rattle.writes.specs.contracts as writes
use Rattle.requests.specs.contracts as requests
use Rattle.replies.specs.contracts as replies
use Rattle.serving.specs.contracts as serving
use Rattle.states.specs.contracts as states
use Rattle.counting.specs.contracts as counting
use Rattle.emergency.specs.contracts as emergency
use Rattle.heartbeat.specs.contracts as heartbeat
use Rattle.tpdo.specs.contracts as tpdo
use Rattle.settling.specs.contracts as settling
use Rattle.nmt.specs.contracts as nmt
use Rattle.server.specs.contracts as server
use Rattle.samples.specs.contracts as samples
use Rattle.steps.specs.contracts as steps
use Rattle.head.specs.contracts as head
use Rattle.lent.specs.contracts as lent
use Rattle.lines.specs.contracts as lines
use Rattle.numbers.specs.contracts as numbers
use Rattle.parsing.specs.contracts as parsing
use Rattle.printing.specs.contracts as printing
use Rattle.commands.specs.contracts as commands
use Rattle.feeding.specs.contracts as feeding
use Rattle.outcomes.specs.Outcome.{OneOutcomeOf, OneOutcomeOfBoth}

pub record Outcomes : Type 0 where
  pub can·Refusal·number : OneOutcomeOf can.Refusal.number.ended (λ M 𝓤. can.Refusal.number.clauses) (λ M 𝓤 𝓛 m f κs a g r e. refl)
  pub can·number_in : OneOutcomeOf can.number_in.ended (λ M 𝓤. can.number_in.clauses) (λ M 𝓤 𝓛 m f κs a g r e. refl)
  pub can·checked : OneOutcomeOf can.checked.ended (λ M 𝓤. can.checked.clauses) (λ M 𝓤 𝓛 m f κs a g r e. refl)
  pub can·word : OneOutcomeOf can.word.ended (λ M 𝓤. can.word.clauses) (λ M 𝓤 𝓛 m f κs a g r e. refl)
  pub can·long : OneOutcomeOf can.long.ended (λ M 𝓤. can.long.clauses) (λ M 𝓤 𝓛 m f κs a g r e. refl)
  pub can·long_bytes : OneOutcomeOf can.long_bytes.ended (λ M 𝓤. can.long_bytes.clauses) (λ M 𝓤 𝓛 m f κs a g r e. refl)
  pub can·bits : OneOutcomeOf can.bits.ended (λ M 𝓤. can.bits.clauses) (λ M 𝓤 𝓛 m f κs a g r e. refl)
  pub names·is_name : OneOutcomeOfBoth names.is_name.ended (λ M 𝓤. names.is_name.clauses) (λ M 𝓤 𝓛 m f κs a g r e. refl)
  pub names·unknown : OneOutcomeOf names.unknown.ended (λ M 𝓤. names.unknown.clauses) (λ M 𝓤 𝓛 m f κs a g r e. refl)
  pub names·short : OneOutcomeOf names.short.ended (λ M 𝓤. names.short.clauses) (λ M 𝓤 𝓛 m f κs a g r e. refl)
  pub names·runs : OneOutcomeOf names.runs.ended (λ M 𝓤. names.runs.clauses) (λ M 𝓤 𝓛 m f κs a g r e. refl)
  pub names·started : OneOutcomeOf names.started.ended (λ M 𝓤. names.started.clauses) (λ M 𝓤 𝓛 m f κs a g r e. refl)
  pub names·toggle : OneOutcomeOf names.toggle.ended (λ M 𝓤. names.toggle.clauses) (λ M 𝓤 𝓛 m f κs a g r e. refl)
  pub names·named : OneOutcomeOf names.named.ended (λ M 𝓤. names.named.clauses) (λ M 𝓤 𝓛 m f κs a g r e. refl)
  pub names·segment : OneOutcomeOf names.segment.ended (λ M 𝓤. names.segment.clauses) (λ M 𝓤 𝓛 m f κs a g r e. refl)
  pub names·next : OneOutcomeOf names.next.ended (λ M 𝓤. names.next.clauses) (λ M 𝓤 𝓛 m f κs a g r e. refl)
  pub waiting·none : OneOutcomeOf waiting.none.ended (λ M 𝓤. waiting.none.clauses) (λ M 𝓤 𝓛 m f κs a g r e. refl)
  pub waiting·waits : OneOutcomeOf waiting.waits.ended (λ M 𝓤. waiting.waits.clauses) (λ M 𝓤 𝓛 m f κs a g r e. refl)
  pub waiting·join : OneOutcomeOf waiting.join.ended (λ M 𝓤. waiting.join.clauses) (λ M 𝓤 𝓛 m f κs a g r e. refl)
  pub waiting·withdraw : OneOutcomeOf waiting.withdraw.ended (λ M 𝓤. waiting.withdraw.clauses) (λ M 𝓤 𝓛 m f κs a g r e. refl)
  pub waiting·first : OneOutcomeOf waiting.first.ended (λ M 𝓤. waiting.first.clauses) (λ M 𝓤 𝓛 m f κs a g r e. refl)
  pub waiting·taken : OneOutcomeOf waiting.taken.ended (λ M 𝓤. waiting.taken.clauses) (λ M 𝓤 𝓛 m f κs a g r e. refl)
  pub waiting·join_if : OneOutcomeOf waiting.join_if.ended (λ M 𝓤. waiting.join_if.clauses) (λ M 𝓤 𝓛 m f κs a g r e. refl)
  pub waiting·withdraw_if : OneOutcomeOf waiting.withdraw_if.ended (λ M 𝓤. waiting.withdraw_if.clauses) (λ M 𝓤 𝓛 m f κs a g r e. refl)
  pub waiting·join_those : OneOutcomeOf waiting.join_those.ended (λ M 𝓤. waiting.join_those.clauses) (λ M 𝓤 𝓛 m f κs a g r e. refl)
  pub waiting·withdraw_those : OneOutcomeOf waiting.withdraw_those.ended (λ M 𝓤. waiting.withdraw_those.clauses) (λ M 𝓤 𝓛 m f κs a g r e. refl)
  pub position·scaling : OneOutcomeOf position.scaling.ended (λ M 𝓤. position.scaling.clauses) (λ M 𝓤 𝓛 m f κs a g r e. refl)
  pub position·inverted : OneOutcomeOf position.inverted.ended (λ M 𝓤. position.inverted.clauses) (λ M 𝓤 𝓛 m f κs a g r e. refl)
  pub position·directed_of : OneOutcomeOf position.directed_of.ended (λ M 𝓤. position.directed_of.clauses) (λ M 𝓤 𝓛 m f κs a g r e. refl)
  pub position·position_of : OneOutcomeOf position.position_of.ended (λ M 𝓤. position.position_of.clauses) (λ M 𝓤 𝓛 m f κs a g r e. refl)
  pub position·preset_to : OneOutcomeOf position.preset_to.ended (λ M 𝓤. position.preset_to.clauses) (λ M 𝓤 𝓛 m f κs a g r e. refl)
  pub entries·Settings·factory : OneOutcomeOf entries.Settings.factory.ended (λ M 𝓤. entries.Settings.factory.clauses) (λ M 𝓤 𝓛 m f κs a g r e. refl)
  pub entries·name_of : OneOutcomeOf entries.name_of.ended (λ M 𝓤. entries.name_of.clauses) (λ M 𝓤 𝓛 m f κs a g r e. refl)
  pub entries·table·find : OneOutcomeOf entries.table.find.ended (λ M 𝓤. entries.table.find.clauses) (λ M 𝓤 𝓛 m f κs a g r e. refl)
  pub entries·table·altered : OneOutcomeOf entries.table.altered.ended (λ M 𝓤. entries.table.altered.clauses) (λ M 𝓤 𝓛 m f κs a g r e. refl)
  pub entries·table·key_of : OneOutcomeOf entries.table.key_of.ended (λ M 𝓤. entries.table.key_of.clauses) (λ M 𝓤 𝓛 m f κs a g r e. refl)
  pub dictionary·abort·Abort·code : OneOutcomeOf dictionary.abort.Abort.code.ended (λ M 𝓤. dictionary.abort.Abort.code.clauses) (λ M 𝓤 𝓛 m f κs a g r e. refl)
  pub acceptance·check_write : OneOutcomeOf acceptance.check_write.ended (λ M 𝓤. acceptance.check_write.clauses) (λ M 𝓤 𝓛 m f κs a g r e. refl)
  pub acceptance·check_value : OneOutcomeOf acceptance.check_value.ended (λ M 𝓤. acceptance.check_value.clauses) (λ M 𝓤 𝓛 m f κs a g r e. refl)
  pub acceptance·is_on : OneOutcomeOf acceptance.is_on.ended (λ M 𝓤. acceptance.is_on.clauses) (λ M 𝓤 𝓛 m f κs a g r e. refl)
  pub values·read : OneOutcomeOf values.read.ended (λ M 𝓤. values.read.clauses) (λ M 𝓤 𝓛 m f κs a g r e. refl)
  pub writes·write : OneOutcomeOf writes.write.ended (λ M 𝓤. writes.write.clauses) (λ M 𝓤 𝓛 m f κs a g r e. refl)
  pub writes·communication_after : OneOutcomeOf writes.communication_after.ended (λ M 𝓤. writes.communication_after.clauses) (λ M 𝓤 𝓛 m f κs a g r e. refl)
  pub writes·profile_after : OneOutcomeOf writes.profile_after.ended (λ M 𝓤. writes.profile_after.clauses) (λ M 𝓤 𝓛 m f κs a g r e. refl)
  pub replies·no_reply : OneOutcomeOf replies.no_reply.ended (λ M 𝓤. replies.no_reply.clauses) (λ M 𝓤 𝓛 m f κs a g r e. refl)
  pub replies·abort : OneOutcomeOf replies.abort.ended (λ M 𝓤. replies.abort.clauses) (λ M 𝓤 𝓛 m f κs a g r e. refl)
  pub replies·confirm : OneOutcomeOf replies.confirm.ended (λ M 𝓤. replies.confirm.clauses) (λ M 𝓤 𝓛 m f κs a g r e. refl)
  pub replies·shown : OneOutcomeOf replies.shown.ended (λ M 𝓤. replies.shown.clauses) (λ M 𝓤 𝓛 m f κs a g r e. refl)
  pub replies·segment : OneOutcomeOf replies.segment.ended (λ M 𝓤. replies.segment.clauses) (λ M 𝓤 𝓛 m f κs a g r e. refl)
  pub requests·is_abort : OneOutcomeOf requests.is_abort.ended (λ M 𝓤. requests.is_abort.clauses) (λ M 𝓤 𝓛 m f κs a g r e. refl)
  pub requests·is_segment : OneOutcomeOf requests.is_segment.ended (λ M 𝓤. requests.is_segment.clauses) (λ M 𝓤 𝓛 m f κs a g r e. refl)
  pub requests·toggle : OneOutcomeOf requests.toggle.ended (λ M 𝓤. requests.toggle.clauses) (λ M 𝓤 𝓛 m f κs a g r e. refl)
  pub requests·taken_apart : OneOutcomeOf requests.taken_apart.ended (λ M 𝓤. requests.taken_apart.clauses) (λ M 𝓤 𝓛 m f κs a g r e. refl)
  pub serving·serve : OneOutcomeOf serving.serve.ended (λ M 𝓤. serving.serve.clauses) (λ M 𝓤 𝓛 m f κs a g r e. refl)
  pub states·is_initialising : OneOutcomeOf states.is_initialising.ended (λ M 𝓤. states.is_initialising.clauses) (λ M 𝓤 𝓛 m f κs a g r e. refl)
  pub states·is_operational : OneOutcomeOf states.is_operational.ended (λ M 𝓤. states.is_operational.clauses) (λ M 𝓤 𝓛 m f κs a g r e. refl)
  pub states·is_live : OneOutcomeOf states.is_live.ended (λ M 𝓤. states.is_live.clauses) (λ M 𝓤 𝓛 m f κs a g r e. refl)
  pub counting·counted : OneOutcomeOf counting.counted.ended (λ M 𝓤. counting.counted.clauses) (λ M 𝓤 𝓛 m f κs a g r e. refl)
  pub counting·restarted : OneOutcomeOf counting.restarted.ended (λ M 𝓤. counting.restarted.clauses) (λ M 𝓤 𝓛 m f κs a g r e. refl)
  pub emergency·may_wait : OneOutcomeOf emergency.may_wait.ended (λ M 𝓤. emergency.may_wait.clauses) (λ M 𝓤 𝓛 m f κs a g r e. refl)
  pub emergency·frame : OneOutcomeOf emergency.frame.ended (λ M 𝓤. emergency.frame.clauses) (λ M 𝓤 𝓛 m f κs a g r e. refl)
  pub emergency·inhibit_ticks : OneOutcomeOf emergency.inhibit_ticks.ended (λ M 𝓤. emergency.inhibit_ticks.clauses) (λ M 𝓤 𝓛 m f κs a g r e. refl)
  pub emergency·ticked : OneOutcomeOf emergency.ticked.ended (λ M 𝓤. emergency.ticked.clauses) (λ M 𝓤 𝓛 m f κs a g r e. refl)
  pub heartbeat·may_wait : OneOutcomeOf heartbeat.may_wait.ended (λ M 𝓤. heartbeat.may_wait.clauses) (λ M 𝓤 𝓛 m f κs a g r e. refl)
  pub heartbeat·ticked : OneOutcomeOf heartbeat.ticked.ended (λ M 𝓤. heartbeat.ticked.clauses) (λ M 𝓤 𝓛 m f κs a g r e. refl)
  pub heartbeat·frame : OneOutcomeOf heartbeat.frame.ended (λ M 𝓤. heartbeat.frame.clauses) (λ M 𝓤 𝓛 m f κs a g r e. refl)
  pub tpdo·is_synchronous : OneOutcomeOf tpdo.is_synchronous.ended (λ M 𝓤. tpdo.is_synchronous.clauses) (λ M 𝓤 𝓛 m f κs a g r e. refl)
  pub tpdo·may_join : OneOutcomeOf tpdo.may_join.ended (λ M 𝓤. tpdo.may_join.clauses) (λ M 𝓤 𝓛 m f κs a g r e. refl)
  pub tpdo·may_stay : OneOutcomeOf tpdo.may_stay.ended (λ M 𝓤. tpdo.may_stay.clauses) (λ M 𝓤 𝓛 m f κs a g r e. refl)
  pub tpdo·uncounted : OneOutcomeOf tpdo.uncounted.ended (λ M 𝓤. tpdo.uncounted.clauses) (λ M 𝓤 𝓛 m f κs a g r e. refl)
  pub tpdo·ticked : OneOutcomeOf tpdo.ticked.ended (λ M 𝓤. tpdo.ticked.clauses) (λ M 𝓤 𝓛 m f κs a g r e. refl)
  pub tpdo·synced : OneOutcomeOf tpdo.synced.ended (λ M 𝓤. tpdo.synced.clauses) (λ M 𝓤 𝓛 m f κs a g r e. refl)
  pub tpdo·written : OneOutcomeOf tpdo.written.ended (λ M 𝓤. tpdo.written.clauses) (λ M 𝓤 𝓛 m f κs a g r e. refl)
  pub tpdo·frame : OneOutcomeOf tpdo.frame.ended (λ M 𝓤. tpdo.frame.clauses) (λ M 𝓤 𝓛 m f κs a g r e. refl)
  pub tpdo·sync·sync : OneOutcomeOf tpdo.sync.sync.ended (λ M 𝓤. tpdo.sync.sync.clauses) (λ M 𝓤 𝓛 m f κs a g r e. refl)
  pub settling·joined : OneOutcomeOf settling.joined.ended (λ M 𝓤. settling.joined.clauses) (λ M 𝓤 𝓛 m f κs a g r e. refl)
  pub nmt·ordered : OneOutcomeOf nmt.ordered.ended (λ M 𝓤. nmt.ordered.clauses) (λ M 𝓤 𝓛 m f κs a g r e. refl)
  pub nmt·entry·enter : OneOutcomeOf nmt.entry.enter.ended (λ M 𝓤. nmt.entry.enter.clauses) (λ M 𝓤 𝓛 m f κs a g r e. refl)
  pub nmt·entry·restart : OneOutcomeOf nmt.entry.restart.ended (λ M 𝓤. nmt.entry.restart.clauses) (λ M 𝓤 𝓛 m f κs a g r e. refl)
  pub nmt·entry·at_rest : OneOutcomeOf nmt.entry.at_rest.ended (λ M 𝓤. nmt.entry.at_rest.clauses) (λ M 𝓤 𝓛 m f κs a g r e. refl)
  pub server·serves : OneOutcomeOf server.serves.ended (λ M 𝓤. server.serves.clauses) (λ M 𝓤 𝓛 m f κs a g r e. refl)
  pub server·frame : OneOutcomeOf server.frame.ended (λ M 𝓤. server.frame.clauses) (λ M 𝓤 𝓛 m f κs a g r e. refl)
  pub server·effect·reply : OneOutcomeOf server.effect.reply.ended (λ M 𝓤. server.effect.reply.clauses) (λ M 𝓤 𝓛 m f κs a g r e. refl)
  pub server·effect·empty : OneOutcomeOf server.effect.empty.ended (λ M 𝓤. server.effect.empty.clauses) (λ M 𝓤 𝓛 m f κs a g r e. refl)
  pub server·effect·save : OneOutcomeOf server.effect.save.ended (λ M 𝓤. server.effect.save.clauses) (λ M 𝓤 𝓛 m f κs a g r e. refl)
  pub server·effect·scale : OneOutcomeOf server.effect.scale.ended (λ M 𝓤. server.effect.scale.clauses) (λ M 𝓤 𝓛 m f κs a g r e. refl)
  pub server·effect·configure : OneOutcomeOf server.effect.configure.ended (λ M 𝓤. server.effect.configure.clauses) (λ M 𝓤 𝓛 m f κs a g r e. refl)
  pub samples·raw : OneOutcomeOf samples.raw.ended (λ M 𝓤. samples.raw.clauses) (λ M 𝓤 𝓛 m f κs a g r e. refl)
  pub samples·missing : OneOutcomeOf samples.missing.ended (λ M 𝓤. samples.missing.clauses) (λ M 𝓤 𝓛 m f κs a g r e. refl)
  pub steps·hear·hear : OneOutcomeOf steps.hear.hear.ended (λ M 𝓤. steps.hear.hear.clauses) (λ M 𝓤 𝓛 m f κs a g r e. refl)
  pub steps·slot·slot : OneOutcomeOf steps.slot.slot.ended (λ M 𝓤. steps.slot.slot.clauses) (λ M 𝓤 𝓛 m f κs a g r e. refl)
  pub steps·slot·boot : OneOutcomeOf steps.slot.boot.ended (λ M 𝓤. steps.slot.boot.clauses) (λ M 𝓤 𝓛 m f κs a g r e. refl)
  pub steps·slot·announce : OneOutcomeOf steps.slot.announce.ended (λ M 𝓤. steps.slot.announce.clauses) (λ M 𝓤 𝓛 m f κs a g r e. refl)
  pub steps·slot·take : OneOutcomeOf steps.slot.take.ended (λ M 𝓤. steps.slot.take.clauses) (λ M 𝓤 𝓛 m f κs a g r e. refl)
  pub steps·tick·tick : OneOutcomeOf steps.tick.tick.ended (λ M 𝓤. steps.tick.tick.clauses) (λ M 𝓤 𝓛 m f κs a g r e. refl)
  pub head·power_up : OneOutcomeOf head.power_up.ended (λ M 𝓤. head.power_up.clauses) (λ M 𝓤 𝓛 m f κs a g r e. refl)
  pub head·checked : OneOutcomeOfBoth head.checked.ended (λ M 𝓤. head.checked.clauses) (λ M 𝓤 𝓛 m f κs a g r e. refl)
  pub head·powered : OneOutcomeOf head.powered.ended (λ M 𝓤. head.powered.clauses) (λ M 𝓤 𝓛 m f κs a g r e. refl)
  pub head·receive : OneOutcomeOf head.receive.ended (λ M 𝓤. head.receive.clauses) (λ M 𝓤 𝓛 m f κs a g r e. refl)
  pub head·tick : OneOutcomeOf head.tick.ended (λ M 𝓤. head.tick.clauses) (λ M 𝓤 𝓛 m f κs a g r e. refl)
  pub head·sample : OneOutcomeOf head.sample.ended (λ M 𝓤. head.sample.clauses) (λ M 𝓤 𝓛 m f κs a g r e. refl)
  pub head·sample_missing : OneOutcomeOf head.sample_missing.ended (λ M 𝓤. head.sample_missing.clauses) (λ M 𝓤 𝓛 m f κs a g r e. refl)
  pub head·sample_raw : OneOutcomeOf head.sample_raw.ended (λ M 𝓤. head.sample_raw.clauses) (λ M 𝓤 𝓛 m f κs a g r e. refl)
  pub head·slot : OneOutcomeOf head.slot.ended (λ M 𝓤. head.slot.clauses) (λ M 𝓤 𝓛 m f κs a g r e. refl)
  pub lines·empty : OneOutcomeOf lines.empty.ended (λ M 𝓤. lines.empty.clauses) (λ M 𝓤 𝓛 m f κs a g r e. refl)
  pub lines·kept : OneOutcomeOf lines.kept.ended (λ M 𝓤. lines.kept.clauses) (λ M 𝓤 𝓛 m f κs a g r e. refl)
  pub lines·at_most : OneOutcomeOf lines.at_most.ended (λ M 𝓤. lines.at_most.clauses) (λ M 𝓤 𝓛 m f κs a g r e. refl)
  pub lines·push : OneOutcomeOf lines.push.ended (λ M 𝓤. lines.push.clauses) (λ M 𝓤 𝓛 m f κs a g r e. refl)
  pub lines·extend : OneOutcomeOf lines.extend.ended (λ M 𝓤. lines.extend.clauses) (λ M 𝓤 𝓛 m f κs a g r e. refl)
  pub lines·of : OneOutcomeOf lines.of.ended (λ M 𝓤. lines.of.clauses) (λ M 𝓤 𝓛 m f κs a g r e. refl)
  pub numbers·read : OneOutcomeOf numbers.read.ended (λ M 𝓤. numbers.read.clauses) (λ M 𝓤 𝓛 m f κs a g r e. refl)
  pub parsing·parse_line : OneOutcomeOf parsing.parse_line.ended (λ M 𝓤. parsing.parse_line.clauses) (λ M 𝓤 𝓛 m f κs a g r e. refl)
  pub parsing·parse : OneOutcomeOf parsing.parse.ended (λ M 𝓤. parsing.parse.clauses) (λ M 𝓤 𝓛 m f κs a g r e. refl)
  pub printing·frame : OneOutcomeOf printing.frame.ended (λ M 𝓤. printing.frame.clauses) (λ M 𝓤 𝓛 m f κs a g r e. refl)
  pub printing·none : OneOutcomeOf printing.none.ended (λ M 𝓤. printing.none.clauses) (λ M 𝓤 𝓛 m f κs a g r e. refl)
  pub printing·refusal : OneOutcomeOf printing.refusal.ended (λ M 𝓤. printing.refusal.clauses) (λ M 𝓤 𝓛 m f κs a g r e. refl)
  pub commands·obey : OneOutcomeOf commands.obey.ended (λ M 𝓤. commands.obey.clauses) (λ M 𝓤 𝓛 m f κs a g r e. refl)
  pub feeding·start : OneOutcomeOf feeding.start.ended (λ M 𝓤. feeding.start.clauses) (λ M 𝓤 𝓛 m f κs a g r e. refl)
  pub feeding·answer : OneOutcomeOf feeding.answer.ended (λ M 𝓤. feeding.answer.clauses) (λ M 𝓤 𝓛 m f κs a g r e. refl)
  pub feeding·feed : OneOutcomeOf feeding.feed.ended (λ M 𝓤. feeding.feed.clauses) (λ M 𝓤 𝓛 m f κs a g r e. refl)
  pub feeding·chunk : OneOutcomeOf feeding.chunk.ended (λ M 𝓤. feeding.chunk.clauses) (λ M 𝓤 𝓛 m f κs a g r e. refl)
  pub feeding·close : OneOutcomeOf feeding.close.ended (λ M 𝓤. feeding.close.clauses) (λ M 𝓤 𝓛 m f κs a g r e. refl)

-- The calls that are lent a head or a part of it, with what each ensures.
pub record LentOutcomes : Type 0 where
  pub emergency·Telling·of : OneOutcomeOf emergency.Telling.of.ended {This = λ κs a r e. r ≡ telling_of a.0.now} (λ M 𝓤. emergency.Telling.of.clauses) (λ M 𝓤 𝓛 m f κs a g r e. refl)
  pub head·obeying·obey : OneOutcomeOf head.obeying.obey.ended {This = λ κs a r e. e.0.now ≡ obeyed_in a.0.now a.1.0} (λ M 𝓤. head.obeying.obey.clauses) (λ M 𝓤 𝓛 m f κs a g r e. refl)
  pub head·sending·send : OneOutcomeOf head.sending.send.ended {This = λ κs a r e. e.0.now ≡ sent_in a.0.now a.1.0} (λ M 𝓤. head.sending.send.clauses) (λ M 𝓤 𝓛 m f κs a g r e. refl)
  pub lent·haybleater_power_up : OneOutcomeOf lent.haybleater_power_up.ended {This = λ κs a r e. PowersUp a.1.0.node a.1.0.identity (answered r e.0.now)} (λ M 𝓤. lent.haybleater_power_up.clauses) (λ M 𝓤 𝓛 m f κs a g r e. refl)
  pub lent·haybleater_receive : OneOutcomeOf lent.haybleater_receive.ended {This = λ κs a r e. Receives a.0.now a.1.0 (answered r e.0.now)} (λ M 𝓤. lent.haybleater_receive.clauses) (λ M 𝓤 𝓛 m f κs a g r e. refl)
  pub lent·haybleater_tick : OneOutcomeOf lent.haybleater_tick.ended {This = λ κs a r e. Ticks a.0.now e.0.now} (λ M 𝓤. lent.haybleater_tick.clauses) (λ M 𝓤 𝓛 m f κs a g r e. refl)
  pub lent·haybleater_sample : OneOutcomeOf lent.haybleater_sample.ended {This = λ κs a r e. Samples a.0.now (Raw a.1.0) (answered r e.0.now)} (λ M 𝓤. lent.haybleater_sample.clauses) (λ M 𝓤 𝓛 m f κs a g r e. refl)
  pub lent·haybleater_missing : OneOutcomeOf lent.haybleater_missing.ended {This = λ κs a r e. Samples a.0.now Missing (answered 0 e.0.now)} (λ M 𝓤. lent.haybleater_missing.clauses) (λ M 𝓤 𝓛 m f κs a g r e. refl)
  pub lent·haybleater_slot : OneOutcomeOf lent.haybleater_slot.ended {This = λ κs a r e. Slots a.0.now (sent_as r e.0.now)} (λ M 𝓤. lent.haybleater_slot.clauses) (λ M 𝓤 𝓛 m f κs a g r e. refl)
  pub lent·haybleater_state : OneOutcomeOf lent.haybleater_state.ended {This = λ κs a r e. r ≡ state_code a.0.now} (λ M 𝓤. lent.haybleater_state.clauses) (λ M 𝓤 𝓛 m f κs a g r e. refl)
  pub lent·haybleater_good : OneOutcomeOf lent.haybleater_good.ended {This = λ κs a r e. r ≡ is_good a.0.now} (λ M 𝓤. lent.haybleater_good.clauses) (λ M 𝓤 𝓛 m f κs a g r e. refl)
  pub lent·haybleater_position : OneOutcomeOf lent.haybleater_position.ended {This = λ κs a r e. r ≡ position_of a.0.now} (λ M 𝓤. lent.haybleater_position.clauses) (λ M 𝓤 𝓛 m f κs a g r e. refl)
  pub lent·haybleater_goes_if_missing : OneOutcomeOf lent.haybleater_goes_if_missing.ended {This = λ κs a r e. r ≡ goes_if_missing a.0.now} (λ M 𝓤. lent.haybleater_goes_if_missing.clauses) (λ M 𝓤 𝓛 m f κs a g r e. refl)
  pub lent·haybleater_waits : OneOutcomeOf lent.haybleater_waits.ended {This = λ κs a r e. r ≡ any_waits a.0.now} (λ M 𝓤. lent.haybleater_waits.clauses) (λ M 𝓤 𝓛 m f κs a g r e. refl)
