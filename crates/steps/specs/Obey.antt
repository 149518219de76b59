-- The head after each way that a received frame can go: the parts that
-- its step gives, put back. 01, chapters "States" and "Service requests".
use Rattle.std.specs.Prelude.{ℕ, Bool, List, Option, None, Some}
use Rattle.names.specs.declared.Transfer.{Transfer}
use Rattle.position.specs.declared.Profile.{Profile}
use Rattle.dictionary.specs.Writes.{Fits}
use Rattle.parts.specs.declared.Head.{Head}
use Rattle.parts.specs.declared.Nmt.{Nmt}
use Rattle.parts.specs.Put.{with_line, with_transfer, with_timers, with_nmt, with_announced, with_reply, with_errors, with_saved, with_settings}
use Rattle.parts.specs.Put.{with_profile, with_communication, with_fixed}
use Rattle.promises.specs.States.{communication, good}
use Rattle.tpdo.specs.Sync.{synced_by}
use Rattle.nmt.specs.Entry.{entered_by, restarted_by}
use Rattle.server.specs.declared.effect.Write.{Write}
use Rattle.server.specs.Effects.{replied_by, emptied_by, saved_by, scaled_by, configured_by}
use Rattle.steps.specs.declared.hear.Heard.{Heard}
use Rattle.steps.specs.declared.hear.Way.{Way}
use Rattle.steps.specs.declared.hear.Way.TheVariants.{Replies, Syncs, Configures, Scales, Enters, Resets, Saves, Empties, Ends}

abbrev pub replied_in : Head → List ℕ → Head
replied_in h reply = let r = replied_by h.line reply in with_line (with_reply h r.reply) r.line

abbrev pub synced_in : Head → Head
synced_in h =
    let c = h.core in
    let r = synced_by c.nmt c.device.settings c.timers c.device.reading c.fixed h.line in
    with_line (with_fixed (with_timers h r.timers) r.fixed) r.line

abbrev pub configured_in : Head → Write → Head
configured_in h w =
    let c = h.core in
    let r = configured_by c.nmt (communication c) c.timers (good c) c.announced h.line w.reply w.key w.value in
    with_line (with_reply (with_timers (with_communication h r.communication) r.timers) r.reply) r.line

abbrev pub scaled_in : Head → Write → Head
scaled_in h w =
    let d = h.core.device in
    let r = scaled_by d.settings.profile d.reading.raw h.line w.reply w.key w.value in
    with_line (with_reply (with_profile h r.part) r.reply) r.line

abbrev pub entered_in : Head → Nmt → Head
entered_in h s =
    let c = h.core in
    let r = entered_by c.nmt (communication c) c.timers (good c) c.announced h.line s in
    with_line (with_timers (with_nmt h r.nmt) r.timers) r.line

abbrev pub restarted_in : Head → Bool → Head
restarted_in h all =
    let d = h.core.device in
    let r = restarted_by d.settings d.saved all in
    with_line (with_timers (with_announced (with_nmt (with_settings h r.settings) r.nmt) r.announced) r.timers) r.line

abbrev pub saved_in : Head → List ℕ → ℕ → Head
saved_in h reply key =
    let d = h.core.device in
    let r = saved_by d.node d.settings h.line reply key in
    with_line (with_reply (with_saved h r.part) r.reply) r.line

abbrev pub emptied_in : Head → List ℕ → Head
emptied_in h reply = let r = emptied_by h.line reply in with_line (with_reply (with_errors h r.part) r.reply) r.line

abbrev pub went : Head → Way → Head
went h (Replies reply) = replied_in h reply
went h Syncs = synced_in h
went h (Configures w) = configured_in h w
went h (Scales w) = scaled_in h w
went h (Enters s) = entered_in h s
went h (Resets all) = restarted_in h all
went h (Saves reply key) = saved_in h reply key
went h (Empties reply) = emptied_in h reply
went h Ends = h

-- what a way asks for: a write to 6000h..6005h, that its entry accepts the value
abbrev pub Fitting : Profile → Way → Type 0
Fitting p (Replies reply) = Unit {0}
Fitting p Syncs = Unit {0}
Fitting p (Configures w) = Unit {0}
Fitting p (Scales w) = Fits p w.key w.value
Fitting p (Enters s) = Unit {0}
Fitting p (Resets all) = Unit {0}
Fitting p (Saves reply key) = Unit {0}
Fitting p (Empties reply) = Unit {0}
Fitting p Ends = Unit {0}

-- with this transfer, if another is left
abbrev pub handed : Head → Option Transfer → Head
handed h None = h
handed h (Some t) = with_transfer h t

-- A frame that is not meant for the head changes nothing; any other goes its way, with the transfer that it leaves.
abbrev pub obeyed_in : Head → Option Heard → Head
obeyed_in h None = h
obeyed_in h (Some x) = went (handed h x.transfer) x.way

abbrev pub FittingIn : Profile → Option Heard → Type 0
FittingIn p None = Unit {0}
FittingIn p (Some x) = Fitting p x.way
