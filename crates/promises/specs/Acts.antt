-- What calls can do to a head, as acts (01, chapters "States" and "The waiting line"): what each act changes apart from the line,
-- whose moment it is, and how the line then settles.
use Rattle.std.specs.Prelude.{ℕ, suc, eqb, ltb, Bool, true, false, not, ◌&&◌, cond, List}
use Rattle.std.proofs.Math.Option.{Option, none, some}
use Rattle.can.specs.declared.Frame.{Frame}
use Rattle.entries.specs.declared.Communication.{Communication}
use Rattle.entries.specs.declared.Device.{Device}
use Rattle.entries.specs.declared.Pdo.{Pdo}
use Rattle.entries.specs.declared.Reading.{Reading}
use Rattle.entries.specs.declared.Settings.{Settings}
use Rattle.sdo.specs.declared.reply.Effect.{Effect}
use Rattle.sdo.specs.declared.reply.Effect.TheVariants.{Nothing, Reply, Write}
use Rattle.sdo.specs.declared.reply.Served.{Served}
use Rattle.sdo.specs.Reply.{carried_out}
use Rattle.waiting.specs.Calls.{after_in}
use Rattle.parts.specs.declared.Nmt.{Nmt}
use Rattle.parts.specs.declared.Timers.{Timers}
use Rattle.parts.specs.declared.Fixed.{Fixed}
use Rattle.parts.specs.declared.Core.{Core}
use Rattle.parts.specs.declared.Head.{Head}
use Rattle.promises.specs.States.{CommandedState, operational, pre_operational, code, state, initialising, is_in, Reset}
use Rattle.promises.specs.States.{restored, communication, good, PdoNumber, one, two, pdo, clock, fixed_for, uncounted, at_rest}
use Rattle.promises.specs.States.{missing_reading}
use Rattle.promises.specs.WaitingLine.{Kind, emergency, sdo_reply, heartbeat, tpdo, those, may_stay, may_join, present, boot_up_frame}
use Rattle.promises.specs.WaitingLine.{frame_of}
use Rattle.promises.specs.Timers.{inhibit_ticks, completes, synchronous, event_due, sync_due, timers_ticked, timers_synced, timers_written}

pub data Act : Type 0 where
  -- a call that has no effect
  nothing : Act
  -- a state is entered by a command
  enter : CommandedState → Act
  reset : Reset → Act
  -- the boot-up frame is sent
  boot : Act
  -- a slot, and none waits
  idle : Act
  -- a kind is sent
  send : Kind → Act
  -- a sample: a raw position, or missing
  take : ℕ → Act
  lose : Act
  time : Act
  sync : Act
  -- a service request gets its reply, and has its effect
  serve : Served → Act

-- the core with these, the last reply made and the positions fixed. Both stay after the frame was sent, and then no frame shows them.
abbrev pub core : Core → Device → Nmt → Bool → Timers → Core
core c d s a t = record { device = d; nmt = s; announced = a; timers = t; reply = c.reply; fixed = c.fixed }

abbrev pub sensed : Device → Reading → ℕ → Device
sensed d r e = record { node = d.node; identity = d.identity; reading = r; errors = e; settings = d.settings; saved = d.saved }

abbrev pub reset_to : Device → Settings → Device
reset_to d s = record { node = d.node; identity = d.identity; reading = d.reading; errors = d.errors; settings = s; saved = d.saved }

-- The PDOs are counted from entry. (They count in Operational only: in another state no frame shows their counts.)
abbrev pub uncounted_pdos : Timers → Timers
uncounted_pdos t = record { inhibit = t.inhibit; heartbeat = t.heartbeat; pdo1 = uncounted; pdo2 = uncounted }

abbrev pub inhibited : Timers → ℕ → Timers
inhibited t n = record { inhibit = n; heartbeat = t.heartbeat; pdo1 = t.pdo1; pdo2 = t.pdo2 }

abbrev pub entered : Core → Nmt → Core
entered c s = core c c.device s c.announced (uncounted_pdos c.timers)

-- Both enter Initialising, .. end any inhibit time and forget what was announced ("good" counts as announced). Reading and error list stay.
abbrev pub reset_with : Core → Settings → Core
reset_with c s = core c (reset_to c.device s) initialising true at_rest

-- The slot that sends the boot-up frame enters Pre-operational. The heartbeat is counted from there.
abbrev pub booted : Core → Core
booted c = core c c.device (state pre_operational) c.announced at_rest

-- Sending it announces the present reading. Sending starts the inhibit time.
abbrev pub announcing : Core → Core
announcing c = core c c.device c.nmt (good c) (inhibited c.timers (inhibit_ticks (communication c).inhibit))

abbrev pub sending : Core → Kind → Core
sending c emergency = announcing c
sending c sdo_reply = c
sending c heartbeat = c
sending c (tpdo w) = c

abbrev pub taking : Core → ℕ → Core
taking c r = core c (sensed c.device (record { good = true; raw = r }) c.device.errors) c.nmt c.announced c.timers

-- 1003-0: count 0..4; one more per good-to-missing change
abbrev pub errors_after : Device → ℕ
errors_after d = cond (d.reading.good && ltb d.errors 4) (suc d.errors) d.errors

abbrev pub losing : Core → Core
losing c = core c (sensed c.device missing_reading (errors_after c.device)) c.nmt c.announced c.timers

abbrev pub timing : Core → Timers → Core
timing c t = core c c.device c.nmt c.announced t

-- For types 1 to 240 the position is fixed when the frame joins, or anew at the next due SYNC if it still waits: at each SYNC at which the
-- frame is due and may join. A due SYNC with a missing reading fixes nothing, nor does one that is not due.
abbrev pub fixes_now : Core → PdoNumber → Bool
fixes_now c w = sync_due (pdo (communication c) w) (clock c.timers w) && may_join c (tpdo w)

abbrev pub fixed_by_sync : Core → PdoNumber → ℕ
fixed_by_sync c w = cond (fixes_now c w) (present c) (fixed_for c.fixed w)

abbrev pub synchronising : Core → Core
synchronising c =
    let t = timers_synced (communication c) c.timers in
    let x : Fixed = record { pdo1 = fixed_by_sync c one; pdo2 = fixed_by_sync c two } in
    record { device = c.device; nmt = c.nmt; announced = c.announced; timers = t; reply = c.reply; fixed = x }

-- what a request's effect does to the timers
abbrev pub timers_after : Core → Effect → Timers
timers_after c Nothing = c.timers
timers_after c Reply = c.timers
timers_after c (Write k v) = timers_written k (communication c) (carried_out c.device (Write k v)).settings.communication c.timers

abbrev pub serving : Core → Served → Core
serving c s =
    record {
      device = carried_out c.device s.effect;
      nmt = c.nmt;
      announced = c.announced;
      timers = timers_after c s.effect;
      reply = s.bytes;
      fixed = c.fixed;
    }

abbrev pub acted : Core → Act → Core
acted c nothing = c
acted c (enter g) = entered c (state g)
acted c (reset r) = reset_with c (restored r c.device.settings c.device.saved)
acted c boot = booted c
acted c idle = c
acted c (send k) = sending c k
acted c (take r) = taking c r
acted c lose = losing c
acted c time = timing c (timers_ticked (is_in operational c) (communication c) c.timers)
acted c sync = synchronising c
acted c (serve s) = serving c s

-- The moments at which a kind joins, if it may.
abbrev pub no_moment : Kind → Bool
no_moment k = false

-- For the emergency it is any call that has an effect, so that it waits exactly while its condition holds.
abbrev pub emergency_only : Kind → Bool
emergency_only emergency = true
emergency_only sdo_reply = false
emergency_only heartbeat = false
emergency_only (tpdo w) = false

-- Types 254 and 255: on entering Operational
abbrev pub entry_due : Nmt → Pdo → Bool
entry_due entered p = eqb entered.code (code operational) && not (synchronous p)

abbrev pub entry_moments : Communication → Nmt → Kind → Bool
entry_moments s entered emergency = true
entry_moments s entered sdo_reply = false
entry_moments s entered heartbeat = false
entry_moments s entered (tpdo w) = entry_due entered (pdo s w)

-- the heartbeat joins every H ticks; types 254 and 255: every E ticks
abbrev pub time_moments : Communication → Timers → Kind → Bool
time_moments s t emergency = true
time_moments s t sdo_reply = false
time_moments s t heartbeat = completes s.heartbeat t.heartbeat
time_moments s t (tpdo w) = event_due (pdo s w) (clock t w)

-- Types 1..240: at each n-th SYNC
abbrev pub sync_moments : Communication → Timers → Kind → Bool
sync_moments s t emergency = true
sync_moments s t sdo_reply = false
sync_moments s t heartbeat = false
sync_moments s t (tpdo w) = sync_due (pdo s w) (clock t w)

-- What is due is the reply that joins; a withdrawal may still take it.
abbrev pub request_moments : Kind → Bool
request_moments emergency = true
request_moments sdo_reply = true
request_moments heartbeat = false
request_moments (tpdo w) = false

-- from the core before the act and the core after it
abbrev pub moments : Core → Core → Act → Kind → Bool
moments before after nothing = no_moment
moments before after (enter g) = entry_moments (communication before) (state g)
moments before after (reset r) = emergency_only
moments before after boot = emergency_only
moments before after idle = emergency_only
moments before after (send k) = emergency_only
moments before after (take r) = emergency_only
moments before after lose = emergency_only
moments before after time = time_moments (communication before) before.timers
moments before after sync = sync_moments (communication before) before.timers
moments before after (serve s) = request_moments

-- A kind goes when its condition ends; it joins when it is due and may join. A due moment with a missing reading is passed over.
abbrev pub goes : Core → Core → List ℕ
goes before after = those (λ k. may_stay before k && not (may_stay after k))

abbrev pub comes : (Kind → Bool) → Core → List ℕ
comes due after = those (λ k. due k && may_join after k)

-- A head with a new core, after its line has settled; `slot` says whether the first kind was sent. `after_in` of crate waiting defines how
-- kinds join and are withdrawn: a kind joins at the end, one that waits already keeps its place, several join in the order just given.
unfoldable pub settled_to : Bool → Head → Core → (Kind → Bool) → Head
settled_to slot h after due =
    record { core = after; transfer = h.transfer; line = after_in slot (goes h.core after) (comes due after) h.line }

-- which kinds an act on a core makes due
abbrev pub moments_of : Core → Act → Kind → Bool
moments_of c a = moments c (acted c a) a

unfoldable pub act : Bool → Head → Act → Head
act slot h a = settled_to slot h (acted h.core a) (moments_of h.core a)

-- What an act sends.
abbrev pub frame_by : Core → Act → Option Frame
frame_by c nothing = none
frame_by c (enter g) = none
frame_by c (reset r) = none
frame_by c boot = some (boot_up_frame c)
frame_by c idle = none
frame_by c (send k) = some (frame_of c k)
frame_by c (take r) = none
frame_by c lose = none
frame_by c time = none
frame_by c sync = none
frame_by c (serve s) = none
