-- A head with one part replaced: how a call stores what its step gives back. All else stays. 01, chapter "The head and its neighbours".
use Rattle.std.specs.Prelude.{ℕ, Bool, List}
use Rattle.names.specs.declared.Transfer.{Transfer}
use Rattle.position.specs.declared.Profile.{Profile}
use Rattle.entries.specs.declared.Communication.{Communication}
use Rattle.entries.specs.declared.Device.{Device}
use Rattle.entries.specs.declared.Reading.{Reading}
use Rattle.entries.specs.declared.Settings.{Settings}
use Rattle.parts.specs.declared.Nmt.{Nmt}
use Rattle.parts.specs.declared.Timers.{Timers}
use Rattle.parts.specs.declared.Fixed.{Fixed}
use Rattle.parts.specs.declared.Core.{Core}
use Rattle.parts.specs.declared.Head.{Head}

abbrev pub with_line : Head → List ℕ → Head
with_line h l = record { line = l; transfer = h.transfer; core = h.core }

abbrev pub with_transfer : Head → Transfer → Head
with_transfer h t = record { line = h.line; transfer = t; core = h.core }

abbrev pub with_core : Head → Core → Head
with_core h c = record { line = h.line; transfer = h.transfer; core = c }

abbrev pub with_nmt : Head → Nmt → Head
with_nmt h s =
    let c = h.core in
    with_core h (record { nmt = s; announced = c.announced; timers = c.timers; reply = c.reply; device = c.device; fixed = c.fixed })

abbrev pub with_announced : Head → Bool → Head
with_announced h a =
    let c = h.core in
    with_core h (record { nmt = c.nmt; announced = a; timers = c.timers; reply = c.reply; device = c.device; fixed = c.fixed })

abbrev pub with_timers : Head → Timers → Head
with_timers h t =
    let c = h.core in
    with_core h (record { nmt = c.nmt; announced = c.announced; timers = t; reply = c.reply; device = c.device; fixed = c.fixed })

abbrev pub with_inhibit : Head → ℕ → Head
with_inhibit h n =
    let t = h.core.timers in
    with_timers h (record { inhibit = n; heartbeat = t.heartbeat; pdo1 = t.pdo1; pdo2 = t.pdo2 })

abbrev pub with_reply : Head → List ℕ → Head
with_reply h r =
    let c = h.core in
    with_core h (record { nmt = c.nmt; announced = c.announced; timers = c.timers; reply = r; device = c.device; fixed = c.fixed })

abbrev pub with_device : Head → Device → Head
with_device h d =
    let c = h.core in
    with_core h (record { nmt = c.nmt; announced = c.announced; timers = c.timers; reply = c.reply; device = d; fixed = c.fixed })

abbrev pub with_fixed : Head → Fixed → Head
with_fixed h x =
    let c = h.core in
    with_core h (record { nmt = c.nmt; announced = c.announced; timers = c.timers; reply = c.reply; device = c.device; fixed = x })

abbrev pub with_reading : Head → Reading → Head
with_reading h r =
    let d = h.core.device in
    with_device h
    (record { node = d.node; identity = d.identity; reading = r; errors = d.errors; settings = d.settings; saved = d.saved })

abbrev pub with_errors : Head → ℕ → Head
with_errors h n =
    let d = h.core.device in
    with_device h
    (record { node = d.node; identity = d.identity; reading = d.reading; errors = n; settings = d.settings; saved = d.saved })

abbrev pub with_settings : Head → Settings → Head
with_settings h s =
    let d = h.core.device in
    with_device h
    (record { node = d.node; identity = d.identity; reading = d.reading; errors = d.errors; settings = s; saved = d.saved })

abbrev pub with_saved : Head → Settings → Head
with_saved h s =
    let d = h.core.device in
    with_device h
    (record { node = d.node; identity = d.identity; reading = d.reading; errors = d.errors; settings = d.settings; saved = s })

abbrev pub with_communication : Head → Communication → Head
with_communication h k = with_settings h (record { communication = k; profile = h.core.device.settings.profile })

abbrev pub with_profile : Head → Profile → Head
with_profile h p = with_settings h (record { communication = h.core.device.settings.communication; profile = p })
