-- What decides, beside the settings, whether the emergency may wait, in a head: 01, chapter "The waiting line".
use Rattle.parts.specs.declared.Core.{Core}
use Rattle.promises.specs.States.{good}
use Rattle.emergency.specs.declared.Telling.{Telling}

abbrev pub telling_of : Core → Telling
telling_of c = record { state = c.nmt; inhibit_ticks = c.timers.inhibit; good = good c; announced = c.announced }
