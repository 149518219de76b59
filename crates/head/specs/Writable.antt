-- What obeying a frame requires: of a write to 6000h..6005h, that its entry accepts the value. 01, chapter "Entries".
use Rattle.std.specs.Prelude.{Option}
use Rattle.position.specs.Profile.{ValidProfile}
use Rattle.parts.specs.declared.Head.{Head}
use Rattle.steps.specs.declared.hear.Heard.{Heard}
use Rattle.steps.specs.Obey.{FittingIn}

pub record Writable (h : Head) (x : Option Heard) : Type 0 where
  pub valid : ValidProfile h.core.device.settings.profile
  pub fits : FittingIn h.core.device.settings.profile x
