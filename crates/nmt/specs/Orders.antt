-- What a command orders in the state that a head is in: 01, chapter "States".
-- "Others have no effect, nor does a command naming the present state."
use Rattle.std.specs.Prelude.{eqb, true, false, cond, Option, None, Some}
use Rattle.parts.specs.declared.Nmt.{Nmt}
use Rattle.promises.specs.States.{state, of_node, of_communication, Command, no_command, to_enter, to_reset}
use Rattle.nmt.specs.declared.Order.{Order}
use Rattle.nmt.specs.declared.Order.TheVariants.{Enter, Reset}

abbrev pub entering : Nmt → Nmt → Option Order
entering present s = cond (eqb present.code s.code) None (Some (Enter s))

abbrev pub order_of : Nmt → Command → Option Order
order_of present no_command = None
order_of present (to_enter g) = entering present (state g)
order_of present (to_reset of_node) = Some (Reset true)
order_of present (to_reset of_communication) = Some (Reset false)
