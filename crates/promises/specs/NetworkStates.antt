-- The NMT state over every sequence of calls: which calls enter a state, and that no other call does. 01, chapter "States".
use Rattle.std.specs.Prelude.{◌≡◌, ◌⊎◌, true}
use Rattle.can.specs.declared.Received.{Received}
use Rattle.parts.specs.declared.Head.{Head}
use Rattle.parts.specs.declared.Nmt.{Nmt}
use Rattle.promises.specs.States.{CommandedState, pre_operational, state, initialising, is_initialising, Reset, to_enter, to_reset}
use Rattle.promises.specs.Calls.{Call, receive, slot, step, tick}
use Rattle.promises.specs.Meant.{Commands}
use Rattle.promises.specs.Histories.{PowerUp, powered, Reachable}

-- The calls that enter a state, and the state.
pub data Enters (h : Head) : Call → Nmt → Type 0 where
  -- 01h Operational, 02h Stopped, 80h Pre-operational
  by_command : {f : Received} (g : CommandedState) → Commands h f (to_enter g) → Enters h (receive f) (state g)
  -- 81h reset node, 82h reset communication: both enter Initialising
  by_reset : {f : Received} {r : Reset} → Commands h f (to_reset r) → Enters h (receive f) initialising
  -- The slot that sends the boot-up frame enters Pre-operational.
  by_boot_up : is_initialising h.core ≡ true → Enters h slot (state pre_operational)

pub record NetworkStates : Type 0 where
  -- Power-up .. starts in Initialising
  pub starts : (p : PowerUp) → (powered p).core.nmt ≡ initialising
  pub enters : (h : Head) → Reachable h → (c : Call) (s : Nmt) → Enters h c s → (step h c).core.nmt ≡ s
  -- and no other call alters the state
  pub only_so : (h : Head) → Reachable h → (c : Call) → Enters h c (step h c).core.nmt ⊎ ((step h c).core.nmt ≡ h.core.nmt)
  -- In Initialising .. timers stand
  pub timers_stand : (h : Head) → is_initialising h.core ≡ true → step h tick ≡ h
