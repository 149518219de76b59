-- The node number is that of power-up: no call changes it.
use mathlib.Core.Path.{◌≡◌, refl, ◌∙◌}
use mathlib.Core.List.{List, [], ◌∷◌}
use Rattle.entries.specs.declared.Device.{Device}
use Rattle.parts.specs.declared.Head.{Head}
use Rattle.parts.specs.declared.Answer.{Answer}
use Rattle.promises.specs.States.{node}
use Rattle.promises.specs.Calls.{Call, step}
use Rattle.promises.specs.Valid.{Valid}
use Rattle.promises.specs.Histories.{after, PowerUp, powered}
use Rattle.promises.specs.Service.{reply_due}
use Rattle.promises.specs.Gap.{node_of}
use Rattle.promises.proofs.Refusals.{by_power_up}
use Rattle.promises.proofs.Valid.{valid_step}
use Rattle.promises.proofs.Altered.{Altered, heard, timed, sent, refused, took, lost, restarted, served, carried, altered}

node_by : (h : Head) (c : Call) (d : Device) → Altered h c d → d.node ≡ node h.core
node_by h _ _ (heard f) = refl
node_by h _ _ timed = refl
node_by h _ _ sent = refl
node_by h _ _ (refused r b) = refl
node_by h _ _ (took r b) = refl
node_by h _ _ lost = refl
node_by h _ _ (restarted f r x) = refl
node_by h _ _ (served f x) = (carried h.core.device (reply_due h f).effect).0

pub node_step : (h : Head) → Valid h → (c : Call) → node (step h c).core ≡ node h.core
node_step h v c = node_by h c (step h c).core.device (altered h v c)

pub node_after : (h : Head) → Valid h → (cs : List Call) → node (after h cs).core ≡ node h.core
node_after h v [] = refl
node_after h v (c ∷ cs) = node_after (step h c) (valid_step h c v) cs ∙ node_step h v c

pub node_powered : (p : PowerUp) → node (powered p).core ≡ node_of p
node_powered p = by_power_up (λ (a : Answer). node a.head.core) p.number p.identity refl
