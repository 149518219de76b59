-- A frame that `hear` lets pass changes nothing, nor does one that it refuses. 01, chapter "Refusal numbers".
use Rattle.std.specs.Prelude.{◌≡◌, Bool, true, false, Option, None, Some, Result, Ok, Err}
use Rattle.can.specs.declared.Received.{Received}
use Rattle.can.specs.declared.Refusal.{Refusal}
use Rattle.can.specs.Frame.{number_in}
use Rattle.parts.specs.declared.Head.{Head}
use Rattle.promises.specs.Calls.{receive, step, refusal_by}
use Rattle.promises.specs.Valid.{Valid}
use Rattle.steps.specs.declared.hear.Heard.{Heard}
use Rattle.steps.specs.Hear.{heard_by}

-- what `hear` says of the frame f to the head h
abbrev pub heard_in : Head → Received → Result (Option Heard) Refusal
heard_in h f = heard_by h.core.nmt h.core.device h.transfer h.line f

-- it is refused, or not meant for the head
abbrev pub lets_pass : Result (Option Heard) Refusal → Bool
lets_pass (Err r) = true
lets_pass (Ok None) = true
lets_pass (Ok (Some x)) = false

pub record Passes (h : Head) (f : Received) : Type 0 where
  -- A frame neither refused nor meant for the head changes nothing; nor does a refused one: the number; head unchanged.
  pub unchanged : lets_pass (heard_in h f) ≡ true → step h (receive f) ≡ h
  -- 1, 2, or 0 for no refusal: the number that the call answers, whichever way the frame goes
  pub refusal : number_in (heard_in h f) ≡ refusal_by (receive f)
  -- a frame that is refused passes
  pub refused : (refusal_by (receive f) ≡ 0 → ⊥) → lets_pass (heard_in h f) ≡ true

abbrev pub Laws : Type 0
Laws = (h : Head) (f : Received) → Valid h → Passes h f
