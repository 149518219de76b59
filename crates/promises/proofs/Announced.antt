-- What counts as announced is what the last emergency frame since boot-up said.
use Prim.Native.Nat.{ℕ}
use mathlib.Core.Path.{◌≡◌, refl, ◌∙◌}
use mathlib.Core.Bool.{Bool, true, false}
use mathlib.Core.List.{List, [], ◌∷◌, ◌++◌}
use mathlib.Core.Option.{Option, none}
use Rattle.cases.proofs.Cases.{test, true_false}
use Rattle.can.specs.declared.Frame.{Frame}
use Rattle.dictionary.specs.Valid.{ValidDevice}
use Rattle.parts.specs.declared.Core.{Core}
use Rattle.parts.specs.declared.Head.{Head}
use Rattle.promises.specs.States.{is_initialising, node, good}
use Rattle.promises.specs.WaitingLine.{Kind, emergency, sdo_reply, heartbeat, tpdo, may_stay, frame_of}
use Rattle.promises.specs.Acts.{Act, nothing, enter, reset, boot, idle, send, take, lose, time, sync, serve, sending, acted, frame_by}
use Rattle.promises.specs.Calls.{Call, is_slot, meant, step}
use Rattle.promises.specs.Valid.{Valid}
use Rattle.promises.specs.Histories.{after, frames, sent, PowerUp, powered}
use Rattle.promises.specs.Gap.{node_of, last_after, last_emergency, Said, unsaid, said_good, said_missing}
use Rattle.promises.proofs.Fits.{Fits, fits}
use Rattle.promises.proofs.States.{Fresh}
use Rattle.promises.proofs.Valid.{valid_step}
use Rattle.promises.proofs.Meant.{core_step}
use Rattle.promises.proofs.SameNode.{node_step, node_powered}
use Rattle.promises.proofs.Known.{framed, frames_by, sent_waits, known, known_boot_up}
use Rattle.promises.proofs.Histories.{at_power_up, valid_powered}

last_append : (n : ℕ) (last : Option Frame) (xs ys : List Frame) → last_after n last (xs ++ ys) ≡ last_after n (last_after n last xs) ys
last_append n last [] ys = refl
last_append n last (f ∷ xs) ys = last_append n (last_after n last (f ∷ [])) xs ys

-- Outside Initialising, what counts as announced is what was said last. (In Initialising the boot-up frame, still to come, starts again.)
abbrev Announced : ℕ → Option Frame → Core → Type 0
Announced n last c = is_initialising c ≡ false → Said n last c.announced

module _ (n : ℕ) (last : Option Frame) (c : Core) (q : node c ≡ n) (v : ValidDevice c.device) (s : Announced n last c) where
  says : (k : Kind) → may_stay c k ≡ true → Announced n (last_after n last (frame_of c k ∷ [])) (sending c k)
  says emergency m =
      let f = known n c q v emergency m in
      λ _. rw (f.boot_up, f.emergency, q) (test (good c) (λ e. rw e said_good) (λ e. rw e said_missing))
  says sdo_reply m = let f = known n c q v sdo_reply m in rw (f.boot_up, f.emergency) s
  says heartbeat m = let f = known n c q v heartbeat m in rw (f.boot_up, f.emergency) s
  says (tpdo w) m = let f = known n c q v (tpdo w) m in rw (f.boot_up, f.emergency) s

  announced_act : (atSlot : Bool) (a : Act) → Fits atSlot c a → Fresh c → ((k : Kind) → a ≡ send k → may_stay c k ≡ true)
      → Announced n (last_after n last (framed (frame_by c a))) (acted c a)
  announced_act b nothing f g w = s
  announced_act b (enter o) f g w = λ _. s f
  announced_act b (reset r) f g w = λ e. true_false e
  announced_act b boot f g w = λ _. rw ((known_boot_up n c q v).boot_up, (g f).0) unsaid
  announced_act b idle f g w = s
  announced_act b (send k) f g w = says k (w k refl)
  announced_act b (take r) f g w = s
  announced_act b lose f g w = s
  announced_act b time f g w = s
  announced_act b sync f g w = s
  announced_act b (serve t) f g w = s

-- n is the node: a rewrite of `node h.core` itself would take every h apart
announced_after : (n : ℕ) (cs : List Call) (h : Head) (last : Option Frame) → node h.core ≡ n → Valid h → Announced n last h.core
    → Announced n (last_after n last (sent h cs)) (after h cs).core
announced_after n [] h last q v s = s
announced_after n (x ∷ cs) h last q v s =
    rw (last_append n last (frames h x) (sent (step h x) cs))
    (announced_after n cs (step h x) (last_after n last (frames h x)) (node_step h v x ∙ q) (valid_step h x v)
    (rw (frames_by h v x, core_step h x)
    (announced_act n last h.core q v.device s (is_slot x) (meant h x) (fits h x) v.fresh
    (λ k e. v.only k (sent_waits h v x k e)))))

pub announced : (p : PowerUp) (cs : List Call)
    → Announced (node_of p) (last_emergency (node_of p) (sent (powered p) cs)) (after (powered p) cs).core
announced p cs =
    announced_after (node_of p) cs (powered p) none (node_powered p) (valid_powered p)
    (at_power_up (λ h. Announced (node_of p) none h.core) (λ _ _ _. unsaid) p)
