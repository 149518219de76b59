-- Only an accepted write and a reset change the settings, and only an accepted write of 1010-1 or 1011-1 changes the saved set.
use lib.Dec.{eqb}
use mathlib.Core.Path.{◌≡◌, refl, ap, ◌∙◌}
use mathlib.Core.List.{List, [], ◌∷◌}
use mathlib.Core.Logic.{◌⊎◌, inl, inr, ⊎_elim}
use borrow.Author.Tests.{eqb-true}
use Rattle.cases.proofs.Cases.{by}
use Rattle.can.specs.declared.Received.{Received}
use Rattle.entries.specs.declared.Device.{Device}
use Rattle.entries.specs.declared.Settings.{Settings}
use Rattle.entries.specs.Keys.{save_key, load_key}
use Rattle.dictionary.specs.Writes.{put}
use Rattle.dictionary.proofs.Own.{own_other}
use Rattle.sdo.specs.Reply.{carried_out}
use Rattle.sdo.specs.Service.{Due, none, value, confirmation, abort, upload, answer}
use Rattle.parts.specs.declared.Head.{Head}
use Rattle.promises.specs.Calls.{Call, receive, step}
use Rattle.promises.specs.Valid.{Valid}
use Rattle.promises.specs.Meant.{Requests, due_to}
use Rattle.promises.specs.Histories.{after}
use Rattle.promises.specs.Resets.{Saves, Alters, None}
use Rattle.promises.proofs.Valid.{valid_step}
use Rattle.promises.proofs.Altered.{Altered, heard, timed, sent, refused, took, lost, restarted, served, altered}

module _ (h : Head) (f : Received) (r : Requests h f) where
  -- what a request leaves of a set of settings, by what is due to it
  abbrev Leaves : (Device → Settings) → (Head → Call → Type 0) → Due → Type 0
  Leaves set Such y =
      (set (carried_out h.core.device (answer f.bytes y).effect) ≡ set h.core.device) ⊎ Such h (receive f)

  settings_served : (y : Due) → due_to h f ≡ y → Leaves (λ d. d.settings) Alters y
  settings_served none e = inl refl
  settings_served (value w m) e = inl refl
  settings_served (confirmation k v) e = inr (inl (k, v, record { requests = r; accepted = e }))
  settings_served (abort code) e = inl refl
  settings_served (upload b t) e = inl refl

  saved_served : (y : Due) → due_to h f ≡ y → Leaves (λ d. d.saved) Saves y
  unfolding put
  saved_served none e = inl refl
  saved_served (value w m) e = inl refl
  saved_served (confirmation k v) e =
      let Kept : Settings → Type 0 = λ s. (s ≡ h.core.device.saved) ⊎ Saves h (receive f) in
      rw (own_other k save_key refl refl, own_other k load_key refl refl)
      (by Kept (eqb k save_key)
      (λ t. inr (v, inl (record { requests = r; accepted = e ∙ ap (λ x. confirmation x v) (eqb-true k save_key t) })))
      (λ _. by Kept (eqb k load_key)
      (λ t. inr (v, inr (record { requests = r; accepted = e ∙ ap (λ x. confirmation x v) (eqb-true k load_key t) })))
      (λ _. inl refl)))
  saved_served (abort code) e = inl refl
  saved_served (upload b t) e = inl refl

settings_altered : (h : Head) (c : Call) (d : Device) → Altered h c d → (d.settings ≡ h.core.device.settings) ⊎ Alters h c
settings_altered h _ _ (heard f) = inl refl
settings_altered h _ _ timed = inl refl
settings_altered h _ _ sent = inl refl
settings_altered h _ _ (refused r b) = inl refl
settings_altered h _ _ (took r b) = inl refl
settings_altered h _ _ lost = inl refl
settings_altered h _ _ (restarted f r x) = inr (inr (r, x))
settings_altered h _ _ (served f x) = settings_served h f x (due_to h f) refl

saved_altered : (h : Head) (c : Call) (d : Device) → Altered h c d → (d.saved ≡ h.core.device.saved) ⊎ Saves h c
saved_altered h _ _ (heard f) = inl refl
saved_altered h _ _ timed = inl refl
saved_altered h _ _ sent = inl refl
saved_altered h _ _ (refused r b) = inl refl
saved_altered h _ _ (took r b) = inl refl
saved_altered h _ _ lost = inl refl
saved_altered h _ _ (restarted f r x) = inl refl
saved_altered h _ _ (served f x) = saved_served h f x (due_to h f) refl

pub settings_by : (h : Head) → Valid h → (c : Call) → ((step h c).core.device.settings ≡ h.core.device.settings) ⊎ Alters h c
settings_by h v c = settings_altered h c (step h c).core.device (altered h v c)

pub saved_by_law : (h : Head) → Valid h → (c : Call) → ((step h c).core.device.saved ≡ h.core.device.saved) ⊎ Saves h c
saved_by_law h v c = saved_altered h c (step h c).core.device (altered h v c)

-- a set of settings that only such calls alter
module _ (set : Device → Settings) (Such : Head → Call → Type 0)
    (only-such : (h : Head) → Valid h → (c : Call) → (set (step h c).core.device ≡ set h.core.device) ⊎ Such h c) where
  after_calls : (h : Head) → Valid h → (cs : List Call) → None Such h cs → set (after h cs).core.device ≡ set h.core.device
  after_calls h v [] n = refl
  after_calls h v (c ∷ cs) n =
      after_calls (step h c) (valid_step h c v) cs n.1 ∙ ⊎_elim (λ e. e) (λ s. absurd (n.0 s)) (only-such h v c)

pub settings_after : (h : Head) → Valid h → (cs : List Call) → None Alters h cs
    → (after h cs).core.device.settings ≡ h.core.device.settings
settings_after = after_calls (λ d. d.settings) Alters settings_by

pub saved_after : (h : Head) → Valid h → (cs : List Call) → None Saves h cs → (after h cs).core.device.saved ≡ h.core.device.saved
saved_after = after_calls (λ d. d.saved) Saves saved_by_law
