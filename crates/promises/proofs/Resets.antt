-- Proves `Resets` of specs/Resets.antt.
use Prim.Native.Nat.{ℕ}
use lib.ListN.{drop}
use mathlib.Core.Path.{◌≡◌, refl, sym, ap, subst, ◌∙◌}
use mathlib.Core.Bool.{Bool, true, false, not, ◌&&◌, cond, beq}
use mathlib.Core.List.{[], ◌∷◌, map}
use mathlib.Core.Logic.{inl, inr}
use mathlib.Core.Option.{some}
use Rattle.can.specs.declared.Received.{Received}
use Rattle.entries.specs.declared.Device.{Device}
use Rattle.entries.specs.declared.Settings.{Settings}
use Rattle.entries.specs.Table.{Found, table, index, lookup}
use Rattle.std.specs.Prelude.{Ok as At, Err}
use Rattle.entries.specs.declared.table.NotFound.TheVariants.{NoSubIndex, NoIndex}
use Rattle.entries.proofs.Listed.{agree}
use Rattle.entries.proofs.Laws.{laws as entries-laws}
use Rattle.entries.specs.Keys.{save_key, load_key}
use Rattle.dictionary.specs.Accepted.{on}
use Rattle.dictionary.specs.Reads.{shown, read_of, reads}
use Rattle.dictionary.specs.Effects.{saved_by}
use Rattle.waiting.specs.Line as line
use Rattle.waiting.specs.Line.{places}
use Rattle.waiting.specs.Calls.{withdraws, joins}
use Rattle.waiting.proofs.Laws.{laws}
use Rattle.parts.specs.declared.Head.{Head}
use Rattle.promises.specs.States.{operational, is_in, is_initialising, node, communication, good}
use Rattle.promises.specs.States.{Reset, of_node, of_communication, restored, to_reset}
use Rattle.promises.specs.WaitingLine.{is_alerting}
use Rattle.promises.specs.Acts.{boot, reset_to, booted, acted, emergency_only, goes, comes, settled_to, act}
use Rattle.promises.specs.Calls.{receive, slot, step}
use Rattle.promises.specs.Valid.{Valid}
use Rattle.promises.specs.Meant.{Commands}
use Rattle.promises.specs.Histories.{after, Reachable}
use Rattle.promises.specs.Readings.{reads_in}
use Rattle.promises.specs.Resets.{settings_for, HasReset, HasBooted, Saves, Restores, Resets}
use Rattle.promises.proofs.Valid.{valid_step}
use Rattle.promises.proofs.Waits.{holds_act}
use Rattle.promises.proofs.Slots.{none_waits, boots}
use Rattle.promises.proofs.Meant.{core_step, commands, resets}
use Rattle.promises.proofs.Histories.{valid_reachable}
use Rattle.promises.proofs.ReplyJoins.{none_withdrawn}
use Rattle.promises.proofs.Effects.{served_rightly}
use Rattle.promises.proofs.Kept.{settings_after, saved_after}
use Rattle.promises.proofs.ReadsOn.{reads_on}

-- 82h: the whole table at once, by computation
module _ (d : Device) where
  abbrev now : Device
  now = reset_to d (restored of_communication d.settings d.saved)

  abbrev due : ℕ → Device
  due i = reset_to d (settings_for of_communication d i)

  columns : map (λ r. shown now false r) table ≡ map (λ r. shown (due (index r)) false r) table
  unfolding table shown
  columns = refl

  found_reset : (i j : ℕ) (x : Found) → lookup i j ≡ x → read_of now false x ≡ read_of (due i) false x
  found_reset i j (At q) e =
      let s = ((entries-laws.finds i j).at q).0 e in
      ap some (agree (λ r. shown now false r) (λ r. shown (due (index r)) false r) columns q s.0.0 ∙ ap (λ n. shown (due n) false q) s.0.1)
  found_reset i j (Err NoSubIndex) e = refl
  found_reset i j (Err NoIndex) e = refl

reads_reset : (r : Reset) (d : Device) (i j : ℕ)
    → reads (reset_to d (restored r d.settings d.saved)) false i j ≡ reads (reset_to d (settings_for r d i)) false i j
reads_reset of_node d i j = refl
reads_reset of_communication d i j = found_reset d i j (lookup i j) refl

pub has_reset : (h : Head) (f : Received) (r : Reset) → Valid h → Commands h f (to_reset r) → HasReset r h (step h (receive f))
has_reset h f r v m =
    let restarted = resets h f r m in
    let empty = none_waits (step h (receive f)) (valid_step h (receive f) v) restarted.initialising in
    let means = core_step h (receive f) ∙ ap (acted h.core) (commands h f m) in
    record {
      entries = λ i j. ap (λ c. reads c.device (is_in operational c) i j) means ∙ reads_reset r h.core.device i j;
      restarted = restarted;
      node = ap node means;
      identity = ap (λ c. c.device.identity) means;
      line = empty;
    }

-- The boot-up frame is sent: nothing waited, and the emergency joins where it may.
joined : (m : Bool) (k : ℕ) → joins [] (cond m (k ∷ []) []) ≡ cond m (k ∷ []) []
joined true k = refl
joined false k = refl

-- "good" counts as announced
untold : (t g : Bool) → (t && true && not (beq g true)) ≡ (t && not g)
untold true true = refl
untold true false = refl
untold false g = refl

has_booted : (h : Head) → Valid h → is_initialising h.core ≡ true → HasBooted h (step h slot)
unfolding act settled_to
has_booted h v i =
    let c = h.core in
    let told = (v.fresh i).0 in
    let out = goes c (booted c) in
    let into = comes emergency_only (booted c) in
    let its-line =
    (laws places).all (holds_act true h boot v)
    ∙ ap (λ ws. joins (withdraws (drop 1 ws) out) into) (none_waits h v i)
    ∙ ap (λ ws. joins ws into) (none_withdrawn out)
    ∙ joined (is_alerting (booted c)) line.emergency
    ∙ ap (λ t. cond (on (communication c).emergency && true && not (beq (good c) t)) (line.emergency ∷ []) []) told
    ∙ ap (λ t. cond t (line.emergency ∷ []) []) (untold (on (communication c).emergency) (good c)) in
    let after : HasBooted h (act true h boot) =
    record {
      nmt = refl;
      device = refl;
      announced = told;
      timers = refl;
      line = its-line;
    } in
    subst (λ a. HasBooted h (act true h a)) (sym (boots h i)) after

restores : (k : ℕ) (s : Head → Settings) → ((h : Head) → saved_by h.core.device k ≡ s h) → Restores k s
restores k s e h x f v w cs n g r m =
    let now = step h (receive f) in
    let valid = valid_step h (receive f) (valid_reachable h x) in
    (resets (after now cs) g r m).settings
    ∙ ap (restored r (after now cs).core.device.settings)
    (saved_after now valid cs n ∙ ((served_rightly h x f w.requests).accepted k v w.accepted).saved ∙ e h)

runs_on : (h : Head) → Reachable h → (f : Received) → Saves h (receive f) → (i j : ℕ) → reads_in (step h (receive f)) i j ≡ reads_in h i j
runs_on h x f (v, inl w) i j = ((served_rightly h x f w.requests).accepted save_key v w.accepted).others i j refl
runs_on h x f (v, inr w) i j = ((served_rightly h x f w.requests).accepted load_key v w.accepted).others i j refl

pub save_and_reset : Resets
save_and_reset =
    record {
      resets = λ h x f r. has_reset h f r (valid_reachable h x);
      boots = λ h x. has_booted h (valid_reachable h x);
      settings_stay = λ h x. settings_after h (valid_reachable h x);
      reads_on = reads_on;
      saved_stays = λ h x. saved_after h (valid_reachable h x);
      saves = restores save_key _ (λ h. refl);
      loads = restores load_key _ (λ h. refl);
      runs_on = runs_on;
    }
