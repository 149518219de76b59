-- The head after entering a state, and the head after a reset, are what `promises` says.
use Prim.Native.Nat.{ℕ, zero, suc, ◌<◌, ◌≤◌}
use native.Mathlib.Omega.{arith}
use lib.Dec.{eqb}
use mathlib.Core.Path.{◌≡◌, refl, sym, ap, ◌∙◌}
use mathlib.Core.Bool.{Bool, true, false, not, ◌&&◌, beq}
use mathlib.Core.List.{List, []}
use Rattle.cases.specs.Padded.{pad}
use Rattle.cases.proofs.Cases.{by, both, true_false}
use Rattle.dictionary.specs.Accepted.{on}
use Rattle.waiting.specs.Line as line
use Rattle.waiting.specs.Line.{places, has}
use Rattle.waiting.specs.Calls.{joins_in, withdraws_in}
use Rattle.waiting.proofs.Unmoved.{stays_alone}
use Rattle.parts.specs.declared.Core.{Core}
use Rattle.parts.specs.declared.Head.{Head}
use Rattle.parts.specs.Put.{with_line, with_timers, with_nmt, with_announced, with_settings}
use Rattle.promises.specs.States.{CommandedState, operational, stopped, pre_operational, state, live, is_in, is_initialising, PdoNumber}
use Rattle.promises.specs.States.{communication, good, Reset, of_node, of_communication, restored}
use Rattle.promises.specs.WaitingLine.{Kind, emergency, sdo_reply, heartbeat, tpdo, those, may_stay}
use Rattle.promises.specs.Acts.{enter, reset, entered, reset_with, entry_moments, goes, comes, settled_to, act}
use Rattle.promises.specs.Valid.{Valid}
use Rattle.promises.proofs.Settled.{withdrawn}
use Rattle.promises.proofs.Slots.{none_waits}
use Rattle.nmt.specs.Entry.{staying_by, entered_by, restarted_by}

-- all but the heartbeat
abbrev others : Kind → Bool
others emergency = true
others sdo_reply = true
others heartbeat = false
others (tpdo w) = true

-- both PDOs, or none
abbrev pdos : Bool → Kind → Bool
pdos leaves emergency = false
pdos leaves sdo_reply = false
pdos leaves heartbeat = false
pdos leaves (tpdo w) = leaves

no_other : (k : ℕ) → 0 < k → k ≤ places → has k (those others) ≡ false → k ≡ line.heartbeat
no_other zero p q e = absurd (omega arith)
no_other (suc zero) p q e = true_false e
no_other (suc (suc zero)) p q e = true_false e
no_other (suc (suc (suc zero))) p q e = refl
no_other (suc (suc (suc (suc zero)))) p q e = true_false e
no_other (suc (suc (suc (suc (suc zero))))) p q e = true_false e
no_other (suc (suc (suc (suc (suc (suc k)))))) p q e = absurd (omega arith)

-- in another live state the emergency's condition is as before
alerts_on : (before after on free differs : Bool) → after ≡ true → (before && on && free && differs) ≡ true
    → false ≡ not (after && on && free && differs)
alerts_on true true on free differs a e = sym (ap not e)
alerts_on true false on free differs a e = true_false (sym a)
alerts_on false after on free differs a e = true_false (sym e)

-- whether a reset is that of all settings
abbrev pub of_all : Reset → Bool
of_all of_node = true
of_all of_communication = false

module _ (h : Head) (v : Valid h) where
  abbrev c : Core
  c = h.core

  abbrev later : CommandedState → Core
  later g = entered c (state g)

  beats_on : (g : CommandedState) → may_stay c heartbeat ≡ true → false ≡ not (may_stay (later g) heartbeat)
  beats_on g m = sym (ap not (still g (both (not (is_initialising c)) (not (eqb (communication c).heartbeat 0)) m).1))
    where
      still : (g : CommandedState) → not (eqb (communication c).heartbeat 0) ≡ true → may_stay (later g) heartbeat ≡ true
      still operational e = e
      still stopped e = e
      still pre_operational e = e

  stopping : (k : Kind) → may_stay c k ≡ true → others k ≡ not (may_stay (later stopped) k)
  stopping emergency m = refl
  stopping sdo_reply m = refl
  stopping heartbeat m = beats_on stopped m
  stopping (tpdo w) m = refl

  going_on : (g : CommandedState) (leaves : Bool) → live (state g) ≡ true
      → ((w : PdoNumber) → may_stay c (tpdo w) ≡ true → leaves ≡ not (may_stay (later g) (tpdo w)))
      → (k : Kind) → may_stay c k ≡ true → pdos leaves k ≡ not (may_stay (later g) k)
  going_on g leaves l right emergency m =
      alerts_on (live c.nmt) (live (state g)) (on (communication c).emergency) (eqb c.timers.inhibit 0)
      (not (beq (good c) c.announced)) l m
  going_on g leaves l right sdo_reply m = sym (ap not l)
  going_on g leaves l right heartbeat m = beats_on g m
  going_on g leaves l right (tpdo w) m = right w m

  -- outside Operational no PDO waits
  no_pdo : {A : Type 0} → is_in operational c ≡ false → (w : PdoNumber) → may_stay c (tpdo w) ≡ true → A
  no_pdo e w m = let no : may_stay c (tpdo w) ≡ false = rw e in true_false (sym m ∙ no)

  abbrev stayed : CommandedState → List ℕ
  stayed g = withdraws_in h.line (goes c (later g))

  -- a live state is entered from a state other than Operational
  none_leaves : (g : CommandedState) → live (state g) ≡ true → is_in operational c ≡ false → h.line ≡ stayed g
  none_leaves g l e = withdrawn h v (pdos false) (later g) (going_on g false l (λ w m. no_pdo e w m))

  stays : (g : CommandedState) → is_in g c ≡ false → staying_by h.line c.nmt (state g) ≡ stayed g
  stays operational e =
      by (λ (l : List ℕ). l ≡ stayed operational) (is_in operational c)
      (λ o. true_false (sym o ∙ e))
      (λ _. none_leaves operational refl e)
  stays stopped e =
      sym (stays_alone v.line line.heartbeat (those others) (omega arith) refl no_other)
      ∙ withdrawn h v others (later stopped) stopping
  stays pre_operational e =
      by (λ (l : List ℕ). l ≡ stayed pre_operational) (is_in operational c)
      (λ _. withdrawn h v (pdos true) (later pre_operational) (going_on pre_operational true refl (λ w m. refl)))
      (λ o. none_leaves pre_operational refl o)

  pub enters : (g : CommandedState) → is_in g c ≡ false
      → let e = entered_by c.nmt (communication c) c.timers (good c) c.announced h.line (state g) in
      with_line (with_timers (with_nmt h e.nmt) e.timers) e.line ≡ act false h (enter g)
  unfolding act settled_to
  enters g e =
      let due = entry_moments (communication c) (state g) in
      ap {B = Head} (λ l. record { core = later g; transfer = h.transfer; line = joins_in l (comes due (later g)) }) (stays g e)

  -- in Initialising none waits
  emptied : (r : Reset) → Valid (act false h (reset r)) → (act false h (reset r)).line ≡ pad places []
  unfolding act settled_to
  emptied r w = w.line.shape ∙ ap (pad places) (none_waits (act false h (reset r)) w refl)

  abbrev with_line_law : Reset → List ℕ → Head
  with_line_law r l = record { core = reset_with c (restored r c.device.settings c.device.saved); transfer = h.transfer; line = l }

  pub resets : (r : Reset) → Valid (act false h (reset r))
      → let e = restarted_by c.device.settings c.device.saved (of_all r) in
      with_line (with_timers (with_announced (with_nmt (with_settings h e.settings) e.nmt) e.announced) e.timers) e.line
      ≡ act false h (reset r)
  unfolding act settled_to
  resets of_node w = ap (with_line_law of_node) (sym (emptied of_node w))
  resets of_communication w = ap (with_line_law of_communication) (sym (emptied of_communication w))
