-- Proves `Gap` of specs/Gap.antt: no position frame joins while the reading is missing, and the head announces it.
use Prim.Native.Nat.{ℕ, ◌≤◌}
use mathlib.Core.Path.{◌≡◌, refl, sym, ap, ◌∙◌}
use mathlib.Core.Bool.{Bool, true, false}
use mathlib.Core.List.{List, [], ◌∷◌, ◌++◌, append_assoc}
use mathlib.Core.Option.{Option, some}
use mathlib.Core.Logic.{inr}
use borrow.Author.Tests.{not-false}
use Rattle.cases.proofs.Cases.{neither, test, true_false}
use Rattle.can.specs.declared.Frame.{Frame}
use Rattle.dictionary.specs.Accepted.{on}
use Rattle.parts.specs.declared.Head.{Head}
use Rattle.parts.specs.declared.Sensor.TheVariants.{Missing}
use Rattle.promises.specs.States.{is_initialising, is_live, node, communication, good}
use Rattle.promises.specs.WaitingLine.{emergency}
use Rattle.promises.specs.Acts.{losing}
use Rattle.promises.specs.Calls.{Call, sample, step}
use Rattle.promises.specs.Valid.{waits, Valid}
use Rattle.promises.specs.Histories.{after, slots, sent, PowerUp, powered, Reachable}
use Rattle.promises.specs.FiveSlots.{LeavesBy}
use Rattle.promises.specs.Gap.{node_of, among, last_emergency, says_missing, Said, unsaid, said_good, said_missing}
use Rattle.promises.specs.Gap.{is_good_sample, is_command, stops_or_resets, is_off, heads, Unrelieved, Gap}
use Rattle.promises.proofs.States.{not_live}
use Rattle.promises.proofs.Valid.{valid_step, emergency_exactly}
use Rattle.promises.proofs.Meant.{core_step}
use Rattle.promises.proofs.FiveSlots.{five_slots}
use Rattle.promises.proofs.Histories.{after_append, valid_after, valid_powered}
use Rattle.promises.proofs.Inhibit.{inhibit_left, rounded_up}
use Rattle.promises.proofs.Unrelieved.{Pending, pending_may, stays_told, stays_pending}
use Rattle.promises.proofs.Unshown.{no_more_positions, no_position_at_first}
use Rattle.promises.proofs.Silent.{silent_once_told}
use Rattle.promises.proofs.Known.{known, known_boot_up}
use Rattle.promises.proofs.SameNode.{node_step, node_after, node_powered}
use Rattle.promises.proofs.Announced.{announced}

says_so : {n : ℕ} {last : Option Frame} {good : Bool} → Said n last good → good ≡ false → last ≡ some (says_missing n)
says_so unsaid e = true_false e
says_so said_good e = true_false e
says_so said_missing e = refl

-- A head in a gap that goes on through the calls cs.
record Gapped (n : ℕ) (h : Head) (cs : List Call) : Type 0 where
  valid : Valid h
  its_node : node h.core ≡ n
  pending : Pending h.core
  unrelieved : Unrelieved n h cs

is_on_law : {n : ℕ} (h : Head) (cs : List Call) → Unrelieved n h cs → on (communication h.core).emergency ≡ true
is_on_law h [] u = not-false _ (neither (is_off h) false u.alerting).0
is_on_law h (x ∷ cs) u = not-false _ (neither (is_off h) (among is_off (heads (step h x) cs)) u.alerting).0

module _ {n : ℕ} where
  runs : {h : Head} {x : Call} {cs : List Call} → Gapped n h (x ∷ cs)
      → (is_command n stops_or_resets x ≡ false) × (among (is_command n stops_or_resets) cs ≡ false)
  runs {h} {x} {cs} g = neither (is_command n stops_or_resets x) (among (is_command n stops_or_resets) cs) g.unrelieved.running

  gapped_step : {h : Head} {x : Call} {cs : List Call} → Gapped n h (x ∷ cs) → Gapped n (step h x) cs
  gapped_step {h} {x} {cs} g =
      let u = g.unrelieved in
      let missing = neither (is_good_sample x) (among is_good_sample cs) u.missing in
      record {
        valid = valid_step h x g.valid;
        its_node = node_step h g.valid x ∙ g.its_node;
        pending = stays_pending n h g.its_node g.valid x missing.0 (runs g).0 g.pending;
        unrelieved = record {
          missing = missing.1;
          alerting = (neither (is_off h) (among is_off (heads (step h x) cs)) u.alerting).1;
          running = (runs g).1;
        };
      }

  gapped_after : (xs : List Call) {h : Head} {cs : List Call} → Gapped n h (xs ++ cs) → Gapped n (after h xs) cs
  gapped_after [] g = g
  gapped_after (x ∷ xs) g = gapped_after xs (gapped_step g)

  live_after : (cs : List Call) {h : Head} → Gapped n h cs → is_live (after h cs).core ≡ true
  live_after [] g = g.pending.alive
  live_after (x ∷ cs) g = live_after cs (gapped_step g)

  told_after : (cs : List Call) {h : Head} → Gapped n h cs → h.core.announced ≡ false → (after h cs).core.announced ≡ false
  told_after [] g t = t
  told_after (x ∷ cs) {h} g t = told_after cs (gapped_step g) (stays_told n h g.its_node g.valid x (runs g).0 g.pending.lost t)

  -- where the emergency does not wait, it has announced
  told : {h : Head} {cs : List Call} → Gapped n h cs → waits h emergency ≡ false → h.core.announced ≡ false
  told {h} {cs} g w =
      test h.core.announced
      (λ t. true_false (sym (g.valid.urgent (pending_may h.core g.pending (is_on_law h cs g.unrelieved) t)) ∙ w))
      (λ t. t)

  told_by : (h : Head) → Reachable h → (cs : List Call) → Gapped n h cs → 5 ≤ slots cs → (after h cs).core.announced ≡ false
  told_by h r cs g enough =
      test (waits h emergency)
      (λ w.
      let l : LeavesBy 5 h cs emergency = five_slots.by_the_fifth h r cs emergency w enough in
      let m : Gapped n (step (after h l.before) l.call) l.rest = gapped_step (gapped_after l.before (rw l.split at g)) in
      rw (l.split, after_append h l.before (l.call ∷ l.rest)) (told_after l.rest m (told m l.gone)))
      (λ w. told_after cs g (told g w))

gap_is_told : (p : PowerUp) (before cs : List Call) → let h = after (powered p) before in
    is_live h.core ≡ true
    → good h.core ≡ false
    → h.core.timers.inhibit ≡ 0
    → Unrelieved (node_of p) h cs
    → 5 ≤ slots cs
    → last_emergency (node_of p) (sent (powered p) (before ++ cs)) ≡ some (says_missing (node_of p))
gap_is_told p before cs live lost free u enough =
    let h : Head = after (powered p) before in
    let g : Gapped (node_of p) h cs = record {
      valid = valid_after (powered p) before (valid_powered p);
      its_node = node_after (powered p) (valid_powered p) before ∙ node_powered p;
      pending = record { alive = live; lost = lost; free = inr free };
      unrelieved = u;
    } in
    let e : after (powered p) (before ++ cs) ≡ after h cs = after_append (powered p) before cs in
    let booted : is_initialising (after h cs).core ≡ false =
    test (is_initialising (after h cs).core) (λ i. true_false (sym (live_after cs g) ∙ not_live (after h cs).core i)) (λ i. i) in
    says_so (announced p (before ++ cs) (rw e booted)) (rw e (told_by h (record { start = p; calls = before; so = refl }) cs g enough))

missing_is_told : (p : PowerUp) (before cs : List Call) → let h = after (powered p) before in
    is_live h.core ≡ true
    → h.core.timers.inhibit ≡ 0
    → Unrelieved (node_of p) (step h (sample Missing)) cs
    → 5 ≤ slots cs
    → last_emergency (node_of p) (sent (powered p) (before ++ sample Missing ∷ cs)) ≡ some (says_missing (node_of p))
missing_is_told p before cs live free u enough =
    let h : Head = after (powered p) before in
    let lost : List Call = before ++ sample Missing ∷ [] in
    let e : after (powered p) lost ≡ step h (sample Missing) = after_append (powered p) before (sample Missing ∷ []) in
    let c : (after (powered p) lost).core ≡ losing h.core = ap (λ m. m.core) e ∙ core_step h (sample Missing) in
    rw append_assoc at (gap_is_told p lost cs (ap is_live c ∙ live) (ap good c) (ap (λ d. d.timers.inhibit) c ∙ free) (rw e u) enough)

pub gap : Gap
gap =
    record {
      same_node = its_node;
      waits_exactly = λ p cs. emergency_exactly (after (powered p) cs) (valid p cs);
      inhibit_left = inhibit_left;
      no_inhibit = refl;
      rounded_up = rounded_up;
      announced = announced;
      forgotten = λ p cs i. let f = (valid p cs).fresh i in (f.0, ap (λ t. t.inhibit) f.1);
      known = λ p cs k w. let v = valid p cs in known (node_of p) (after (powered p) cs).core (its_node p cs) v.device k (v.only k w);
      known_boot_up = λ p cs. known_boot_up (node_of p) (after (powered p) cs).core (its_node p cs) (valid p cs).device;
      no_more_positions = no_more_positions;
      silent_once_told = silent_once_told;
      no_position_at_first = no_position_at_first;
      missing_is_told = missing_is_told;
      gap_is_told = gap_is_told;
    }
  where
    valid : (p : PowerUp) (cs : List Call) → Valid (after (powered p) cs)
    valid p cs = valid_after (powered p) cs (valid_powered p)

    its_node : (p : PowerUp) (cs : List Call) → node (after (powered p) cs).core ≡ node_of p
    its_node p cs = node_after (powered p) (valid_powered p) cs ∙ node_powered p
