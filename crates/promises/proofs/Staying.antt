-- Proves `Staying` of specs/Staying.antt: the whole table at once, by computation.
use Prim.Native.Nat.{ℕ, ◌+◌}
use lib.Dec.{eqb}
use mathlib.Core.Path.{◌≡◌, refl, sym, ap, ap₂, subst, ◌∙◌}
use mathlib.Core.Bool.{Bool, true, false, cond}
use mathlib.Core.List.{[], ◌∷◌, map}
use mathlib.Core.Option.{some}
use Rattle.entries.specs.declared.Device.{Device}
use Rattle.entries.specs.declared.Identity.{Identity}
use Rattle.entries.specs.declared.Settings.{Settings}
use Rattle.entries.specs.declared.table.Row.{Row}
use Rattle.entries.specs.Table.{Found, table, key, key_of, lookup}
use Rattle.std.specs.Prelude.{Ok as At, Err, None as Blank, Some as Number}
use Rattle.entries.specs.declared.table.NotFound.TheVariants.{NoSubIndex, NoIndex}
use Rattle.entries.specs.Settings.{factory}
use Rattle.entries.specs.Laws.{Listed}
use Rattle.entries.specs.Keys.{save_key, load_key}
use Rattle.entries.proofs.Laws.{laws as entries-laws}
use Rattle.dictionary.specs.Shown.{Shown}
use Rattle.dictionary.specs.Laws.{Shows}
use Rattle.dictionary.specs.Reads.{shown, read_of, reads}
use Rattle.entries.proofs.Listed.{agree}
use Rattle.dictionary.proofs.Laws.{shows}
use Rattle.waiting.specs.Line.{has}
use Rattle.parts.specs.declared.Head.{Head}
use Rattle.promises.specs.States.{operational, is_in, Reset, of_node, of_communication}
use Rattle.promises.specs.Acts.{reset_to}
use Rattle.promises.specs.Calls.{receive, step}
use Rattle.promises.specs.Valid.{Valid}
use Rattle.promises.specs.Histories.{after, powered, Reachable}
use Rattle.promises.specs.Readings.{reads_in}
use Rattle.promises.specs.Resets.{restored_by82, settings_for}
use Rattle.promises.specs.Staying.{telling, reads_after, RestoresFrom, Staying}
use Rattle.promises.proofs.Valid.{valid_step}
use Rattle.promises.proofs.Histories.{valid_powered, valid_after, valid_reachable}
use Rattle.promises.proofs.SameNode.{node_after, node_powered}
use Rattle.promises.proofs.Effects.{served_rightly}
use Rattle.promises.proofs.Kept.{settings_after, saved_after}
use Rattle.promises.proofs.Resets.{has_reset}
use Rattle.promises.proofs.Codes.{codes}
use Rattle.promises.proofs.Signatures.{save_taken, load_taken, save_only, load_only}
use Rattle.promises.proofs.Starts.{powered_is, saved_is, identity_after}

module _ (d e : Device) (o u : Bool) where
  -- what an entry reads that shows neither samples nor the state
  abbrev of : Device → Bool → Row → Shown
  of d' o' w = cond (has (key w) telling) Blank (shown d' o' w)

  -- these settings and this identity, all else of e
  abbrev with : Settings → Identity → Device
  with s i = record { node = e.node; identity = i; reading = e.reading; errors = e.errors; settings = s; saved = e.saved }

  columns : map (of d o) table ≡ map (of (with d.settings d.identity) u) table
  unfolding table shown
  columns = refl

  module _ (q : d.settings ≡ e.settings) (r : d.identity ≡ e.identity) where
    shown_alike : (w : Row) → Listed w → has (key w) telling ≡ false → shown d o w ≡ shown e u w
    shown_alike w l n =
        rw n at (agree (of d o) (of (with d.settings d.identity) u) columns w l) ∙ ap₂ (λ s i. shown (with s i) u w) q r

    found_alike : (i j : ℕ) (x : Found) → lookup i j ≡ x → has (key_of i j) telling ≡ false → read_of d o x ≡ read_of e u x
    found_alike i j (At w) f n =
        let s = ((entries-laws.finds i j).at w).0 f in
        ap some (shown_alike w s.0.0 (subst (λ k. has k telling ≡ false) (sym (entries-laws.keys w i j s)) n))
    found_alike i j (Err NoSubIndex) f n = refl
    found_alike i j (Err NoIndex) f n = refl

    reads_alike : (i j : ℕ) → has (key_of i j) telling ≡ false → reads d o i j ≡ reads e u i j
    reads_alike i j = found_alike i j (lookup i j) refl

both_shown : (d : Device) (o : Bool) → let v = d.settings.profile.operating in
    Shows d o 0x6000 0 (Number v) × Shows d o 0x6500 0 (Number (v + cond o 0x8000 0))
unfolding table lookup shown
both_shown d o = (shows d o 0x6000 0 refl refl, shows d o 0x6500 0 refl refl)

-- A reset restores what entries read in the head whose settings are the saved set.
module _ (then : Head) where
  module _ (h : Head) (s : h.core.device.saved ≡ then.core.device.settings)
      (e : h.core.device.identity ≡ then.core.device.identity) (i j : ℕ) (n : has (key_of i j) telling ≡ false) where
    abbrev device : Device
    device = h.core.device

    from_saved : reads (reset_to device device.saved) false i j ≡ reads_in then i j
    from_saved = reads_alike (reset_to device device.saved) then.core.device false (is_in operational then.core) s e i j n

    from_running : reads (reset_to device device.settings) false i j ≡ reads_in h i j
    from_running = reads_alike (reset_to device device.settings) device false (is_in operational h.core) refl refl i j n

    by_index : (t : Bool)
        → reads (reset_to device (cond t device.saved device.settings)) false i j ≡ cond t (reads_in then i j) (reads_in h i j)
    by_index true = from_saved
    by_index false = from_running

    by_reset : (r : Reset) → reads (reset_to device (settings_for r device i)) false i j ≡ reads_after r i (reads_in then i j) (reads_in h i j)
    by_reset of_node = from_saved
    by_reset of_communication = by_index (restored_by82 i)

  restores_from : (now : Head) → Valid now → now.core.device.saved ≡ then.core.device.settings
      → now.core.device.identity ≡ then.core.device.identity
      → RestoresFrom then now
  restores_from now v s e cs n f r m i j k =
      let h = after now cs in
      (has_reset h f r (valid_after now cs v) m).entries i j
      ∙ by_reset h (saved_after now v cs n ∙ s) (identity_after cs now v ∙ e) i j k r

pub staying : Staying
staying =
    record {
      stays = λ h x cs a i j n.
          let v = valid_reachable h x in
          let later = after h cs in
          reads_alike later.core.device h.core.device (is_in operational later.core) (is_in operational h.core)
          (settings_after h v cs a) (identity_after cs h v) i j n;
      status = λ p cs.
          let h = after (powered p) cs in
          let s = both_shown h.core.device (is_in operational h.core) in
          let n = h.core.device.settings.profile.operating in
          (n, s.0, s.1 ∙ ap (λ c. some (Number (n + cond (eqb c 0x05) 0x8000 0))) (codes.codes p cs));
      starts = λ p. restores_from (powered p) (powered p) (valid_powered p) (saved_is p) refl;
      saves = λ h x f v w.
          let valid = valid_reachable h x in
          restores_from h (step h (receive f)) (valid_step h (receive f) valid)
          ((served_rightly h x f w.requests).accepted save_key v w.accepted).saved
          (identity_after (receive f ∷ []) h valid);
      loads = λ p cs f v w.
          let start = powered p in
          let h = after start cs in
          let valid = valid_after start cs (valid_powered p) in
          let x : Reachable h = record { start = p; calls = cs; so = refl } in
          restores_from start (step h (receive f)) (valid_step h (receive f) valid)
          (((served_rightly h x f w.requests).accepted load_key v w.accepted).saved
          ∙ ap factory (node_after start (valid_powered p) cs ∙ node_powered p)
          ∙ sym (ap (λ (a : Head). a.core.device.settings) (powered_is p)))
          (identity_after (receive f ∷ []) h valid ∙ identity_after cs start (valid_powered p));
      save_taken = save_taken;
      load_taken = load_taken;
      save_only = save_only;
      load_only = load_only;
    }
