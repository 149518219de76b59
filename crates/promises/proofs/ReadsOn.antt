-- What was written is read until an accepted write or a reset: what an rw entry
-- other than 1003-0 reads is in the settings, by computation for the whole table.
use Prim.Native.Nat.{ℕ}
use lib.Dec.{eqb}
use mathlib.Core.Path.{◌≡◌, refl, sym, ap, ◌∙◌}
use mathlib.Core.Bool.{Bool, true, not, ◌&&◌, cond}
use mathlib.Core.List.{List, map}
use mathlib.Core.Option.{some}
use borrow.Author.Tests.{ne_eqb}
use Rattle.can.specs.declared.Received.{Received}
use Rattle.entries.specs.declared.Device.{Device}
use Rattle.entries.specs.declared.table.Row.{Row}
use Rattle.entries.specs.Table.{table, key, is_rw}
use Rattle.entries.specs.Laws.{Listed}
use Rattle.entries.proofs.Listed.{agree}
use Rattle.entries.specs.Keys.{error_count_key}
use Rattle.dictionary.specs.Shown.{Shown}
use Rattle.std.specs.Prelude.{None as Blank, Some as Number}
use Rattle.dictionary.specs.Reads.{shown, read_of}
use Rattle.dictionary.specs.Effects.{read_back}
use Rattle.sdo.specs.Request.{index_of, sub_of}
use Rattle.parts.specs.declared.Head.{Head}
use Rattle.promises.specs.States.{operational, is_in}
use Rattle.promises.specs.Acts.{reset_to}
use Rattle.promises.specs.Calls.{Call, receive, step}
use Rattle.promises.specs.Meant.{Writes}
use Rattle.promises.specs.Histories.{after, Reachable}
use Rattle.promises.specs.Readings.{reads_in}
use Rattle.promises.specs.Resets.{Alters, None}
use Rattle.promises.proofs.Valid.{valid_step}
use Rattle.promises.proofs.Histories.{valid_reachable}
use Rattle.promises.proofs.Effects.{told, served_rightly}
use Rattle.promises.proofs.Kept.{settings_after}

module _ (d e : Device) (o u : Bool) where
  abbrev is_setting : Row → Bool
  is_setting r = is_rw r && not (eqb (key r) error_count_key)

  abbrev of : Device → Bool → Row → Shown
  of d' o' r = cond (is_setting r) (shown d' o' r) Blank

  settings_shown : map (of d o) table ≡ map (of (reset_to e d.settings) u) table
  unfolding table shown
  settings_shown = refl

  shown_alike : (r : Row) → Listed r → is_rw r ≡ true → (key r ≡ error_count_key → ⊥) → d.settings ≡ e.settings → shown d o r ≡ shown e u r
  shown_alike r l w n q =
      let is : is_setting r ≡ true = rw (w, ne_eqb (key r) error_count_key n) in
      rw is at (agree (of d o) (of (reset_to e d.settings) u) settings_shown r l) ∙ ap (λ s. shown (reset_to e s) u r) q

pub reads_on : (h : Head) → Reachable h → (f : Received) (k v : ℕ) → Writes h f k v → (k ≡ error_count_key → ⊥) → (cs : List Call)
    → None Alters (step h (receive f)) cs
    → reads_in (after (step h (receive f)) cs) (index_of f.bytes) (sub_of f.bytes) ≡ some (Number (read_back k v))
reads_on h x f k v w n cs a =
    let valid = valid_reachable h x in
    let now = step h (receive f) in
    let later = after now cs in
    let t = told h f w.accepted in
    let own = ((served_rightly h x f w.requests).accepted k v w.accepted).own in
    let alike = shown_alike later.core.device now.core.device (is_in operational later.core) (is_in operational now.core) in
    ap (read_of later.core.device (is_in operational later.core)) t.found
    ∙ ap some (alike t.its_row t.takes.listed t.takes.writable (λ q. n (t.key ∙ q)) (settings_after now (valid_step h (receive f) valid) cs a))
    ∙ sym (ap (read_of now.core.device (is_in operational now.core)) t.found)
    ∙ own
