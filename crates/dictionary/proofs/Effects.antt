-- Proves `EffectLaws` of specs/Effects.antt: what entries read after an accepted write. For each rw
-- entry the whole table at once, by computation; the position after 6003h by the laws of presets.
use Prim.Native.Nat.{ℕ}
use lib.Dec.{ltb}
use lib.IntN.{pos, ◌-ℤ◌}
use mathlib.Core.Path.{◌≡◌, refl, ap, ◌∙◌}
use mathlib.Core.Bool.{Bool, true, false, ◌||◌, cond}
use mathlib.Core.List.{List, [], ◌∷◌, map}
use mathlib.Core.Option.{some}
use borrow.Author.Tests.{ltb-true}
use Rattle.cases.proofs.Cases.{neither, Each, ◌▸◌, end}
use Rattle.can.specs.Signed.{twos}
use Rattle.position.specs.Position.{directed, position, preset_to}
use Rattle.position.proofs.Laws.{laws as position-laws}
use Rattle.entries.specs.declared.Device.{Device}
use Rattle.entries.specs.declared.table.Row.{Row}
use Rattle.entries.specs.Table.{Found, missing, table, key, is_rw, accepted, when_blank, source, blank_in, number_of, key_of, lookup}
use Rattle.std.specs.Prelude.{Ok as At, Err, None as Blank, Some as Number}
use Rattle.entries.specs.declared.table.NotFound.TheVariants.{NoSubIndex, NoIndex}
use Rattle.entries.specs.Laws.{Listed}
use Rattle.entries.proofs.Listed.{agree}
use Rattle.entries.proofs.Laws.{laws as entries-laws}
use Rattle.entries.specs.Keys.{preset_key}
use Rattle.dictionary.specs.Shown.{Shown}
use Rattle.dictionary.specs.Accepted.{accepts_in, is_signature, barred}
use Rattle.dictionary.specs.Reads.{shown, read_of, reads}
use Rattle.dictionary.specs.Writes.{written, put}
use Rattle.dictionary.specs.Valid.{ValidDevice}
use Rattle.dictionary.specs.Laws.{Takes}
use Rattle.dictionary.proofs.Accepted.{taken}
use Rattle.dictionary.proofs.Laws.{laws}
use Rattle.dictionary.proofs.Those.{of_each}
use Rattle.dictionary.specs.Effects.{given, effects, anew, read_back, EffectLaws}
use Rattle.dictionary.specs.AcceptedLaws.{those}

-- what the entry of a row reads after the write, and what the effects say
abbrev after : Device → Bool → ℕ → ℕ → Row → Shown
after d o k v r = shown (written d k v) o r

abbrev due : Device → Bool → ℕ → ℕ → Row → Shown
due d o k v r = given (effects d o k v) (key r) (shown d o r)

-- of a write to the row r
Exact : Row → Type 0
Exact r =
    (d : Device) (o : Bool) (v : ℕ) → ValidDevice d → accepts_in d r v ≡ true → barred d (key r) v ≡ false
    → map (after d o (key r) v) table ≡ map (due d o (key r) v) table

-- 6003h: the position reads v
position_reads : (d : Device) (v : ℕ) → ValidDevice d → ltb v d.settings.profile.range ≡ true → barred d preset_key v ≡ false
    → let p = d.settings.profile in
    cond (missing d) Blank (Number (position (preset_to p d.reading.raw v) d.reading.raw)) ≡ Number v
position_reads d v valid a b =
    let p = d.settings.profile in
    let r = d.reading.raw in
    let here : missing d ≡ false = (neither (missing d) false (neither (missing d || false) false b).0).0 in
    rw here (ap Number (position-laws.presets p r v valid.settings.profile (ltb-true v p.range a)).reads)

exact : Each Exact (those is_rw table)
unfolding Exact table shown put
exact =
    (λ d o v h a b. refl)
    ▸ (λ d o v h a b. refl)
    ▸ (λ d o v h a b. refl)
    ▸ (λ d o v h a b. refl)
    ▸ (λ d o v h a b. refl)
    ▸ (λ d o v h a b. refl)
    ▸ (λ d o v h a b. refl)
    ▸ (λ d o v h a b. refl)
    ▸ (λ d o v h a b. refl)
    ▸ (λ d o v h a b. refl)
    ▸ (λ d o v h a b. refl)
    ▸ (λ d o v h a b. refl)
    ▸ (λ d o v h a b. refl)
    ▸ (λ d o v h a b. refl)
    ▸ (λ d o v h a b.
    let p = d.settings.profile in
    let offset = twos (pos v -ℤ pos (directed p d.reading.raw)) in
    let named : Shown → List (ℕ × Shown) = λ s. (preset_key, Number v) ∷ (0x6509_00, Number offset) ∷ (0x6004_00, s) ∷ [] in
    ap (λ s. map (λ r. given (named s) (key r) (shown d o r)) table) (position_reads d v h a b))
    ▸ (λ d o v h a b. refl)
    ▸ (λ d o v h a b. refl)
    ▸ end

-- The entry of the row r takes a write of v.
module _ (d : Device) (o : Bool) (r : Row) (v : ℕ) (valid : ValidDevice d) (t : Takes d r v) where
  abbrev k : ℕ
  k = key r

  abbrev es : List (ℕ × Shown)
  es = effects d o k v

  shown_after : (q : Row) → Listed q → shown (written d k v) o q ≡ given es (key q) (shown d o q)
  unfolding Exact
  shown_after q l =
      let free = taken d r v t.unaborted in
      agree (after d o k v) (due d o k v) (of_each Exact is_rw exact r t.listed t.writable d o v valid free.0 free.1) q l

  found_after : (i j : ℕ) (x : Found) → lookup i j ≡ x → read_of (written d k v) o x ≡ anew es (key_of i j) (read_of d o x)
  found_after i j (At q) e =
      let s = ((entries-laws.finds i j).at q).0 e in
      ap some (shown_after q s.0.0 ∙ ap (λ n. given es n (shown d o q)) (entries-laws.keys q i j s))
  found_after i j (Err NoSubIndex) e = refl
  found_after i j (Err NoIndex) e = refl

  reads_after_law : (i j : ℕ) → reads (written d k v) o i j ≡ anew es (key_of i j) (reads d o i j)
  reads_after_law i j = found_after i j (lookup i j) refl

  -- an rw entry is not blank
  abbrev blank : Device → Row → Bool
  blank d' q = cond (is_rw q) (blank_in (when_blank q) d') false

  never_blank : (d' : Device) → map (blank d') table ≡ map (λ q. false) table
  unfolding table
  never_blank d' = refl

  signed : map (λ q. cond (is_signature (accepted q)) 1 v) table ≡ map (λ q. read_back (key q) v) table
  unfolding table
  signed = refl

  own_after : shown (written d k v) o r ≡ Number (read_back k v)
  unfolding shown
  own_after =
      let after = written d k v in
      let filled = rw t.writable at (agree (blank after) (λ q. false) (never_blank after) r t.listed) in
      let back = agree (λ q. cond (is_signature (accepted q)) 1 v) (λ q. read_back (key q) v) signed r t.listed in
      ap (λ b. cond b Blank (Number (number_of (source r) after o))) filled ∙ ap Number (laws.reads_back d o r v t ∙ back)

pub effect_laws : EffectLaws
effect_laws = record { reads_after_law = reads_after_law; own_after = own_after }
