-- Proves the laws of specs/Laws.antt, by what is due and what it tells.
use Prim.Native.Nat.{ℕ, ◌+◌, ◌-◌, ◌/◌, ◌%◌, ◌^◌, ◌≤◌, ◌<◌}
use native.Mathlib.Omega.{arith}
use mathlib.Core.Path.{◌≡◌, refl, sym, ap, ◌∙◌}
use mathlib.Core.Logic.{◌↔◌, inl, inr}
use mathlib.Core.Bool.{Bool, true, false, not, cond}
use mathlib.Core.List.{List, ◌∷◌, ◌++◌}
use lib.Dec.{eqb}
use lib.ListN.{get_or, drop, replicate}
use borrow.Author.Tests.{eqb-true, ne_eqb, le-ltb, not-false}
use Rattle.cases.proofs.Cases.{by, test, true_false, both, first_each, ◌▸◌, end}
use Rattle.can.specs.Number.{low_first}
use Rattle.can.proofs.Number.{numbers}
use Rattle.entries.specs.declared.Device.{Device}
use Rattle.entries.specs.declared.table.Row.{Row}
use Rattle.entries.specs.Table.{Found, key, width, when_blank, source, blank_in, number_of, lookup}
use Rattle.std.specs.Prelude.{Ok as At, Err, None as Blank, Some as Number}
use Rattle.entries.specs.declared.table.NotFound.TheVariants.{NoSubIndex, NoIndex}
use Rattle.entries.specs.Laws.{Listed}
use Rattle.dictionary.specs.Reads.{shown}
use Rattle.dictionary.specs.Writes.{own_key}
use Rattle.dictionary.specs.Valid.{ValidDevice}
use Rattle.dictionary.specs.Laws.{Takes}
use Rattle.dictionary.proofs.Accepted.{taken as accepted}
use Rattle.dictionary.proofs.Laws.{laws as dictionaryLaws}
use Rattle.sdo.specs.declared.reply.Effect.TheVariants.{Write}
use Rattle.sdo.specs.Request.{byte, top, index_of, sub_of, data_of, aborting, reading, writing}
use Rattle.sdo.specs.Reply.{command, replies, carried_out}
use Rattle.sdo.specs.Service.{Due, none, value, confirmation, abort, upload, answer, length_of, cut_to, steps, due_of, due}
use Rattle.sdo.specs.Exactly.{ClientAborts, first_data}
use Rattle.sdo.specs.Laws.{Told, Alike, Answers, served, Laws}
use Rattle.sdo.proofs.Asked.{entry}
use Rattle.sdo.proofs.Told.{told}
use Rattle.sdo.proofs.Taken.{taken}
use Rattle.sdo.proofs.Exactly.{exactly, only}
use Rattle.sdo.proofs.Width.{each_width}

module _ (d : Device) (o : Bool) (f : List ℕ) where
  unaltered_by : (x : Due) → (get_or (answer f x).bytes 0 0 ≡ 0x60 → ⊥) → carried_out d (answer f x).effect ≡ d
  unaltered_by none h = refl
  unaltered_by (value w n) h = refl
  unaltered_by (confirmation k v) h = absurd (h refl)
  unaltered_by (abort c) h = refl
  unaltered_by (upload b t) h = refl

  writes_by : (x : Due) (n v : ℕ) → (answer f x).effect ≡ Write n v → (k : ℕ) × ((x ≡ confirmation k v) × (n ≡ own_key k))
  writes_by none n v e = absurd (let z : ◌≡◌ {A = ℕ} 0 1 = cc in omega arith)
  writes_by (value w m) n v e = absurd (let z : ◌≡◌ {A = ℕ} 0 1 = cc in omega arith)
  writes_by (confirmation i j) n v e =
      let same_name : own_key i ≡ n = cc in
      let same-value : j ≡ v = cc in
      (i, (ap (confirmation i) same-value, sym same_name))
  writes_by (abort c) n v e = absurd (let z : ◌≡◌ {A = ℕ} 0 1 = cc in omega arith)
  writes_by (upload b t) n v e = absurd (let z : ◌≡◌ {A = ℕ} 0 1 = cc in omega arith)

  valid_by : (x : Found) (y : Due) → Told d o f x y → ValidDevice d → ValidDevice (carried_out d (answer f y).effect)
  valid_by x none t h = h
  valid_by x (value w n) t h = h
  valid_by x (confirmation k v) t h = rw t.key (dictionaryLaws.written_valid d t.its_row v t.takes h)
  valid_by x (abort c) t h = h
  valid_by x (upload b u) t h = h

  -- no segment is due to a first request
  abbrev pub First : Due → Type 0
  First none = Unit {0}
  First (value w n) = Unit {0}
  First (confirmation k v) = Unit {0}
  First (abort c) = Unit {0}
  First (upload b t) = ⊥

  first_of_law : (x : Found) → First (due_of d o f x)
  first_of_law x =
      by First (aborting f) (λ _. tt)
      (λ _. first_each First (steps d o f x) _ (tt ▸ tt ▸ tt ▸ tt ▸ tt ▸ tt ▸ tt ▸ tt ▸ tt ▸ tt ▸ end) tt)

  pub first : First (due d o f)
  unfolding due
  first = first_of_law (lookup (index_of f) (sub_of f))

  replied_by_law : (y : Due) → First y → replies (answer f y).effect ≡ true
      → let r = (answer f y).bytes in (byte r 1 ≡ byte f 1) × (byte r 2 ≡ byte f 2) × (byte r 3 ≡ byte f 3)
  replied_by_law none t h = true_false (sym h)
  replied_by_law (value w n) t h = (refl, refl, refl)
  replied_by_law (confirmation k v) t h = (refl, refl, refl)
  replied_by_law (abort c) t h = (refl, refl, refl)
  replied_by_law (upload b u) t h = absurd t

  replied_of : (x : Found) → replies (answer f (due_of d o f x)).effect ≡ not (aborting f)
  replied_of x =
      by (λ y. replies (answer f y).effect ≡ not (aborting f)) (aborting f)
      (λ e. rw e)
      (λ e. rw e (first_each (λ y. replies (answer f y).effect ≡ true) (steps d o f x) _
      (refl ▸ refl ▸ refl ▸ refl ▸ refl ▸ refl ▸ refl ▸ refl ▸ refl ▸ refl ▸ end) refl))

  replied : replies (answer f (due d o f)).effect ≡ not (aborting f)
  unfolding due
  replied = replied_of (lookup (index_of f) (sub_of f))

  -- the number of an entry that is not blank
  number_is : (b : Bool) (m n : ℕ) → cond b Blank (Number m) ≡ Number n → m ≡ n
  number_is true m n e = absurd (let z : ◌≡◌ {A = ℕ} 0 1 = cc in omega arith)
  number_is false m n e = cc

  unused_by : (x : Found) (w n : ℕ) → Told d o f x (value w n) → ValidDevice d → w ≤ 4 → low_first 4 n ≡ low_first w n ++ replicate (4 - w) 0
  unfolding shown
  unused_by x w n t h short =
      let r = t.its_row in
      let m : number_of (source r) d o ≡ n = number_is (blank_in (when_blank r) d) (number_of (source r) d o) n t.shows in
      let fits : n < 256 ^ w = rw (← m, t.its_width) (dictionaryLaws.typed d o r t.listed h) in
      let four : w + (4 - w) ≡ 4 = omega arith in
      ap (λ (k : ℕ). low_first k n) (sym four) ∙ numbers.unused w (4 - w) n fits

-- the first byte of a value's reply, for each width
abbrev Answers_by : ℕ → Type 0
Answers_by w = Answers w (command w)

one : Answers_by 1
one =
    record {
      widths = inl refl;
      top = refl;
      bit4 = refl;
      length = refl;
      low = λ e. refl;
      one = λ e. refl;
      two = λ e. omega arith;
      four = λ e. omega arith;
      name = λ e. omega arith;
    }

two : Answers_by 2
two =
    record {
      widths = inr (inl refl);
      top = refl;
      bit4 = refl;
      length = refl;
      low = λ e. refl;
      one = λ e. omega arith;
      two = λ e. refl;
      four = λ e. omega arith;
      name = λ e. omega arith;
    }

four : Answers_by 4
four =
    record {
      widths = inr (inr (inl refl));
      top = refl;
      bit4 = refl;
      length = refl;
      low = λ e. refl;
      one = λ e. omega arith;
      two = λ e. omega arith;
      four = λ e. refl;
      name = λ e. omega arith;
    }

name : Answers_by 32
name =
    record {
      widths = inr (inr (inr refl));
      top = refl;
      bit4 = refl;
      length = refl;
      low = λ e. omega arith;
      one = λ e. omega arith;
      two = λ e. omega arith;
      four = λ e. omega arith;
      name = λ e. refl;
    }

-- a read is no other request, and neither is a write
is_read : (f : List ℕ) → reading f ≡ true → (aborting f ≡ false) × (writing f ≡ false)
is_read f e = let t = eqb-true (top f) 2 e in (rw t, rw t)

is_write : (f : List ℕ) → writing f ≡ true → (aborting f ≡ false) × (reading f ≡ false)
is_write f e = let t = eqb-true (top f) 1 (both (eqb (top f) 1) (eqb (byte f 0 / 2 % 2) 1) e).0 in (rw t, rw t)

nth : (k : ℕ) {a b : List ℕ} → a ≡ b → get_or a k 0 ≡ get_or b k 0
nth k e = ap (λ (l : List ℕ). get_or l k 0) e

-- data past the entry's length do not change the value
same_cut : (f g : List ℕ) (r : Row) → Listed r → first_data (width r) f ≡ first_data (width r) g
    → cut_to (width r) (data_of f) ≡ cut_to (width r) (data_of g)
same_cut f g =
    each_width (λ w. first_data w f ≡ first_data w g → cut_to w (data_of f) ≡ cut_to w (data_of g))
    (λ e. omega (arith, nth 0 e))
    (λ e. omega (arith, nth 0 e, nth 1 e))
    (λ e. omega (arith, nth 0 e, nth 1 e, nth 2 e, nth 3 e))
    (λ e. omega (arith, nth 0 e, nth 1 e, nth 2 e, nth 3 e))

module _ (d : Device) (o : Bool) (f g : List ℕ) (l : Alike f g) where
  same_reading : reading f ≡ reading g
  same_reading = rw l.tops

  same_aborting : aborting f ≡ aborting g
  same_aborting = rw l.tops

  same_writing : writing f ≡ writing g
  same_writing =
      test (eqb (top f) 1)
      (λ e. let t = eqb-true (top f) 1 e in rw (← l.tops, e) (ap (λ (b : ℕ). eqb b 1) (l.bit1 t)))
      (λ e. rw (← l.tops, e))

  same_length : (w : ℕ) (t : Bool) → eqb (byte f 0 % 2) 1 ≡ t → top f ≡ 1 → length_of f w ≡ length_of g w
  same_length w true e t = rw (← l.bit0 t, e, l.lengths t (eqb-true _ _ e))
  same_length w false e t = rw (← l.bit0 t, e)

  same_due : (x : Found) (r w : Bool) → reading f ≡ r → writing f ≡ w → lookup (index_of f) (sub_of f) ≡ x → due_of d o f x ≡ due_of d o g x
  same_due (At u) true true p q s = true_false (sym q ∙ (is_read f p).1)
  same_due (Err NoIndex) r w p q s = rw (← same_aborting, ← same_reading, ← same_writing)
  same_due (Err NoSubIndex) r w p q s = rw (← same_aborting, ← same_reading, ← same_writing)
  same_due (At u) true false p q s = rw (← same_aborting, ← same_reading, ← same_writing, p, q)
  same_due (At u) false true p q s =
      let t = eqb-true (top f) 1 (both (eqb (top f) 1) (eqb (byte f 0 / 2 % 2) 1) q).0 in
      let e = entry f u s in
      rw (← same_aborting, ← same_reading, ← same_writing, p, q)
      (rw (same_cut f g u e.0.0 (l.contents t u e), ← same_length (width u) _ refl t))
  same_due (At u) false false p q s = rw (← same_aborting, ← same_reading, ← same_writing, p, q)

module _ (d : Device) (o : Bool) (f : List ℕ) where
  abbrev asked : Found
  asked = lookup (index_of f) (sub_of f)

  no_reply_law : (replies (served d o f).effect ≡ false) ↔ ClientAborts f
  no_reply_law = (λ e. eqb-true _ _ (not-false _ (sym (replied d o f) ∙ e)), λ t. replied d o f ∙ rw t)

  no_effect : ClientAborts f → carried_out d (served d o f).effect ≡ d
  unfolding due
  no_effect t = rw t

  repeated : (ClientAborts f → ⊥)
      → let r = (served d o f).bytes in (byte r 1 ≡ byte f 1) × (byte r 2 ≡ byte f 2) × (byte r 3 ≡ byte f 3)
  repeated e = replied_by_law d o f (due d o f) (first d o f) (replied d o f ∙ rw (ne_eqb _ _ e))

  answers : (w n : ℕ) → due d o f ≡ value w n → Answers w (get_or (served d o f).bytes 0 0)
  answers w n e = let t = rw e at (told d o f) in rw (e, t.its_width) (each_width Answers_by one two four name t.its_row t.listed)

  unused : ValidDevice d → (w n : ℕ) → due d o f ≡ value w n → w ≤ 4
      → drop 1 (served d o f).bytes ≡ byte f 1 ∷ byte f 2 ∷ byte f 3 ∷ low_first w n ++ replicate (4 - w) 0
  unused h w n e short =
      let t = rw e at (told d o f) in
      rw e (ap (λ (l : List ℕ). byte f 1 ∷ byte f 2 ∷ byte f 3 ∷ l) (unused_by d o f asked w n t h short))

  values : (r : Row) (n : ℕ) → reading f ≡ true → asked ≡ At r → shown d o r ≡ Number n → due d o f ≡ value (width r) n
  unfolding due
  values r n e q s = rw (q, (is_read f e).0, (is_read f e).1, e, s)

  confirms : (r : Row) → writing f ≡ true → asked ≡ At r → length_of f (width r) ≡ width r
      → Takes d r (cut_to (width r) (data_of f)) → due d o f ≡ confirmation (key r) (cut_to (width r) (data_of f))
  unfolding due
  confirms r e q l t =
      let free = accepted d r (cut_to (width r) (data_of f)) t.unaborted in
      rw (q, (is_write f e).0, (is_write f e).1, e, free.0, free.1, t.writable, l, le-ltb (width r) (width r) (omega arith))

  reserved : (g : List ℕ) → Alike f g → due d o f ≡ due d o g
  unfolding due
  reserved g l = rw (← l.low_index, ← l.high_index, ← l.subs) (same_due d o f g l asked _ _ refl refl refl)

  pub laws : Laws d o f
  laws =
      record {
        taken = taken f;
        exactly = exactly d o f;
        only = only d o f;
        told = told d o f;
        values = values;
        confirms = confirms;
        no_reply_law = no_reply_law;
        no_effect = no_effect;
        replied = replied d o f;
        repeated = repeated;
        answers = answers;
        unused = unused;
        announced = λ n e. rw e;
        unused_confirming = λ k v e. rw e;
        aborts = λ c e. rw e;
        writes = λ n v. (writes_by d o f (due d o f) n v, λ e. rw (e.1.0, e.1.1));
        carries = λ k v e. rw e;
        unaltered = unaltered_by d o f (due d o f);
        valid = valid_by d o f asked (due d o f) (told d o f);
        reserved = reserved;
      }
