-- A line that has a form says what the form says, and a line that has none is malformed. Assumes nothing.
use mathlib.Core.Path.{◌≡◌, refl, ap, sym, ◌∙◌}
use mathlib.Core.Bool.{true, ◌&&◌}
use mathlib.Core.List.{List, [], ◌∷◌, ◌++◌, map}
use Prim.Native.Nat.{ℕ, ◌^◌, ◌≤◌, ◌<◌}
use native.Mathlib.Omega.{arith}
use lib.Dec.{eqb, leb, ltb}
use lib.ListN.{length}
use Rattle.std.specs.Prelude.{Some}
use Rattle.cases.specs.Tests.{within}
use Rattle.cases.proofs.Cases.{by, both, test, true_false}
use borrow.Author.Tests.{le-leb, eq-eqb, eqb-true, leb-true, ltb-true, ltb-false}
use Rattle.text.specs.Ascii.{ascii}
use Rattle.text.specs.Grammar.{Parsed, hex, decimal, fields, same, made, malformed, digits, value, is_number, is_pair, all, pairs_for}
use Rattle.text.specs.Grammar.{frame_of, ticks_of, sample_of, slot_of, command, parsed}
use Rattle.text.specs.Forms.{Number, behind, parted, Pairs, filled, Form, frame, nine, ticks, sample, missing, slot}
use Rattle.text.specs.declared.Command.{Command}
use Rattle.text.specs.declared.Command.TheVariants.{Frame, Missing}
use Rattle.text.proofs.Numbers.{number_below}
use Rattle.text.proofs.Padded.{pad_behind}
use Rattle.text.proofs.Digits.{number_is, number_of}
use Rattle.text.proofs.Fields.{parted_fields, word_fields, pairs_are, pairs_of}

pub pairs_for_law : (len : ℕ) → len ≤ 8 → pairs_for len ≡ len
pairs_for_law len h = by (λ (m : ℕ). m ≡ len) (ltb len 8) (λ _. refl) (λ e. omega (arith, ltb-false))

is_number_law : {base n v : ℕ} {w : List ℕ} (most : ℕ) → Number base n w v → 1 ≤ n → n ≤ most → is_number base most w ≡ true
is_number_law {w = w} most p a b =
    let r = number_is p in
    rw (r.right, r.long, le-leb 1 _ a, le-leb _ most b)

-- the only field behind the key
last_field : {base n v : ℕ} {w : List ℕ} → base ≤ 16 → Number base n w v → fields (w ++ []) ≡ w ∷ []
last_field {base} {w = w} few p = word_fields base w [] few (number_is p).right refl

module _ {n id len : ℕ} {i l bytes : List ℕ} {pairs : List (List ℕ)} (count : ℕ) where
  pub frame_formed : Number 16 n i id → 1 ≤ n → n ≤ 8 → Number 10 1 l len → pairs_for len ≡ count → Pairs count pairs bytes
      → parsed (parted (ascii "F" ∷ i ∷ l ∷ pairs)) ≡ made (Frame id len) bytes
  unfolding parsed
  frame_formed p a b q e ps =
      let rs = pairs_are ps in
      let behind-id = word_fields decimal l (behind pairs) (omega arith) (number_is q).right rs.apart in
      ap frame_of (word_fields {ws = l ∷ pairs} hex i (behind (l ∷ pairs)) (omega arith) (number_is p).right (rw behind-id))
      ∙ rw (
        is_number_law 8 p a b,
        is_number_law 1 q (omega arith) (omega arith),
        (number_is p).number,
        (number_is q).number,
        e,
        eq-eqb (length pairs) count rs.many,
        rs.right,
      )
      (ap (made (Frame id len)) rs.numbers)

-- a frame's bytes, at most 8, are filled
fill : (id len : ℕ) (bytes : List ℕ) → length bytes ≤ 8 → made (Frame id len) bytes ≡ Some (Frame id len (filled bytes))
fill id len bytes h = ap (λ (b : List ℕ). Some (Frame id len b)) (pad_behind 8 bytes h)

pub formed : {fs : List (List ℕ)} {c : Command} → Form fs c → parsed (parted fs) ≡ Some c
unfolding parsed
formed (frame {len = len} p a b q h ps) =
    frame_formed len p a b q (pairs_for_law len h) ps ∙ fill _ _ _ (omega (arith, (pairs_are ps).as_many))
formed (nine p a b q ps) = frame_formed 8 p a b q refl ps ∙ fill _ _ _ (omega (arith, (pairs_are ps).as_many))
formed (ticks {t = t} p a b low high) =
    ap ticks_of (last_field (omega arith) p) ∙ rw (is_number_law 4 p a b, (number_is p).number, le-leb 1 t low, le-leb t 1000 high)
formed (sample p a b) = ap sample_of (last_field (omega arith) p) ∙ rw (is_number_law 10 p a b, (number_is p).number)
formed missing = refl
formed slot = refl

-- a field of as many digits as the form wants
a_number : (base most : ℕ) (w : List ℕ) → base ≤ 16 → is_number base most w ≡ true
    → Number base (length w) w (value base w) × (1 ≤ length w) × (length w ≤ most)
a_number base most w few e =
    let (right, long) = both (digits base w) (within 1 most (length w)) e in
    let (low, high) = both (leb 1 (length w)) (leb (length w) most) long in
    (number_of base few w right, leb-true _ _ low, leb-true _ _ high)

-- no form has these fields
Formless : List (List ℕ) → Type 0
Formless fs = (c : Command) → Form fs c → ⊥

-- then the grammar says so
abbrev Refused : Parsed → Type 0
Refused p = p ≡ malformed

frame_formless : (fs : List (List ℕ)) → Formless (ascii "F" ∷ fs) → Refused (frame_of fs)
unfolding Formless
frame_formless [] bar = refl
frame_formless (i ∷ []) bar = refl
frame_formless (i ∷ l ∷ pairs) bar =
    let len = value decimal l in
    by Refused (is_number hex 8 i && is_number decimal 1 l)
    (λ e.
    let (first, second) = both (is_number hex 8 i) (is_number decimal 1 l) e in
    let (p, a, b) = a_number hex 8 i (omega arith) first in
    let (r, low, high) = a_number decimal 1 l (omega arith) second in
    let one : length l ≡ 1 = omega arith in
    let q : Number 10 1 l len = rw one at r in
    let below : len < 10 ^ 1 = number_below decimal 1 l (omega arith) second in
    by Refused (eqb (length pairs) (pairs_for len) && all is_pair pairs)
    (λ f.
    let (many, right) = both (eqb (length pairs) (pairs_for len)) (all is_pair pairs) f in
    let ps : Pairs (pairs_for len) pairs (map (value hex) pairs) = rw (eqb-true (length pairs) (pairs_for len) many) at (pairs_of pairs right) in
    test (ltb len 9)
    (λ g.
    let h : len ≤ 8 = omega (arith, ltb-true) in
    absurd (bar _ (frame p a b q h (rw (pairs_for_law len h) at ps))))
    (λ g.
    let h : len ≡ 9 = omega (arith, ltb-false) in
    absurd (bar _ (nine p a b (rw h at q) (rw h at ps)))))
    (λ _. refl))
    (λ _. refl)

ticks_formless : (fs : List (List ℕ)) → Formless (ascii "T" ∷ fs) → Refused (ticks_of fs)
unfolding Formless
ticks_formless [] bar = refl
ticks_formless (w ∷ []) bar =
    by Refused (is_number decimal 4 w && within 1 1000 (value decimal w))
    (λ e.
    let (first, second) = both (is_number decimal 4 w) (within 1 1000 (value decimal w)) e in
    let (p, a, b) = a_number decimal 4 w (omega arith) first in
    let (low, high) = both (leb 1 (value decimal w)) (leb (value decimal w) 1000) second in
    absurd (bar _ (ticks p a b (leb-true _ _ low) (leb-true _ _ high))))
    (λ _. refl)
ticks_formless (w ∷ more ∷ fs) bar = refl

same_is : (a b : List ℕ) → same a b ≡ true → a ≡ b
same_is [] [] e = refl
same_is [] (y ∷ ys) e = true_false (sym e)
same_is (x ∷ xs) [] e = true_false (sym e)
same_is (x ∷ xs) (y ∷ ys) e =
    let (first, rest) = both (eqb x y) (same xs ys) e in
    rw (eqb-true x y first, same_is xs ys rest)

sample_formless : (fs : List (List ℕ)) → Formless (ascii "S" ∷ fs) → Refused (sample_of fs)
unfolding Formless
sample_formless [] bar = refl
sample_formless (w ∷ []) bar =
    by Refused (is_number decimal 10 w)
    (λ e. let (p, a, b) = a_number decimal 10 w (omega arith) e in absurd (bar _ (sample p a b)))
    (λ _. by Refused (same w (ascii "-")) (λ e. absurd (bar Missing (rw (same_is w (ascii "-") e) missing))) (λ _. refl))
sample_formless (w ∷ more ∷ fs) bar = refl

slot_formless : (fs : List (List ℕ)) → Formless (ascii "?" ∷ fs) → Refused (slot_of fs)
unfolding Formless
slot_formless [] bar = absurd (bar _ slot)
slot_formless (more ∷ fs) bar = refl

command_formless : (fs : List (List ℕ)) → Formless fs → Refused (command fs)
command_formless [] bar = refl
command_formless (key ∷ fs) bar =
    let keyed : (text : List ℕ) → same key text ≡ true → Formless (text ∷ fs) = λ text e. rw (same_is key text e) at bar in
    by Refused (same key (ascii "F"))
    (λ e. frame_formless fs (keyed (ascii "F") e))
    (λ _.
    by Refused (same key (ascii "T"))
    (λ e. ticks_formless fs (keyed (ascii "T") e))
    (λ _.
    by Refused (same key (ascii "S"))
    (λ e. sample_formless fs (keyed (ascii "S") e))
    (λ _. by Refused (same key (ascii "?")) (λ e. slot_formless fs (keyed (ascii "?") e)) (λ _. refl))))

pub unformed : (l : List ℕ) → ((fs : List (List ℕ)) (c : Command) → Form fs c → parted fs ≡ l → ⊥) → parsed l ≡ malformed
unfolding parsed Formless
unformed l bar = command_formless (fields l) (λ c f. bar (fields l) c f (parted_fields l))
