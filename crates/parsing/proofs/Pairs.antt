-- Laws for the loop over a frame's hex pairs: `framed`, from one pair to the next. Assumes nothing.
use mathlib.Core.Path.{◌≡◌, refl, sym, ap, ◌∙◌}
use mathlib.Core.Bool.{Bool, true, false, and-false}
use mathlib.Core.List.{List, [], ◌∷◌, ◌++◌, map, map-append, append-nil, append_assoc}
use Prim.Native.Nat.{ℕ, zero, suc, ◌+◌, ◌≤◌, ◌<◌}
use native.Mathlib.Omega.{arith}
use lib.Dec.{eqb}
use lib.ListN.{length, take, drop, set, length-append, length-map}
use Rattle.std.specs.Prelude.{None, Some}
use Rattle.cases.specs.Padded.{pad}
use Rattle.cases.specs.Tests.{within}
use Rattle.cases.proofs.Cases.{true_false, test, both}
use Rattle.cases.proofs.Padded.{pad_put}
use borrow.Author.Tests.{eq-eqb, ne_eqb, eqb-true}
use Rattle.text.specs.Grammar.{hex, digits, value, is_number, is_pair, all, pairs_for, framed}
use Rattle.parsing.specs.Steps.{behind}
use Rattle.text.specs.declared.Command.TheVariants.{Frame}
use Rattle.numbers.specs.declared.Number.{Number}
use Rattle.text.proofs.Padded.{at_most_law}
use Rattle.parsing.proofs.Fields.{Numbered, Unread, bounded, behind_none, behind_some, others}

-- n pairs, `done`, are read, the last ends at `at`, and their values stand in `bytes`
pub record Pairs (l : List ℕ) (before len : ℕ) (bytes : List ℕ) (at n : ℕ) : Type 0 where
  pub done : List (List ℕ)
  pub split : behind l before ≡ done ++ behind l at
  pub long : length done ≡ n
  pub good : all is_pair done ≡ true
  pub kept : bytes ≡ pad (pairs_for len) (map (value hex) done)

all_append : (p : List ℕ → Bool) (a b : List (List ℕ)) → all p a ≡ true → all p (a ++ b) ≡ all p b
all_append p [] b h = refl
all_append p (x ∷ xs) b h = let (first, rest) = both (p x) (all p xs) h in rw first (all_append p xs b rest)

pair_number : (w : List ℕ) → is_pair w ≡ true → is_number hex 2 w ≡ true
pair_number w e =
    let (good, two) = both (digits hex w) (eqb (length w) 2) e in
    let n : length w ≡ 2 = eqb-true _ _ two in
    rw (good, n)

length_pad : (n : ℕ) (l : List ℕ) → length (pad n l) ≡ n
length_pad zero l = refl
length_pad (suc n) [] = ap suc (length_pad n [])
length_pad (suc n) (x ∷ l) = ap suc (length_pad n l)

pad_all : (l : List ℕ) → pad (length l) l ≡ l
pad_all [] = refl
pad_all (x ∷ l) = ap (λ (m : List ℕ). x ∷ m) (pad_all l)

-- a list, and 0 behind it
pad_rest : (n : ℕ) (l : List ℕ) → length l ≤ n → l ++ drop (length l) (pad n []) ≡ pad n l
pad_rest n [] h = refl
pad_rest zero (x ∷ l) h = absurd (omega arith)
pad_rest (suc n) (x ∷ l) h = ap (λ (m : List ℕ). x ∷ m) (pad_rest n l (omega arith))

-- before the first pair every byte is 0
zeros : (n k : ℕ) → k ≤ n → take k (pad n []) ≡ pad k []
zeros n zero h = refl
zeros zero (suc k) h = absurd (omega arith)
zeros (suc n) (suc k) h = ap (λ (b : List ℕ). 0 ∷ b) (zeros n k (omega arith))

pub pairs_start : (l : List ℕ) (before len count : ℕ) → count ≡ pairs_for len → Pairs l before len (take count (pad 8 [])) before 0
pairs_start l before len count c =
    record { done = []; split = refl; long = refl; good = refl; kept = rw c (zeros 8 (pairs_for len) (at_most_law 8 len)) }

module _ {l bytes : List ℕ} {before len at n : ℕ} (w : Pairs l before len bytes at n) (id : ℕ) where
  unequal : (length (behind l before) ≡ pairs_for len → ⊥) → None ≡ framed id len (behind l before)
  unequal h = rw (ne_eqb (length (behind l before)) (pairs_for len) h)

  unpaired : all is_pair (behind l at) ≡ false → None ≡ framed id len (behind l before)
  unpaired h = rw (w.split, all_append is_pair w.done (behind l at) w.good, h, and-false)

  counted : length (behind l before) ≡ n + length (behind l at)
  counted = rw (w.split, length-append, w.long)

  sized : length bytes ≡ pairs_for len
  sized = rw w.kept (length_pad (pairs_for len) (map (value hex) w.done))

  pub pairs_none : n < length bytes → Unread hex 2 (behind l at) → None ≡ framed id len (behind l before)
  pairs_none h u = cases (behind l at) refl u where
    cases : (fs : List (List ℕ)) → behind l at ≡ fs → Unread hex 2 fs → None ≡ framed id len (behind l before)
    cases [] e u = unequal (λ q. let z : length (behind l before) ≡ n + 0 = counted ∙ rw e in
        let s = sized in
        omega arith)
    cases (f ∷ fs) e u =
        unpaired (rw e (test (is_pair f) (λ y. true_false (sym (pair_number f y) ∙ u)) (λ t. rw t)))

  pub pairs_many : length bytes ≤ n → at < length l → None ≡ framed id len (behind l before)
  pairs_many h k =
      unequal (λ e.
      let q : length (behind l before) ≡ n + suc (length (others (drop (suc at) l))) = counted ∙ rw (behind_some l at k) in
      let s = sized in
      omega arith)

  pub pairs_good : n ≡ length bytes → length l ≤ at
      → Some (Frame id len (bytes ++ drop (length bytes) (pad 8 []))) ≡ framed id len (behind l before)
  pairs_good h k =
      let all : length w.done ≡ pairs_for len = w.long ∙ h ∙ sized in
      let q : behind l before ≡ w.done = w.split ∙ rw (behind_none l at k, append-nil) in
      let m = map (value hex) w.done in
      let size : length m ≡ pairs_for len = length-map w.done (value hex) ∙ all in
      let few : length m ≤ 8 = omega (arith, at_most_law 8 len) in
      let whole : bytes ≡ m = w.kept ∙ rw (← size) (pad_all m) in
      rw (q, eq-eqb (length w.done) (pairs_for len) all, w.good, whole) (ap (λ (b : List ℕ). Some (Frame id len b)) (pad_rest 8 m few))

  module _ {p : Number} (a : Numbered hex 2 l (behind l at) (at + 1) p) where
    pub pair_below : p.value < 256
    pair_below = bounded a (omega arith)

    pub pairs_short : (p.end ≡ at + 1 + 2 → ⊥) → None ≡ framed id len (behind l before)
    pairs_short k =
        let e = a.end in
        unpaired (rw (a.split, ne_eqb (length a.field) 2 (λ t. k (omega arith)), and-false))

    pub pairs_more : n < length bytes → p.end ≡ at + 1 + 2 → Pairs l before len (set bytes n p.value) p.end (n + 1)
    pairs_more m k =
        let e = a.end in
        let two : length a.field ≡ 2 = omega arith in
        let pair : is_pair a.field ≡ true = rw ((both (digits hex a.field) (within 1 2 (length a.field)) a.good).0, eq-eqb (length a.field) 2 two) in
        let size : length (map (value hex) w.done) ≡ n = length-map w.done (value hex) ∙ w.long in
        let s = sized in
        record {
          done = w.done ++ a.field ∷ [];
          split = w.split ∙ rw a.split (sym (append_assoc w.done (a.field ∷ []) _));
          long = rw (length-append, w.long) refl;
          good = rw (all_append is_pair w.done (a.field ∷ []) w.good, pair);
          kept = rw (w.kept, ← size, map-append, a.val) (pad_put (pairs_for len) (map (value hex) w.done) (value hex a.field) (omega arith));
        }
