-- A line that grows byte by byte, and the lines that a reader passes on. Assumes nothing.
use mathlib.Core.Path.{◌≡◌, refl, sym, subst}
use mathlib.Core.Bool.{cond}
use mathlib.Core.List.{List, [], ◌∷◌, ◌++◌, map, append-nil, append_assoc}
use Prim.Native.Nat.{ℕ, ◌+◌, ◌≤◌, ◌<◌}
use Prim.Native.Char.{code}
use native.Mathlib.Omega.{arith}
use lib.Dec.{eqb, ltb, eqb-suc-zero}
use lib.ListN.{length, take, length-append}
use Rattle.cases.specs.Padded.{pad}
use Rattle.cases.proofs.Cases.{test, by, cond_ap}
use Rattle.cases.proofs.Padded.{pad_put}
use borrow.Author.Tests.{lt-ltb, le-ltb, ltb-true, ltb-false, ne_eqb}
use Rattle.std.specs.Prelude.{fold}
use Rattle.text.specs.Lines.{onto, lines, at_most, longest, line_of, blank, held, pushed, handed}
use Rattle.text.specs.declared.Line.{Line}
use Rattle.text.specs.Grammar.{says, says_line}
use Rattle.text.proofs.Padded.{pad_full, take_pad}

pub push_line : (l : List ℕ) (b : ℕ) → pushed (line_of l) b ≡ line_of (l ++ b ∷ [])
unfolding pushed line_of
push_line l b =
    let n : length (l ++ b ∷ []) ≡ length l + 1 = length-append l (b ∷ []) in
    test (ltb (length l) longest)
    (λ e.
    let h : length l < longest = ltb-true _ _ e in
    let m : at_most longest (length l + 1) ≡ length l + 1 =
    by (λ (k : ℕ). k ≡ length l + 1) (ltb (length l + 1) longest) (λ _. refl) (λ q. omega (arith, ltb-false)) in
    rw (n, e, e, pad_put longest l b h, m, le-ltb longest (length l) (omega arith), le-ltb longest (length l + 1) (omega arith)))
    (λ e.
    let h : longest ≤ length l = ltb-false _ _ e in
    rw (n, e, pad_full longest l (b ∷ []) h, le-ltb (length l + 1) longest (omega arith), lt-ltb longest (length l + 1) (omega arith)))

pub push_lines : (l bs : List ℕ) → fold pushed (line_of l) bs ≡ line_of (l ++ bs)
push_lines l [] = rw append-nil
push_lines l (b ∷ bs) = rw (push_line l b, push_lines (l ++ b ∷ []) bs, append_assoc)

pub line_grown : {r : Line} (bs : List ℕ) → r ≡ blank → fold pushed r bs ≡ line_of bs
line_grown bs e = rw e (push_lines [] bs)

-- a line that is not too long is kept whole
pub held_line : (l : List ℕ) → length l ≤ longest → held (line_of l) ≡ l
unfolding line_of
held_line l h =
    by (λ (n : ℕ). take n (pad longest l) ≡ l) (ltb (length l) longest)
    (λ _. take_pad longest l h)
    (λ e.
    let n : length l ≡ longest = omega (arith, ltb-false) in
    subst (λ (m : ℕ). take m (pad longest l) ≡ l) n (take_pad longest l h))

pub says_line_law : (l : List ℕ) → says_line (line_of l) ≡ says l
unfolding line_of
says_line_law l = test (ltb longest (length l)) (λ e. rw e) (λ e. rw (e, held_line l (ltb-false _ _ e)))

-- these lines, with the bytes l in front of the first of them
glue : List ℕ → List (List ℕ) → List (List ℕ)
glue l [] = cond (eqb (length l) 0) [] (l ∷ [])
glue l (m ∷ ms) = (l ++ m) ∷ ms

glue_nil : (ls : List (List ℕ)) → glue [] ls ≡ ls
unfolding glue
glue_nil [] = refl
glue_nil (m ∷ ms) = refl

glue_onto : (l : List ℕ) (b : ℕ) (ls : List (List ℕ)) → glue (l ++ b ∷ []) ls ≡ glue l (onto b ls)
unfolding glue
glue_onto l b [] =
    let n : length (l ++ b ∷ []) ≡ length l + 1 = length-append l (b ∷ []) in
    rw (n, ne_eqb (length l + 1) 0 (λ e. omega arith))
glue_onto l b (m ∷ ms) = rw append_assoc

started : (l : List ℕ) → eqb (line_of l).len 0 ≡ eqb (length l) 0
unfolding line_of
started [] = refl
started (x ∷ l) = test (ltb (length (x ∷ l)) longest) (λ e. rw e) (λ e. rw (e, eqb-suc-zero (length l)))

handed_from : (bs l : List ℕ) → handed (line_of l) bs ≡ map line_of (glue l (lines bs))
unfolding glue
handed_from [] l = rw (started l) (sym (cond_ap (map line_of) (eqb (length l) 0) [] (l ∷ [])))
handed_from (b ∷ bs) l =
    test (eqb b (code "\n"))
    (λ e. rw (e, handed_from bs [], glue_nil, append-nil))
    (λ e. rw (e, push_line l b, handed_from bs (l ++ b ∷ []), glue_onto))

pub handed_lines : (bs : List ℕ) → handed blank bs ≡ map line_of (lines bs)
handed_lines bs = rw (handed_from bs [], glue_nil)
