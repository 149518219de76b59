-- A number in a line is within the bounds of the line's form. Assumes nothing.
use mathlib.Core.Bool.{◌&&◌}
use mathlib.Core.List.{List, [], ◌∷◌}
use Prim.Native.Nat.{ℕ}
use native.Mathlib.Omega.{arith}
use lib.Dec.{eqb, leb}
use lib.ListN.{length}
use Rattle.cases.specs.Tests.{within}
use Rattle.cases.proofs.Cases.{by, both, first_each, ◌▸◌, end}
use borrow.Author.Tests.{leb-true}
use Rattle.text.specs.Ascii.{ascii}
use Rattle.text.specs.Grammar.{Parsed, hex, decimal, fields, same, malformed, value, is_number, is_pair, all, pairs_for}
use Rattle.text.specs.Grammar.{frame_of, ticks_of, sample_of, slot_of, command, parsed}
use Rattle.text.specs.Laws.{Within}
use Rattle.text.proofs.Numbers.{number_below}

abbrev Good : Parsed → Type 0
Good p = Within p

frame_good : (fs : List (List ℕ)) → Good (frame_of fs)
frame_good [] = tt
frame_good (id ∷ []) = tt
frame_good (id ∷ len ∷ pairs) =
    by Good (is_number hex 8 id && is_number decimal 1 len)
    (λ e.
    let (i, n) = both (is_number hex 8 id) (is_number decimal 1 len) e in
    by Good (eqb (length pairs) (pairs_for (value decimal len)) && all is_pair pairs)
    (λ _. (omega (arith, number_below hex 8 id (omega arith) i), omega (arith, number_below decimal 1 len (omega arith) n)))
    (λ _. tt))
    (λ _. tt)

ticks_good : (fs : List (List ℕ)) → Good (ticks_of fs)
ticks_good [] = tt
ticks_good (n ∷ []) =
    by Good (is_number decimal 4 n && within 1 1000 (value decimal n))
    (λ e.
    let inside = (both (is_number decimal 4 n) (within 1 1000 (value decimal n)) e).1 in
    let (low, high) = both (leb 1 (value decimal n)) (leb (value decimal n) 1000) inside in
    (leb-true _ _ low, leb-true _ _ high))
    (λ _. tt)
ticks_good (n ∷ more ∷ fs) = tt

sample_good : (fs : List (List ℕ)) → Good (sample_of fs)
sample_good [] = tt
sample_good (r ∷ []) =
    by Good (is_number decimal 10 r)
    (λ e. omega (arith, number_below decimal 10 r (omega arith) e))
    (λ _. by Good (same r (ascii "-")) (λ _. tt) (λ _. tt))
sample_good (r ∷ more ∷ fs) = tt

slot_good : (fs : List (List ℕ)) → Good (slot_of fs)
slot_good [] = tt
slot_good (more ∷ fs) = tt

command_good : (fs : List (List ℕ)) → Good (command fs)
command_good [] = tt
command_good (key ∷ fs) =
    first_each Good
    ((same key (ascii "F"), frame_of fs)
    ∷ (same key (ascii "T"), ticks_of fs)
    ∷ (same key (ascii "S"), sample_of fs)
    ∷ (same key (ascii "?"), slot_of fs)
    ∷ [])
    malformed
    (frame_good fs ▸ ticks_good fs ▸ sample_good fs ▸ slot_good fs ▸ end)
    tt

pub in_bounds : (l : List ℕ) → Within (parsed l)
unfolding parsed
in_bounds l = command_good (fields l)
