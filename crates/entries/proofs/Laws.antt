-- Proves the laws of specs/Laws.antt from the other files; the columns of the table by computation. Assumes nothing.
use Prim.Native.Nat.{ℕ, ◌+◌, ◌*◌}
use native.Mathlib.Omega.{arith}
use lib.Dec.{eqb}
use mathlib.Core.Path.{◌≡◌, refl, ap, ◌∙◌}
use mathlib.Core.Bool.{false, cond}
use mathlib.Core.List.{List, [], ◌∷◌, map}
use Rattle.cases.proofs.Cases.{test}
use Rattle.entries.specs.declared.table.Row.{Row}
use Rattle.entries.specs.declared.table.Accepted.TheVariants.{Nothing}
use Rattle.entries.specs.Table.{Found, table, key, index, sub, width, is_rw, accepted, no_sub, lookup_in, lookup}
use Rattle.std.specs.Prelude.{Ok as At, Err}
use Rattle.entries.specs.declared.table.NotFound.TheVariants.{NoSubIndex, NoIndex}
use Rattle.entries.specs.Laws.{Listed, columns, Line, index_stands, sought_in, line_of, Laws}
use Rattle.entries.proofs.Listed.{agree}
use Rattle.entries.proofs.Found.{rising, finds}

abbrev line : Row → Line
line r = (index r, sub r, width r, is_rw r)

all_of_them : map line table ≡ columns
unfolding table
all_of_them = refl

no_sub_law : (x : Found) → line_of (no_sub x) ≡ index_stands (line_of x)
no_sub_law (At r) = refl
no_sub_law (Err NoSubIndex) = refl
no_sub_law (Err NoIndex) = refl

line_of_law : (l : List Row) (i j : ℕ) → line_of (lookup_in l i j) ≡ sought_in (map line l) i j
line_of_law [] i j = refl
line_of_law (a ∷ l) i j =
    test (eqb (index a) i)
    (λ e. test (eqb (sub a) j) (λ f. rw (e, f)) (λ f. rw (e, f) (no_sub_law (lookup_in l i j) ∙ ap index_stands (line_of_law l i j))))
    (λ e. rw e (line_of_law l i j))

by_columns : (i j : ℕ) → line_of (lookup i j) ≡ sought_in columns i j
unfolding lookup
by_columns i j = line_of_law table i j ∙ ap (λ (c : List Line). sought_in c i j) all_of_them

its_key : (r : Row) (i j : ℕ) → index r ≡ i → sub r ≡ j → key r ≡ i * 256 + j
its_key r i j e f = omega arith

nothing : map (λ r. cond (is_rw r) Nothing (accepted r)) table ≡ map (λ r. Nothing) table
unfolding table
nothing = refl

read_only : (r : Row) → Listed r → is_rw r ≡ false → accepted r ≡ Nothing
read_only r l e = rw e at (agree (λ q. cond (is_rw q) Nothing (accepted q)) (λ q. Nothing) nothing r l)

pub laws : Laws
laws =
    record {
      by_columns = by_columns;
      all_of_them = all_of_them;
      keys = λ r i j s. its_key r i j s.0.1 s.1;
      finds = finds;
      names = λ i. (refl, refl, refl);
      rising = rising;
      read_only = read_only;
    }
