-- What a value and a confirmation tell: which tests of 01's list failed before them.
use Prim.Native.Nat.{ℕ, ◌^◌, ◌<◌}
use native.Mathlib.Omega.{arith}
use native.Mathlib.Nat.{mod-lt, lt_trans}
use mathlib.Core.Path.{◌≡◌, refl, ◌∙◌}
use mathlib.Core.Bool.{Bool, true, false, not, ◌&&◌, cond}
use mathlib.Core.List.{List}
use lib.Dec.{ltb, lit<}
use borrow.Author.Tests.{ltb-false, not-false}
use Rattle.cases.proofs.Cases.{by}
use Rattle.entries.specs.declared.Device.{Device}
use Rattle.entries.specs.declared.table.Row.{Row}
use Rattle.std.specs.Prelude.{Ok as At, None as Blank, Some as Number}
use Rattle.entries.specs.Table.{key, width, is_rw, accepted, lookup}
use Rattle.entries.specs.Laws.{Listed}
use Rattle.dictionary.specs.Shown.{Shown}
use Rattle.dictionary.specs.Reads.{shown}
use Rattle.dictionary.specs.Accepted.{accepts_in, is_signature, barred, abort_code}
use Rattle.sdo.specs.Request.{index_of, sub_of, data_of, writing}
use Rattle.sdo.specs.Service.{Due, value, abort, is_blank, number_in, length_of, cut_to, due}
use Rattle.sdo.specs.Exactly.{EntryStands, ReadsFrom, WritesTo}
use Rattle.sdo.specs.Laws.{Told}
use Rattle.sdo.proofs.Asked.{finds, found}
use Rattle.sdo.proofs.Width.{each_width}
use Rattle.sdo.proofs.Ways.{write_due, each_way}

-- neither longer nor shorter
pub same : (m n : ℕ) → ltb n m ≡ false → ltb m n ≡ false → m ≡ n
same m n a b = let x = ltb-false n m a in let y = ltb-false m n b in omega arith

-- the bytes that are cut off fit the type
cut_fits : (v : ℕ) (r : Row) → Listed r → cut_to (width r) v < 256 ^ width r
cut_fits v =
    each_width (λ w. cut_to w v < 256 ^ w)
    (mod-lt v (omega arith))
    (mod-lt v (omega arith))
    (mod-lt v (omega arith))
    (lt_trans (mod-lt v (omega arith)) (lit< tt))

unaborted : (d : Device) (r : Row) (v : ℕ) → accepts_in d r v ≡ true → barred d (key r) v ≡ false → abort_code d r v ≡ 0
unfolding abort_code
unaborted d r v a b = rw (a, b)

module _ (d : Device) (o : Bool) (f : List ℕ) where
  abbrev Tells : Due → Type 0
  Tells = Told d o f (lookup (index_of f) (sub_of f))

  at : (r : Row) → EntryStands f r → lookup (index_of f) (sub_of f) ≡ At r
  at r h = found f ∙ ((finds f).at r).1 h

  read : (r : Row) → ReadsFrom f r → (s : Shown) → shown d o r ≡ s
      → Tells (cond (is_blank s) (abort 0x08000024) (value (width r) (number_in s)))
  read r h Blank e = tt
  read r h (Number n) e =
      record {
        asks = rw h.0;
        its_row = r;
        listed = h.1.0.0;
        found = at r h.1;
        its_width = refl;
        shows = e;
      }

  asks : (r : Row) → WritesTo f r → writing f ≡ true
  asks r h = rw (h.0.0, h.0.1)

  write : (r : Row) → WritesTo f r → Tells (write_due d o f r (cut_to (width r) (data_of f)))
  write r h =
      let v = cut_to (width r) (data_of f) in
      by Tells (not (is_rw r)) (λ _. tt) (λ rw.
      by Tells (ltb (width r) (length_of f (width r))) (λ _. tt) (λ long.
      by Tells (ltb (length_of f (width r)) (width r)) (λ _. tt) (λ short.
      by Tells (not (accepts_in d r v) && is_signature (accepted r)) (λ _. tt) (λ _.
      by Tells (not (accepts_in d r v)) (λ _. tt) (λ accepted.
      by Tells (barred d (key r) v) (λ _. tt) (λ free.
      record {
        asks = asks r h;
        its_row = r;
        found = at r h.1;
        key = refl;
        its_length = same (length_of f (width r)) (width r) long short;
        its_value = refl;
        takes = record {
          listed = h.1.0.0;
          writable = not-false (is_rw r) rw;
          long = cut_fits (data_of f) r h.1.0.0;
          unaborted = unaborted d r v (not-false (accepts_in d r v) accepted) free;
        };
      }))))))

  pub told : Tells (due d o f)
  told = each_way d o f Tells (λ _. tt) (λ _. tt) (λ _. tt) (λ _. tt) (λ r h. read r h (shown d o r) refl) write
