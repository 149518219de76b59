-- An entry reads what was written to it: for the whole table by computation. 1003-0 accepts only 0, and then reads 0. Assumes nothing.
use Prim.Native.Nat.{ℕ}
use mathlib.Core.Path.{◌≡◌, refl, sym, ◌∙◌, ap}
use mathlib.Core.Bool.{Bool, true, cond}
use mathlib.Core.List.{map}
use lib.Dec.{eqb}
use borrow.Author.Tests.{eqb-true}
use Rattle.cases.proofs.Cases.{by}
use Rattle.entries.specs.declared.Device.{Device}
use Rattle.entries.specs.declared.table.Row.{Row}
use Rattle.entries.specs.Table.{table, key, is_rw, accepted, source, number_of}
use Rattle.entries.specs.Keys.{error_count_key}
use Rattle.entries.proofs.Listed.{agree}
use Rattle.dictionary.specs.Accepted.{accepts_in, is_signature}
use Rattle.dictionary.specs.Writes.{written, put}
use Rattle.dictionary.specs.Laws.{Takes}
use Rattle.dictionary.proofs.Accepted.{taken}

abbrev is_count : Row → Bool
is_count r = eqb (key r) error_count_key

module _ (d : Device) (o : Bool) (r : Row) (v : ℕ) where
  -- what an rw entry reads after the write, and what is expected; 0 for another
  abbrev read : Row → ℕ
  read q = cond (is_rw q) (number_of (source q) (written d (key q) v) o) 0

  abbrev expected : Row → ℕ
  expected q = cond (is_rw q) (cond (is_signature (accepted q)) 1 (cond (is_count q) 0 v)) 0

  columns : map read table ≡ map expected table
  unfolding table put
  columns = refl

  -- whether 1003-0 accepts v
  abbrev empties : Row → Bool
  empties q = cond (is_count q) (accepts_in d q v) (eqb v 0)

  only_0 : map empties table ≡ map (λ q. eqb v 0) table
  unfolding table
  only_0 = refl

  pub emptied : Takes d r v → is_count r ≡ true → v ≡ 0
  emptied t e =
      let accepts = rw e at (agree empties (λ q. eqb v 0) only_0 r t.listed) in
      eqb-true v 0 (sym accepts ∙ (taken d r v t.unaborted).0)

  pub reads_back : Takes d r v → number_of (source r) (written d (key r) v) o ≡ cond (is_signature (accepted r)) 1 v
  reads_back t =
      let s = is_signature (accepted r) in
      rw t.writable at (agree read expected columns r t.listed)
      ∙ by (λ n. cond s 1 n ≡ cond s 1 v) (is_count r) (λ e. ap (λ n. cond s 1 n) (sym (emptied t e))) (λ _. refl)
