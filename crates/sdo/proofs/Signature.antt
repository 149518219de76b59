-- The entries that take a signature are 1010-1 and 1011-1.
use Prim.Native.Nat.{ℕ, ◌+◌, ◌*◌}
use mathlib.Core.Path.{◌≡◌, refl, sym, ◌∙◌}
use mathlib.Core.Logic.{◌↔◌, inl, inr}
use mathlib.Core.Bool.{Bool, true, false, ◌&&◌, ◌||◌}
use mathlib.Core.List.{List, map}
use lib.Dec.{eqb}
use lib.ListN.{get_or}
use borrow.Author.Tests.{eqb-true}
use Rattle.cases.proofs.Cases.{test, true_false, both, either}
use Rattle.entries.specs.declared.table.Row.{Row}
use Rattle.entries.specs.Table.{table, index, sub, accepted}
use Rattle.entries.proofs.Listed.{agree}
use Rattle.dictionary.specs.Accepted.{is_signature}
use Rattle.sdo.specs.Exactly.{EntryStands, Signs}

abbrev named : ℕ → ℕ → Bool
named i j = (eqb i 0x1010 || eqb i 0x1011) && eqb j 1

abbrev takes : Row → Bool
takes r = is_signature (accepted r)

abbrev signed : Row → Bool
signed r = named (index r) (sub r)

all_signed : map takes table ≡ map signed table
unfolding table
all_signed = refl

module _ (f : List ℕ) (r : Row) (h : EntryStands f r) where
  is_signature_law : is_signature (accepted r) ≡ named (get_or f 1 0 + 256 * get_or f 2 0) (get_or f 3 0)
  is_signature_law = agree takes signed all_signed r h.0.0 ∙ rw (h.0.1, h.1)

  by_name : Signs f → named (get_or f 1 0 + 256 * get_or f 2 0) (get_or f 3 0) ≡ true
  by_name (inl e, j) = rw (e, j)
  by_name (inr e, j) = rw (e, j)

  pub signs : (is_signature (accepted r) ≡ true) ↔ Signs f
  signs =
      let i = get_or f 1 0 + 256 * get_or f 2 0 in (
        λ e. let b = both (eqb i 0x1010 || eqb i 0x1011) _ (sym is_signature_law ∙ e) in
            (either _ _ b.0 (λ t. inl (eqb-true _ _ t)) (λ t. inr (eqb-true _ _ t)), eqb-true _ _ b.1),
        λ s. is_signature_law ∙ by_name s,
      )

  pub signs_not : (is_signature (accepted r) ≡ false) ↔ (Signs f → ⊥)
  signs_not =
      (λ e s. true_false (sym (signs.1 s) ∙ e), λ n. test (is_signature (accepted r)) (λ e. absurd (n (signs.0 e))) (λ e. e))
