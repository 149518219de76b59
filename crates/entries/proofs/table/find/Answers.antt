-- `table::find` meets its contract: the row is there, or the row of sub-index 0 tells whether the index is.
use Prim.Native.Nat.{ℕ, zero, suc, ◌+◌, ◌<◌}
use mathlib.Core.Path.{◌≡◌, refl, sym, ap, ◌∙◌}
use mathlib.Core.List.{[], ◌∷◌}
use native.Mathlib.Omega.{arith}
use Rattle.std.specs.Prelude.{Option, None, Some, Ok as At, Err}
use Rattle.std.proofs.Common.{slice_index_or}
use Rattle.entries.specs.declared.table.Row.{Row}
use Rattle.entries.specs.declared.table.NotFound.TheVariants.{NoSubIndex}
use Rattle.entries.specs.Table.{key_of, row_of_key, lookup}
use Rattle.entries.proofs.Found.{finds}
use Rattle.entries.proofs.Search.{there, not_there, no_first}
use Rattle.entries.proofs.table.find.Invariants.{Tried}
use Rattle.entries.proofs.table.find.Goals as goal

-- the sub-indices that are asked for
abbrev asked : ℕ → ℕ → ℕ
asked j p = slice_index_or {A = ℕ} (j ∷ 0 ∷ []) p 0

-- what was sought for the sub-index a
module _ (i a k : ℕ) (x : Option Row) (e : k ≡ key_of i a) (f : x ≡ row_of_key k) where
  sought : row_of_key (key_of i a) ≡ x
  sought = sym (f ∙ ap row_of_key e)

  found : (j : ℕ) (r : Row) → x ≡ Some r → a ≡ j → j < 256 → At r ≡ lookup i j
  found j r g y b = sym (((finds i j).at r).1 (there i j r b (ap (λ n. row_of_key (key_of i n)) (sym y) ∙ sought ∙ g)))

no_sub_law : (i j p k : ℕ) (x : Option Row) (r : Row) → k ≡ key_of i (asked j p) → x ≡ row_of_key k → x ≡ Some r
    → Tried i j p → (asked j p ≡ j → ⊥) → p < 2 → Err NoSubIndex ≡ lookup i j
no_sub_law i j zero k x r e f g t m b = absurd (m refl)
no_sub_law i j (suc zero) k x r e f g t m b =
    let h = there i 0 r (omega arith) (sought i 0 k x e f ∙ g) in
    sym ((finds i j).no_sub_index.1 ((r, h.0), not_there i j (t.first (omega arith))))
no_sub_law i j (suc (suc p)) k x r e f g t m b = absurd (omega arith)

next : (i j p k : ℕ) (x : Option Row) → k ≡ key_of i (asked j p) → x ≡ row_of_key k → x ≡ None → Tried i j p → p < 2 → Tried i j (p + 1)
next i j zero k x e f g t b = record { first = λ l. sought i j k x e f ∙ g; second = λ l. absurd (omega arith) }
next i j (suc zero) k x e f g t b = record { first = λ l. t.first (omega arith); second = λ l. sought i 0 k x e f ∙ g }
next i j (suc (suc p)) k x e f g t b = absurd (omega arith)

pub loop-asked-init : goal.loop-asked-init
loop-asked-init c = record { first = λ l. absurd (omega arith); second = λ l. absurd (omega arith) }

pub returns-then-asked-sub : goal.returns-then-asked-sub
returns-then-asked-sub c = found _ _ _ _ c.key_of.ensures c.row_of.ensures _ _ c.in-Some.is c.if-asked-sub.true (omega arith)

pub returns-else-asked-sub : goal.returns-else-asked-sub
returns-else-asked-sub c =
    let l = c.loop-asked in
    no_sub_law _ _ l.asked-index _ _ _ c.key_of.ensures c.row_of.ensures c.in-Some.is l.invariant c.if-asked-sub.false c.loop-asked-test.true

pub loop-asked-preserved : goal.loop-asked-preserved
loop-asked-preserved c =
    next _ _ c.loop-asked.asked-index _ _ c.key_of.ensures c.row_of.ensures c.in_default.is c.loop-asked.invariant c.loop-asked-test.true

pub returns : goal.returns
returns c =
    let none = c.loop-asked.invariant.second (omega (arith, c.loop-asked-test.false)) in
    sym ((finds c.args.index c.args.sub).no_index.1 (no_first c.args.index none))
