-- Proves `Lines` of specs/Laws.antt: one join, one withdrawal and one slot. Also that each kind waits at most once. Assumes nothing.
use Prim.Native.Nat.{ℕ, ◌<◌, ◌≤◌}
use mathlib.Core.Path.{◌≡◌, refl, sym, ap, ◌∙◌}
use mathlib.Core.Bool.{true, false, or-true}
use mathlib.Core.List.{List, [], ◌∷◌, ◌++◌}
use lib.Dec.{eqb}
use borrow.Author.Tests.{eq-eqb, eqb-true}
use Rattle.cases.proofs.Cases.{neither, test, true_false}
use Rattle.waiting.specs.Line.{has, Kinds, withdraw}
use Rattle.waiting.specs.Laws.{Lines}
use Rattle.waiting.proofs.After.{has_append}
use Rattle.waiting.proofs.Room.{withdraw_none}
use Rattle.waiting.proofs.Order.{join_is}

found : (k : ℕ) (ws : List ℕ) → has k ws ≡ true → (a : List ℕ) × (b : List ℕ) × (ws ≡ a ++ k ∷ b)
found k [] e = true_false (sym e)
found k (x ∷ xs) e =
    test (eqb x k)
    (λ t. ([], xs, ap {B = List ℕ} (λ y. y ∷ xs) (eqb-true x k t)))
    (λ t. let f = found k xs (rw t at e) in (x ∷ f.0, f.1, ap {B = List ℕ} (λ r. x ∷ r) f.2))

stands : (k : ℕ) (a b : List ℕ) → has k (a ++ k ∷ b) ≡ true
stands k a b = rw (has_append k a (k ∷ b), eq-eqb k k refl) (or-true (has k a))

goes : (k : ℕ) (a b : List ℕ) → has k a ≡ false → has k b ≡ false → withdraw (a ++ k ∷ b) k ≡ a ++ b
goes k [] b e f = rw (eq-eqb k k refl) (withdraw_none k b f)
goes k (x ∷ xs) b e f =
    let n : (eqb x k ≡ false) × (has k xs ≡ false) = neither (eqb x k) (has k xs) e in
    rw n.0 (ap {B = List ℕ} (λ r. x ∷ r) (goes k xs b n.1 f))

pub lines : Lines
lines =
    record {
      stands = λ k ws. (found k ws, λ u. rw u.2 (stands k u.0 u.1));
      at_the_end = λ k ws e. join_is ws k ∙ rw e;
      keeps_its_place = λ k ws e. join_is ws k ∙ rw e;
      goes = goes;
      none_goes = withdraw_none;
      sends = λ k ws. refl;
      sends_none = refl;
    }

pub once : (n k : ℕ) (a b : List ℕ) → Kinds n (a ++ k ∷ b) → (0 < k) × (k ≤ n) × (has k a ≡ false) × (has k b ≡ false)
once n k [] b h = (h.0, h.1, refl, h.2)
once n k (x ∷ xs) b h =
    let o = once n k xs b h.3 in
    let ne : eqb x k ≡ false =
    test (eqb x k) (λ t. true_false (sym (rw (eqb-true x k t) (stands k xs b)) ∙ h.2)) (λ t. t) in
    (o.0, o.1, rw (ne, o.2), o.3)
