-- The kinds and their numbers in the line, in 01's order (`kinds`); and what a slot sends, by the first number in the line.
use Prim.Native.Nat.{ℕ, zero, suc, ◌<◌, ◌≤◌}
use native.Mathlib.Omega.{arith}
use lib.Dec.{eqb}
use mathlib.Core.Path.{◌≡◌, refl, sym, ap, subst, ◌∙◌}
use mathlib.Core.Logic.{◌⊎◌, inl, inr}
use mathlib.Core.Bool.{Bool, true, and-true}
use mathlib.Core.List.{List, [], ◌∷◌, map}
use borrow.Author.Tests.{eq-eqb}
use Rattle.cases.specs.Cases.{first_of}
use Rattle.cases.proofs.Cases.{by}
use Rattle.waiting.specs.Line.{places, order, has, first, Kinds}
use Rattle.waiting.specs.Calls.{those_due, Named}
use Rattle.waiting.specs.Laws.{Among}
use Rattle.waiting.proofs.Laws.{in_turn}
use Rattle.promises.specs.States.{one, two}
use Rattle.promises.specs.WaitingLine.{Kind, emergency, sdo_reply, heartbeat, tpdo, kinds, number, those_of, those}
use Rattle.promises.specs.Acts.{Act, idle, send}
use Rattle.promises.specs.Calls.{sent_as}

-- the kind of a number in the line
abbrev pub kind_at : ℕ → Kind
kind_at n = first_of (map (λ k. (eqb n (number k), k)) kinds) emergency

kind_at_law : (k : Kind) → kind_at (number k) ≡ k
kind_at_law emergency = refl
kind_at_law sdo_reply = refl
kind_at_law heartbeat = refl
kind_at_law (tpdo one) = refl
kind_at_law (tpdo two) = refl

pub same_kind : (j k : Kind) → number j ≡ number k → j ≡ k
same_kind j k e = sym (kind_at_law j) ∙ ap kind_at e ∙ kind_at_law k

pub number_is : (x : ℕ) → 0 < x → x ≤ places → number (kind_at x) ≡ x
number_is zero p q = absurd (omega arith)
number_is (suc zero) p q = refl
number_is (suc (suc zero)) p q = refl
number_is (suc (suc (suc zero))) p q = refl
number_is (suc (suc (suc (suc zero)))) p q = refl
number_is (suc (suc (suc (suc (suc zero))))) p q = refl
number_is (suc (suc (suc (suc (suc (suc x)))))) p q = absurd (omega arith)

pub positive : (k : Kind) → 0 < number k
positive emergency = omega arith
positive sdo_reply = omega arith
positive heartbeat = omega arith
positive (tpdo one) = omega arith
positive (tpdo two) = omega arith

in_order : (k : Kind) → has (number k) order ≡ true
in_order emergency = refl
in_order sdo_reply = refl
in_order heartbeat = refl
in_order (tpdo one) = refl
in_order (tpdo two) = refl

-- the kinds that a test picks, by their numbers as in crate waiting
pub those_due_law : (t : Kind → Bool) → those t ≡ those_due (λ n. t (kind_at n)) order
those_due_law t = due kinds
  where
    due : (ks : List Kind) → those_of t ks ≡ those_due (λ n. t (kind_at n)) (map number ks)
    due [] = refl
    due (k ∷ ks) = rw (kind_at_law k, due ks)

pub has_those : (t : Kind → Bool) (k : Kind) → has (number k) (those t) ≡ t k
has_those t k = rw (those_due_law t, in_turn.exactly (λ n. t (kind_at n)) order (number k), in_order k, kind_at_law k, and-true (t k))

pub named_those : (t : Kind → Bool) → Named places (those t)
named_those t = rw (those_due_law t) (in_turn.named (λ n. t (kind_at n)) in_turn.all_named)

-- in 01's order
pub among_those : (t : Kind → Bool) → Among (those t) order
among_those t = subst (λ ks. Among ks order) (sym (those_due_law t)) (in_turn.among (λ n. t (kind_at n)) order)

-- none waits, or a kind is first
pub first_has : (ws : List ℕ) (k : Kind) → first ws ≡ number k → has (number k) ws ≡ true
first_has [] k e = absurd (omega (arith, positive k, e))
first_has (x ∷ xs) k e = rw (eq-eqb x (number k) e)

pub first_of_law : (ws : List ℕ) → Kinds places ws → (ws ≡ []) ⊎ ((k : Kind) × (first ws ≡ number k) × (has (number k) ws ≡ true))
first_of_law [] h = inl refl
first_of_law (x ∷ xs) h = let e = number_is x h.0 h.1 in inr (kind_at x, sym e, rw (eq-eqb x (number (kind_at x)) (sym e)))

-- a property of a slot that sends nothing, and of one that sends any kind, is a property of every slot
pub sent_as_law : (P : Act → Type 0) (n : ℕ) → P idle → ((k : Kind) → P (send k)) → P (sent_as n)
sent_as_law P n none sent = over kinds
  where
    over : (ks : List Kind) → P (first_of (map (λ k. (eqb n (number k), send k)) ks) idle)
    over [] = none
    over (k ∷ ks) = by P (eqb n (number k)) (λ _. sent k) (λ _. over ks)
