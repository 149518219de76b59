-- The kinds are gone through, each if it is due: the result is the line without all that are withdrawn, in one call.
use Prim.Native.Nat.{ℕ}
use mathlib.Core.Path.{◌≡◌, refl, ◌∙◌}
use mathlib.Core.Bool.{Bool}
use mathlib.Core.List.{List, [], ◌∷◌}
use Rattle.cases.proofs.Cases.{by₂}
use Rattle.waiting.specs.Calls.{withdraws_in, if_due, those_due}

abbrev pub each_leaves : (ℕ → Bool) → List ℕ → List ℕ → List ℕ
each_leaves due l [] = l
each_leaves due l (k ∷ ks) = each_leaves due (withdraws_in l (if_due (due k) k)) ks

pub withdraws_those : (due : ℕ → Bool) (l ks : List ℕ) → each_leaves due l ks ≡ withdraws_in l (those_due due ks)
withdraws_those due l [] = refl
withdraws_those due l (k ∷ ks) =
    withdraws_those due (withdraws_in l (if_due (due k) k)) ks
    ∙ by₂ (λ a b. withdraws_in (withdraws_in l a) (those_due due ks) ≡ withdraws_in l b) (due k) (λ e. refl) (λ e. refl)
