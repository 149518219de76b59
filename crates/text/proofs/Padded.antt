-- A list in n places: the places that it does not fill are 0, and at most n elements can be taken. Assumes nothing.
use mathlib.Core.Path.{◌≡◌, refl, sym, ◌∙◌}
use mathlib.Core.List.{List, [], ◌∷◌, ◌++◌}
use Prim.Native.Nat.{ℕ, zero, suc, ◌-◌, ◌≤◌}
use native.Mathlib.Nat.{not-suc-le-zero, le_of_suc-le-suc, sub-zero}
use native.Mathlib.Omega.{arith}
use lib.Dec.{ltb}
use lib.ListN.{length, take, replicate}
use lib.Seq.{take_all, length-take-le}
use Rattle.cases.specs.Padded.{pad}
use Rattle.cases.proofs.Cases.{by}
use borrow.Author.Tests.{ltb-true, ltb-false}
use Rattle.text.specs.Lines.{at_most}

pub pad_full : (n : ℕ) (l m : List ℕ) → n ≤ length l → pad n (l ++ m) ≡ pad n l
pad_full zero l m h = refl
pad_full (suc n) [] m h = absurd (not-suc-le-zero h)
pad_full (suc n) (x ∷ l) m h = rw (pad_full n l m (le_of_suc-le-suc h))

pad_nil : (n : ℕ) → pad n [] ≡ replicate n 0
pad_nil zero = refl
pad_nil (suc n) = rw (pad_nil n)

pub pad_behind : (n : ℕ) (l : List ℕ) → length l ≤ n → pad n l ≡ l ++ replicate (n - length l) 0
pad_behind n [] h = rw sub-zero (pad_nil n)
pad_behind zero (x ∷ l) h = absurd (not-suc-le-zero h)
pad_behind (suc n) (x ∷ l) h =
    let e : suc n - suc (length l) ≡ n - length l = omega arith in
    rw (pad_behind n l (le_of_suc-le-suc h), e)

pub take_pad : (n : ℕ) (l : List ℕ) → length l ≤ n → take (length l) (pad n l) ≡ l
take_pad n [] h = refl
take_pad zero (x ∷ l) h = absurd (not-suc-le-zero h)
take_pad (suc n) (x ∷ l) h = rw (take_pad n l (le_of_suc-le-suc h))

pub at_most_law : (m n : ℕ) → at_most m n ≤ m
at_most_law m n = by (λ (k : ℕ). k ≤ m) (ltb n m) (λ e. omega (arith, ltb-true)) (λ _. omega arith)

pub take_at_most : (m n : ℕ) (l : List ℕ) → length l ≡ m → take (at_most m n) l ≡ take n l
take_at_most m n l h =
    by (λ (k : ℕ). take k l ≡ take n l) (ltb n m)
    (λ _. refl)
    (λ e.
    let k : m ≤ n = ltb-false _ _ e in
    take_all m l (omega arith) ∙ sym (take_all n l (omega arith)))

-- n elements can be lent, and these are n
pub share : {n : ℕ} (m k : ℕ) (l : List ℕ) → n ≡ at_most m k → length l ≡ m → n ≤ length l
share m k l e h = omega (arith, at_most_law m k)

pub shared : {n : ℕ} (m k : ℕ) (l : List ℕ) → n ≡ at_most m k → length l ≡ m → n ≡ length (take n l)
shared {n} m k l e h = sym (length-take-le n l (share m k l e h))
