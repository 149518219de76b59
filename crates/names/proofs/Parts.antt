-- The first byte of a segment by its bits, and a list in places by its front and its zeros. Assumes nothing.
use Prim.Native.Nat.{ℕ, zero, suc, ◌+◌, ◌*◌, ◌-◌, ◌/◌, ◌%◌, ◌<◌, ◌≤◌}
use native.Mathlib.Nat.{zero-sub, sub-zero, suc-sub-suc}
use native.Mathlib.Omega.{arith}
use mathlib.Core.Path.{◌≡◌, refl, ap}
use mathlib.Core.Bool.{cond}
use mathlib.Core.Logic.{◌↔◌}
use mathlib.Core.List.{List, [], ◌∷◌, ◌++◌}
use lib.ListN.{length, take, replicate, length-take}
use lib.Seq.{take_at}
use borrow.Author.Tests.{leb-true, leb-false}
use Rattle.cases.specs.Padded.{pad}
use Rattle.cases.proofs.Cases.{by}
use Rattle.names.specs.Segment.{left_of, toggle_of, is_last, unused, command_of}

-- a byte in which the toggle, the number of unused bytes and the last bit stand, each in its place
pub record Parts (toggled count end b : ℕ) : Type 0 where
  pub top : b / 32 ≡ 0
  pub toggle : b / 16 % 2 ≡ toggled
  pub unused : b / 2 % 8 ≡ count
  pub last : b % 2 ≡ end

parts : (t u l : ℕ) → t < 2 → u < 8 → l < 2 → Parts t u l (t * 16 + u * 2 + l)
parts t u l a b c = record { top = omega arith; toggle = omega arith; unused = omega arith; last = omega arith }

pub command_parts : (l k : ℕ) → Parts (toggle_of k) (unused l k) (cond (is_last l k) 1 0) (command_of l k)
command_parts l k =
    parts _ _ _ (omega arith) (omega arith) (by (λ (b : ℕ). b < 2) (is_last l k) (λ _. omega arith) (λ _. omega arith))

pub last_bit : (l k : ℕ) → ◌≡◌ {A = ℕ} (cond (is_last l k) 1 0) 1 ↔ l ≤ 7 * suc k
last_bit l k =
    by
    (λ (b : ℕ). b ≡ 1 ↔ l ≤ 7 * suc k)
    (is_last l k)
    (λ e. (λ _. omega (arith, leb-true (left_of l k) 7 e), λ _. refl))
    (λ e. (λ z. omega arith, λ h. omega (arith, leb-false (left_of l k) 7 e)))

zeros : (n : ℕ) → pad n [] ≡ replicate n 0
zeros zero = refl
zeros (suc n) = ap {B = List ℕ} (λ r. 0 ∷ r) (zeros n)

-- the front of the list, and 0 in the places that it does not reach
pub pad_split : (n : ℕ) (l : List ℕ) → pad n l ≡ take n l ++ replicate (n - length l) 0
pad_split zero l = rw zero-sub
pad_split (suc n) [] = rw sub-zero (zeros (suc n))
pad_split (suc n) (x ∷ l) = rw suc-sub-suc (ap {B = List ℕ} (λ r. x ∷ r) (pad_split n l))

-- the places that it reaches
pub pad_front : (n : ℕ) (l : List ℕ) → take (n - (n - length l)) (pad n l) ≡ take n l
pad_front n l = rw pad_split (take_at (take n l) _ (n - (n - length l)) (rw length-take (omega arith)))
