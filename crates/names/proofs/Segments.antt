-- The reply to a segment request, byte by byte. Assumes nothing.
use Prim.Native.Nat.{ℕ, zero, suc, ◌+◌, ◌*◌}
use native.Mathlib.Omega.{arith}
use mathlib.Core.Path.{◌≡◌, refl}
use mathlib.Core.List.{List, [], ◌∷◌}
use lib.ListN.{get_or, drop}
use Rattle.cases.specs.Padded.{pad}
use Rattle.names.specs.declared.Name.{Name}
use Rattle.names.specs.Name.{text}
use Rattle.names.specs.Segment.{command_of, byte_at, segment_of}

-- places of what is left, one by one
pad_drop : (n m : ℕ) (l : List ℕ) → pad (suc n) (drop m l) ≡ get_or l m 0 ∷ pad n (drop (suc m) l)
pad_drop n zero [] = refl
pad_drop n zero (x ∷ l) = refl
pad_drop n (suc m) [] = refl
pad_drop n (suc m) (x ∷ l) = pad_drop n m l

-- the seven bytes from a place on
seven : (m : ℕ) (l : List ℕ) → pad 7 (drop m l)
    ≡ get_or l m 0
    ∷ get_or l (m + 1) 0
    ∷ get_or l (m + 2) 0
    ∷ get_or l (m + 3) 0
    ∷ get_or l (m + 4) 0
    ∷ get_or l (m + 5) 0
    ∷ get_or l (m + 6) 0
    ∷ []
seven m l =
    let one : m + 1 ≡ suc m = omega arith in
    let two : m + 2 ≡ suc (suc m) = omega arith in
    let three : m + 3 ≡ suc (suc (suc m)) = omega arith in
    let four : m + 4 ≡ suc (suc (suc (suc m))) = omega arith in
    let five : m + 5 ≡ suc (suc (suc (suc (suc m)))) = omega arith in
    let six : m + 6 ≡ suc (suc (suc (suc (suc (suc m))))) = omega arith in
    rw (
      one,
      two,
      three,
      four,
      five,
      six,
      pad_drop 6 m l,
      pad_drop 5 (suc m) l,
      pad_drop 4 (suc (suc m)) l,
      pad_drop 3 (suc (suc (suc m))) l,
      pad_drop 2 (suc (suc (suc (suc m)))) l,
      pad_drop 1 (suc (suc (suc (suc (suc m))))) l,
      pad_drop 0 (suc (suc (suc (suc (suc (suc m)))))) l,
    )

-- a reply of these bytes is the segment
pub segment_of_law : (n : Name) (k m c : ℕ) → c ≡ command_of n.length k → m ≡ 7 * k
    → c
    ∷ byte_at n m
    ∷ byte_at n (m + 1)
    ∷ byte_at n (m + 2)
    ∷ byte_at n (m + 3)
    ∷ byte_at n (m + 4)
    ∷ byte_at n (m + 5)
    ∷ byte_at n (m + 6)
    ∷ []
    ≡ segment_of n k
unfolding segment_of
segment_of_law n k m c e q = rw (e, q, seven (7 * k) (text n))
