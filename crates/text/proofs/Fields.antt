-- A line is its fields with one space between them. Assumes nothing.
use mathlib.Core.Path.{◌≡◌, refl}
use mathlib.Core.Bool.{true, false}
use mathlib.Core.List.{List, [], ◌∷◌, ◌++◌, map}
use Prim.Native.Nat.{ℕ, ◌≤◌, ◌<◌}
use Prim.Native.Char.{code}
use native.Mathlib.Omega.{arith}
use lib.Dec.{eqb, ltb}
use lib.ListN.{length}
use Rattle.cases.proofs.Cases.{test, both}
use borrow.Author.Tests.{eq-eqb, eqb-true, ltb-true}
use Rattle.text.specs.Lines.{onto}
use Rattle.text.specs.Grammar.{hex, fields, digit_of, digits, value, is_pair, all}
use Rattle.text.specs.Forms.{behind, parted, Pairs, none, more}
use Rattle.text.proofs.Digits.{number_is, number_of}

abbrev Some : List (List ℕ) → Type 0
Some [] = ⊥
Some (w ∷ ws) = Unit {0}

onto_some : (x : ℕ) (ws : List (List ℕ)) → Some (onto x ws)
onto_some x [] = tt
onto_some x (w ∷ ws) = tt

fields_some : (l : List ℕ) → Some (fields l)
fields_some [] = tt
fields_some (x ∷ xs) = test (eqb x (code " ")) (λ e. rw e tt) (λ e. rw e (onto_some x (fields xs)))

behind_parted : (ws : List (List ℕ)) → Some ws → behind ws ≡ code " " ∷ parted ws
behind_parted [] h = absurd h
behind_parted (w ∷ ws) h = refl

onto_parted : (x : ℕ) (ws : List (List ℕ)) → parted (onto x ws) ≡ x ∷ parted ws
onto_parted x [] = refl
onto_parted x (w ∷ ws) = refl

pub parted_fields : (l : List ℕ) → parted (fields l) ≡ l
parted_fields [] = refl
parted_fields (x ∷ xs) =
    test (eqb x (code " "))
    (λ e. rw (e, behind_parted (fields xs) (fields_some xs), parted_fields xs, eqb-true x (code " ") e))
    (λ e. rw (e, onto_parted x (fields xs), parted_fields xs))

-- no digit is a space
digit_apart : (base x : ℕ) → base ≤ 16 → ltb (digit_of x) base ≡ true → eqb x (code " ") ≡ false
digit_apart base x few h =
    test (eqb x (code " "))
    (λ e.
    let k : digit_of (code " ") < base = ltb-true _ _ (rw (eqb-true x (code " ") e) at h) in
    absurd (omega arith))
    (λ e. e)

-- digits are one field, up to a space or the end
pub word_fields : {ws : List (List ℕ)} (base : ℕ) (w r : List ℕ) → base ≤ 16 → digits base w ≡ true → fields r ≡ [] ∷ ws
    → fields (w ++ r) ≡ w ∷ ws
word_fields base [] r few e q = q
word_fields base (x ∷ w) r few e q =
    let (first, rest) = both (ltb (digit_of x) base) (digits base w) e in
    rw (digit_apart base x few first, word_fields base w r few rest q)

-- pairs as the grammar reads them
pub record ReadPairs (n : ℕ) (pairs : List (List ℕ)) (bytes : List ℕ) : Type 0 where
  pub apart : fields (behind pairs) ≡ [] ∷ pairs
  pub many : length pairs ≡ n
  pub right : all is_pair pairs ≡ true
  pub numbers : map (value hex) pairs ≡ bytes
  pub as_many : length bytes ≡ n

pub pairs_are : {n : ℕ} {pairs : List (List ℕ)} {bytes : List ℕ} → Pairs n pairs bytes → ReadPairs n pairs bytes
pairs_are none = record { apart = refl; many = refl; right = refl; numbers = refl; as_many = refl }
pairs_are (more {w = w} {ws = ws} p ps) =
    let r = number_is p in
    let rs = pairs_are ps in
    record {
      apart = rw (word_fields hex w (behind ws) (omega arith) r.right rs.apart);
      many = rw rs.many;
      right = rw (r.right, eq-eqb (length w) 2 r.long) rs.right;
      numbers = rw (r.number, rs.numbers);
      as_many = rw rs.as_many;
    }

pub pairs_of : (ws : List (List ℕ)) → all is_pair ws ≡ true → Pairs (length ws) ws (map (value hex) ws)
pairs_of [] e = none
pairs_of (w ∷ ws) e =
    let (pair, rest) = both (is_pair w) (all is_pair ws) e in
    let (right, long) = both (digits hex w) (eqb (length w) 2) pair in
    more (rw (eqb-true (length w) 2 long) at (number_of hex (omega arith) w right)) (pairs_of ws rest)
