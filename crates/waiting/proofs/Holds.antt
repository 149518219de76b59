-- A change to the places is the same change to the line that they hold. Assumes nothing.
use Prim.Native.Nat.{ℕ, zero, suc, ◌<◌, ◌≤◌}
use mathlib.Core.Path.{◌≡◌, refl, ap}
use mathlib.Core.Bool.{Bool, true, false}
use mathlib.Core.List.{List, [], ◌∷◌}
use native.Mathlib.Nat.{not-suc-le-zero}
use native.Mathlib.Omega.{arith}
use lib.Dec.{eqb}
use lib.ListN.{length, drop}
use borrow.Author.Tests.{eq-eqb, ne_eqb}
use Rattle.cases.specs.Padded.{pad}
use Rattle.cases.proofs.Cases.{by, by₂}
use Rattle.cases.proofs.Shared.{shared}
use Rattle.waiting.specs.Line.{has, Kinds, join, withdraw, first}
use Rattle.waiting.specs.Places.{join_in, withdraw_in, taken_in, waiting, Holds}
use Rattle.waiting.specs.Calls.{withdraws, joins, after, withdraws_in, joins_in, after_in, Named, none, more}
use Rattle.waiting.proofs.Room.{withdraw_none, kinds_withdraw, kinds_join, room}

join_pad : (n m k : ℕ) (ws : List ℕ) → Kinds n ws → join_in (pad m ws) k ≡ pad m (join ws k)
join_pad n zero k ws h = refl
join_pad n (suc m) k [] h = refl
join_pad n (suc m) k (x ∷ xs) h =
    let z : x ≡ 0 → ⊥ = λ e. omega (arith, h.0) in
    simp (ne_eqb _ _ z)
    (by₂ (λ (q r : List ℕ). q ≡ pad (suc m) r) (eqb x k)
    (λ e. refl)
    (λ e. ap {B = List ℕ} (λ r. x ∷ r) (join_pad n m k xs h.3)))

withdraw_pad : (N m k : ℕ) (ws : List ℕ) → length ws ≤ m → pad N (withdraw (pad m ws) k) ≡ pad N (withdraw ws k)
withdraw_pad N zero k [] h = refl
withdraw_pad N zero k (x ∷ xs) h = absurd (not-suc-le-zero h)
withdraw_pad zero (suc m) k ws h = refl
withdraw_pad (suc N) (suc m) k [] h =
    by (λ (r : List ℕ). pad (suc N) r ≡ pad (suc N) []) (eqb 0 k)
    (λ e. withdraw_pad (suc N) m k [] (omega arith))
    (λ e. ap {B = List ℕ} (λ r. 0 ∷ r) (withdraw_pad N m k [] (omega arith)))
withdraw_pad (suc N) (suc m) k (x ∷ xs) h =
    by₂ (λ (q r : List ℕ). pad (suc N) q ≡ pad (suc N) r) (eqb x k)
    (λ e. withdraw_pad (suc N) m k xs (omega arith))
    (λ e. ap {B = List ℕ} (λ r. x ∷ r) (withdraw_pad N m k xs (omega arith)))

waiting_pad : (n m : ℕ) (ws : List ℕ) → Kinds n ws → length ws ≤ m → waiting (pad m ws) ≡ ws
waiting_pad n zero [] h r = refl
waiting_pad n zero (x ∷ xs) h r = absurd (not-suc-le-zero r)
waiting_pad n (suc m) [] h r = waiting_pad n m [] h (omega arith)
waiting_pad n (suc m) (x ∷ xs) h r =
    let z : x ≡ 0 → ⊥ = λ e. omega (arith, h.0) in
    simp (ne_eqb _ _ z) (ap {B = List ℕ} (λ r. x ∷ r) (waiting_pad n m xs h.3 (omega arith)))

has_pad : (m k : ℕ) (ws : List ℕ) → 0 < k → length ws ≤ m → has k (pad m ws) ≡ has k ws
has_pad zero k [] pos r = refl
has_pad zero k (x ∷ xs) pos r = absurd (not-suc-le-zero r)
has_pad (suc m) k [] pos r =
    let z : 0 ≡ k → ⊥ = λ e. omega arith in simp (ne_eqb _ _ z) (has_pad m k [] pos (omega arith))
has_pad (suc m) k (x ∷ xs) pos r = rw (has_pad m k xs pos (omega arith))

first_pad : (m : ℕ) (ws : List ℕ) → length ws ≤ m → first (pad m ws) ≡ first ws
first_pad zero [] r = refl
first_pad zero (x ∷ xs) r = absurd (not-suc-le-zero r)
first_pad (suc m) [] r = refl
first_pad (suc m) (x ∷ xs) r = refl

first_none : (n : ℕ) (ws : List ℕ) → Kinds n ws → first ws ≡ 0 → ws ≡ []
first_none n [] h e = refl
first_none n (x ∷ xs) h e = absurd (omega (arith, h.0))

withdraw_first : (n : ℕ) (ws : List ℕ) → Kinds n ws → withdraw ws (first ws) ≡ drop 1 ws
withdraw_first n [] h = refl
withdraw_first n (x ∷ xs) h = simp (eq-eqb x x refl) (withdraw_none x xs h.2)

pub holds_none : (n : ℕ) → Holds n (pad n []) []
holds_none n = record { shape = refl; kinds = tt }

module _ {n : ℕ} {l ws : List ℕ} (h : Holds n l ws) where
  fits : length ws ≤ n
  fits = room n ws h.kinds

  pub holds_waiting : waiting l ≡ ws
  holds_waiting = rw h.shape (waiting_pad n n ws h.kinds fits)

  pub holds_has : (k : ℕ) → 0 < k → has k l ≡ has k ws
  holds_has k pos = rw h.shape (has_pad n k ws pos fits)

  pub holds_first : first l ≡ first ws
  holds_first = rw h.shape (first_pad n ws fits)

  pub holds_idle : first l ≡ 0 → ws ≡ []
  holds_idle e = first_none n ws h.kinds (rw holds_first at e)

  pub holds_join : (k : ℕ) → 0 < k → k ≤ n → Holds n (join_in l k) (join ws k)
  holds_join k pos top =
      record { shape = rw h.shape (join_pad n n k ws h.kinds); kinds = kinds_join n k ws pos top h.kinds }

  pub holds_withdraw : (k : ℕ) → Holds n (withdraw_in l k) (withdraw ws k)
  holds_withdraw k =
      record { shape = rw (h.shape, shared.long n ws) (withdraw_pad n n k ws fits); kinds = kinds_withdraw n k ws h.kinds }

pub holds_taken : {n : ℕ} {l ws : List ℕ} → Holds n l ws → Holds n (taken_in l) (drop 1 ws)
holds_taken {n} {l} {ws} h = rw (holds_first h, ← withdraw_first n ws h.kinds) (holds_withdraw h (first ws))

pub holds_withdraws : {n : ℕ} {l ws : List ℕ} (ks : List ℕ) → Holds n l ws → Holds n (withdraws_in l ks) (withdraws ws ks)
holds_withdraws [] h = h
holds_withdraws {l = l} (k ∷ ks) h = holds_withdraws {l = withdraw_in l k} ks (holds_withdraw h k)

holds_joins : {n : ℕ} {l ws ks : List ℕ} → Named n ks → Holds n l ws → Holds n (joins_in l ks) (joins ws ks)
holds_joins none h = h
holds_joins {l = l} (more {k = k} pos top m) h = holds_joins {l = join_in l k} m (holds_join h k pos top)

pub holds_after : {n : ℕ} {l ws : List ℕ} (slot : Bool) (out into : List ℕ) → Named n into → Holds n l ws
    → Holds n (after_in slot out into l) (after slot out into ws)
holds_after true out into m h = holds_joins m (holds_withdraws out (holds_taken h))
holds_after false out into m h = holds_joins m (holds_withdraws out h)
