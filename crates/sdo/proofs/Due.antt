-- The service in the order of the code is 01's list "First that applies".
use Prim.Native.Nat.{ℕ, ◌-◌, ◌/◌, ◌%◌, ◌<◌}
use native.Mathlib.Omega.{arith}
use native.Mathlib.Nat.{mod-lt}
use mathlib.Core.Path.{◌≡◌, refl, sym, ◌∙◌}
use mathlib.Core.Bool.{Bool, true, false, not, ◌&&◌, cond}
use mathlib.Core.List.{List}
use lib.Dec.{eqb, ltb}
use borrow.Author.Tests.{eqb-true, ne_eqb, le-ltb}
use Rattle.cases.proofs.Cases.{true_false}
use Rattle.entries.specs.declared.Device.{Device}
use Rattle.entries.specs.Table.{Found, key, width, is_rw, accepted, lookup}
use Rattle.std.specs.Prelude.{Ok as At, Err, None as Blank, Some as Number}
use Rattle.entries.specs.declared.table.NotFound.TheVariants.{NoSubIndex, NoIndex}
use Rattle.entries.proofs.Laws.{laws as entries-laws}
use Rattle.dictionary.specs.Shown.{Shown}
use Rattle.dictionary.specs.Reads.{shown}
use Rattle.dictionary.specs.Accepted.{accepts_in, is_signature, barred, abort_code}
use Rattle.dictionary.specs.Writes.{own_key}
use Rattle.dictionary.proofs.Laws.{laws}
use Rattle.dictionary.specs.AbortCodes.{invalid_value, wrong_signature, device_state}
use Rattle.sdo.specs.AbortCodes.{read_only, too_long, too_short, shown_code}
use Rattle.sdo.specs.Request.{byte, index_of, sub_of, data_of, aborting, reading, writing, taken_apart}
use Rattle.sdo.specs.Reply.{no_reply, confirmed, aborted, shown_reply}
use Rattle.sdo.specs.Service.{value, confirmation, abort, answer, is_blank, number_in, length_of, cut_to, due_of, due}
use Rattle.sdo.specs.Steps.{length_code, write_code, reply_to}

-- the code of a write by its six tests: rw, longer, shorter, accepted, signature, barred
abbrev code : Bool → Bool → Bool → Bool → Bool → Bool → ℕ
code rw long short accepted sign bar =
    cond rw
    (cond (eqb (cond long too_long (cond short too_short 0)) 0)
    (cond (not accepted) (cond sign wrong_signature invalid_value) (cond bar device_state 0))
    (cond long too_long (cond short too_short 0)))
    read_only

write_due_law : (f : List ℕ) (k v : ℕ) (rw long short accepted sign bar : Bool) →
    cond (eqb (code rw long short accepted sign bar) 0) (confirmed f (own_key k) v) (aborted f (code rw long short accepted sign bar))
    ≡ answer f
    (cond (not rw) (abort read_only)
    (cond long (abort too_long)
    (cond short (abort too_short)
    (cond (not accepted && sign) (abort wrong_signature)
    (cond (not accepted) (abort invalid_value)
    (cond bar (abort device_state)
    (confirmation k v)))))))
write_due_law f k v false long short accepted sign bar = refl
write_due_law f k v true true short accepted sign bar = refl
write_due_law f k v true false true accepted sign bar = refl
write_due_law f k v true false false false true bar = refl
write_due_law f k v true false false false false bar = refl
write_due_law f k v true false false true sign true = refl
write_due_law f k v true false false true sign false = refl

-- a length of 0 is the entry's
length_is : (t : Bool) (b w : ℕ) →
    length_code (cond t (4 - b % 4) 0) w ≡ cond (ltb w (cond t (4 - b % 4) w)) too_long (cond (ltb (cond t (4 - b % 4) w) w) too_short 0)
length_is true b w =
    let l : b % 4 < 4 = mod-lt b (omega arith) in
    rw (ne_eqb (4 - b % 4) 0 (λ e. omega arith))
length_is false b w = rw (le-ltb w w (omega arith))

read_due_law : (f : List ℕ) (w : ℕ) (x : Shown) → shown_reply f w x ≡ answer f (cond (is_blank x) (abort (shown_code Blank)) (value w (number_in x)))
read_due_law f w Blank = refl
read_due_law f w (Number n) = refl

-- the client's abort
pub none_due : (d : Device) (o : Bool) (f : List ℕ) → aborting f ≡ true → no_reply ≡ answer f (due d o f)
unfolding due
none_due d o f e = rw e

-- a request is not both
not_both : (t : ℕ) (b : Bool) → eqb t 2 ≡ true → (eqb t 1 && b) ≡ false
not_both t b e = rw (eqb-true t 2 e)

module _ (d : Device) (o : Bool) (f : List ℕ) (n : aborting f ≡ false) where
  by_found : (x : Found) (r w : Bool) → reading f ≡ r → writing f ≡ w → lookup (index_of f) (sub_of f) ≡ x
      → reply_to d o f (taken_apart f) ≡ answer f (due_of d o f x)
  unfolding write_code abort_code
  by_found x true true a b q = true_false (sym b ∙ not_both (byte f 0 / 32) _ a)
  by_found (Err NoIndex) true false a b q = rw (n, a, q)
  by_found (Err NoSubIndex) true false a b q = rw (n, a, q)
  by_found (At r) true false a b q = rw (n, a, b, q) (read_due_law f (width r) (shown d o r))
  by_found (Err NoIndex) false true a b q = rw (n, a, b, q)
  by_found (Err NoSubIndex) false true a b q = rw (n, a, b, q)
  by_found (At r) false true a b q =
      let w = width r in
      let v = cut_to w (data_of f) in
      let own = laws.alters r (((entries-laws.finds (index_of f) (sub_of f)).at r).0 q).0.0 in
      rw (n, a, b, q, own, length_is (eqb (byte f 0 % 2) 1) (byte f 0 / 4) w)
      (write_due_law f (key r) v (is_rw r) (ltb w (length_of f w)) (ltb (length_of f w) w)
      (accepts_in d r v) (is_signature (accepted r)) (barred d (key r) v))
  by_found x false false a b q = rw (n, a, b)

  pub reply_due_law : reply_to d o f (taken_apart f) ≡ answer f (due d o f)
  unfolding due
  reply_due_law = by_found (lookup (index_of f) (sub_of f)) _ _ refl refl refl
