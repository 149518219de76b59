-- A request taken apart, by its first byte.
use Prim.Native.Nat.{ℕ, ◌/◌}
use mathlib.Core.Path.{◌≡◌, sym, ap, ◌∙◌}
use mathlib.Core.Logic.{◌⊎◌, inl, inr}
use mathlib.Core.Bool.{true, false}
use mathlib.Core.List.{List}
use native.Mathlib.Omega.{arith}
use lib.Dec.{eqb}
use lib.ListN.{get_or}
use borrow.Author.Tests.{eqb-true, eqb-false, ne_eqb}
use Rattle.cases.proofs.Cases.{test, true_false, both}
use Rattle.can.specs.Number.{number}
use Rattle.sdo.specs.declared.request.Access.TheVariants.{Read, Write}
use Rattle.sdo.specs.declared.request.Ask.{Ask}
use Rattle.sdo.specs.Request.{Request, access_top, reading, writing, said_length, taken_apart}
use Rattle.std.specs.Prelude.{Some as Asked, None as UnknownCommand}
use Rattle.sdo.specs.AbortCodes.{request_code}
use Rattle.sdo.specs.Exactly.{Reads, Writes, first_data}
use Rattle.sdo.specs.Taken.{asks, Taken}
use Rattle.sdo.proofs.Asked.{index_is}

abbrev top_of : Request → ℕ
top_of (Asked a) = access_top a.access
top_of UnknownCommand = 0

module _ (f : List ℕ) where
  writes : writing f ≡ true → Writes f
  writes e = let b = both (eqb (get_or f 0 0 / 32) 1) _ e in (eqb-true _ _ b.0, eqb-true _ _ b.1)

  writes_not : writing f ≡ false → Writes f → ⊥
  writes_not e h = true_false (sym (rw (h.0, h.1)) ∙ e)

  one_of : {P : Type 0} → (Reads f → P) → (Writes f → P) → ((Reads f → ⊥) → (Writes f → ⊥) → P) → P
  one_of r w n =
      test (reading f) (λ e. r (eqb-true _ _ e)) (λ two.
      test (writing f) (λ e. w (writes e)) (λ one. n (eqb-false _ _ two) (writes_not one)))

  read : Reads f → taken_apart f ≡ asks f Read
  read h = rw (h, index_is f)

  write : Writes f → taken_apart f ≡ asks f (Write (said_length (get_or f 0 0)) (number (first_data 4 f)))
  write h = rw (h.0, h.1, index_is f)

  neither : (Reads f → ⊥) → (Writes f → ⊥) → taken_apart f ≡ UnknownCommand
  neither r w = rw (ne_eqb _ _ r, test {P = writing f ≡ false} (writing f) (λ e. absurd (w (writes e))) (λ e. e))

  top_bits : (a : Ask) → taken_apart f ≡ Asked a → get_or f 0 0 / 32 ≡ access_top a.access
  top_bits a e =
      one_of (λ h. h ∙ ap top_of (sym (read h) ∙ e)) (λ h. h.0 ∙ ap top_of (sym (write h) ∙ e))
      (λ r w. let z = ap request_code (sym (neither r w) ∙ e) in omega arith)

  known : Reads f ⊎ Writes f → request_code (taken_apart f) ≡ 0
  known (inl h) = ap request_code (read h)
  known (inr h) = ap request_code (write h)

  pub taken : Taken f
  taken =
      record {
        read = read;
        write_said = λ h e. write h ∙ rw e;
        write_unsaid = λ h e. write h ∙ rw e;
        neither = neither;
        top_bits = top_bits;
        aborts = (λ e. one_of inl inr (λ r w. let z = ap request_code (neither r w) in absurd (omega arith)), known);
      }
