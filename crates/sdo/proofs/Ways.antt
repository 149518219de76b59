-- All ways to a reply: what the request is and what is found decide what is due.
use Prim.Native.Nat.{ℕ, zero, suc, ◌/◌, ◌%◌, ◌<◌}
use native.Mathlib.Omega.{arith}
use native.Mathlib.Nat.{mod-lt}
use mathlib.Core.Path.{◌≡◌, refl, sym, subst, ◌∙◌}
use mathlib.Core.Logic.{◌⊎◌, inl, inr}
use mathlib.Core.Bool.{Bool, not, ◌&&◌, cond}
use mathlib.Core.List.{List, [], ◌∷◌}
use lib.Dec.{eqb, ltb}
use lib.ListN.{get_or}
use borrow.Author.Tests.{eqb-true, eqb-false, ne_eqb}
use Rattle.cases.specs.Cases.{first_of}
use Rattle.cases.proofs.Cases.{test}
use Rattle.entries.specs.declared.Device.{Device}
use Rattle.entries.specs.declared.table.Row.{Row}
use Rattle.entries.specs.Table.{Found, key, width, is_rw, accepted}
use Rattle.std.specs.Prelude.{Ok as At, Err}
use Rattle.entries.specs.declared.table.NotFound.TheVariants.{NoSubIndex, NoIndex}
use Rattle.dictionary.specs.Reads.{shown}
use Rattle.dictionary.specs.Accepted.{accepts_in, is_signature, barred}
use Rattle.sdo.specs.Request.{data_of}
use Rattle.sdo.specs.Service.{Due, none, value, confirmation, abort, is_blank, number_in, length_of, cut_to, due}
use Rattle.sdo.specs.Exactly.{Reads, Writes, ClientAborts, UnknownCommand, NoSuchIndex, NoSuchSubIndex, ReadsFrom, WritesTo}
use Rattle.sdo.proofs.Asked.{asked, finds, found}

-- a bit that is not 1
not_one : (n : ℕ) → (n ≡ 1 → ⊥) → n < 2 → n ≡ 0
not_one zero h l = refl
not_one (suc zero) h l = absurd (h refl)
not_one (suc (suc n)) h l = omega arith

module _ (d : Device) (o : Bool) (f : List ℕ) where
  -- what is due to a read, and to a write, of the entry of the row r
  abbrev pub read_due : Row → Due
  read_due r = cond (is_blank (shown d o r)) (abort 0x08000024) (value (width r) (number_in (shown d o r)))

  abbrev pub write_due : Row → ℕ → Due
  write_due r v =
      first_of (
      (not (is_rw r), abort 0x06010002) ∷
      (ltb (width r) (length_of f (width r)), abort 0x06070012) ∷
      (ltb (length_of f (width r)) (width r), abort 0x06070013) ∷
      (not (accepts_in d r v) && is_signature (accepted r), abort 0x08000020) ∷
      (not (accepts_in d r v), abort 0x06090030) ∷
      (barred d (key r) v, abort 0x08000022) ∷ [])
      (confirmation (key r) v)

  pub client : ClientAborts f → due d o f ≡ none
  unfolding due
  client h = rw h

  pub unknown : UnknownCommand f → due d o f ≡ abort 0x05040001
  unfolding due
  unknown (inl h) = rw (ne_eqb _ _ h.0, ne_eqb _ _ h.1, ne_eqb _ _ h.2)
  unknown (inr h) = rw (h.0, h.1)

  pub no_index : NoSuchIndex f → due d o f ≡ abort 0x06020000
  unfolding due
  no_index (inl r, h) = rw (r, found f ∙ (finds f).no_index.1 h)
  no_index (inr w, h) = rw (w.0, w.1, found f ∙ (finds f).no_index.1 h)

  pub no_sub_index : NoSuchSubIndex f → due d o f ≡ abort 0x06090011
  unfolding due
  no_sub_index (inl r, h) = rw (r, found f ∙ (finds f).no_sub_index.1 h)
  no_sub_index (inr w, h) = rw (w.0, w.1, found f ∙ (finds f).no_sub_index.1 h)

  pub reads : (r : Row) → ReadsFrom f r → due d o f ≡ read_due r
  unfolding due
  reads r h = rw (h.0, found f ∙ ((finds f).at r).1 h.1)

  pub writes : (r : Row) → WritesTo f r → due d o f ≡ write_due r (cut_to (width r) (data_of f))
  unfolding due
  writes r h = rw (h.0.0, h.0.1, found f ∙ ((finds f).at r).1 h.1)

  module _ (P : Due → Type 0) (aborts : ClientAborts f → P none) (unknowns : UnknownCommand f → P (abort 0x05040001))
      (no-indices : NoSuchIndex f → P (abort 0x06020000)) (no-sub-indices : NoSuchSubIndex f → P (abort 0x06090011))
      (read : (r : Row) → ReadsFrom f r → P (read_due r))
      (written : (r : Row) → WritesTo f r → P (write_due r (cut_to (width r) (data_of f)))) where
    by_found : Reads f ⊎ Writes f → (x : Found) → asked f ≡ x → P (due d o f)
    by_found k (Err NoIndex) e = let h : NoSuchIndex f = (k, (finds f).no_index.0 e) in subst P (sym (no_index h)) (no-indices h)
    by_found k (Err NoSubIndex) e =
        let h : NoSuchSubIndex f = (k, (finds f).no_sub_index.0 e) in subst P (sym (no_sub_index h)) (no-sub-indices h)
    by_found (inl a) (At r) e = let h : ReadsFrom f r = (a, ((finds f).at r).0 e) in subst P (sym (reads r h)) (read r h)
    by_found (inr a) (At r) e = let h : WritesTo f r = (a, ((finds f).at r).0 e) in subst P (sym (writes r h)) (written r h)

    -- a property of the end of each way is a property of what is due
    pub each_way : P (due d o f)
    each_way =
        let top = get_or f 0 0 / 32 in
        let bit1 = get_or f 0 0 / 2 % 2 in
        let asks : Reads f ⊎ Writes f → P (due d o f) = λ k. by_found k (asked f) refl in
        let stops : UnknownCommand f → P (due d o f) = λ h. subst P (sym (unknown h)) (unknowns h) in
        test (eqb top 4) (λ e. let h = eqb-true top 4 e in subst P (sym (client h)) (aborts h)) (λ four.
        test (eqb top 2) (λ e. asks (inl (eqb-true top 2 e))) (λ two.
        test (eqb top 1)
        (λ e. let one = eqb-true top 1 e in
        test (eqb bit1 1) (λ t. asks (inr (one, eqb-true bit1 1 t)))
        (λ t. stops (inr (one, not_one bit1 (eqb-false bit1 1 t) (mod-lt (get_or f 0 0 / 2) (omega arith))))))
        (λ one. stops (inl (eqb-false top 1 one, eqb-false top 2 two, eqb-false top 4 four)))))
