-- A PDO's clock stays valid: each count is below its period after a tick, after a SYNC and after a write of the period.
use Prim.Native.Nat.{ℕ, suc}
use lib.Dec.{eqb, ltb}
use mathlib.Core.Path.{◌≡◌, refl, sym, ap, ◌∙◌}
use mathlib.Core.Bool.{Bool, true, false, not, ◌&&◌, ◌||◌, and-true, cond}
use mathlib.Core.Logic.{inl, inr}
use borrow.Author.Tests.{ltb-true}
use Rattle.cases.proofs.Cases.{by, neither, true_false}
use Rattle.entries.specs.declared.Pdo.{Pdo}
use Rattle.entries.specs.Table.{key_of}
use Rattle.dictionary.specs.Accepted.{on, pdo_barred}
use Rattle.dictionary.specs.Writes.{pdo_after}
use Rattle.parts.specs.declared.Clock.{Clock}
use Rattle.promises.specs.States.{uncounted}
use Rattle.promises.specs.Timers.{counted, synchronous, clock_synced, if_running, switched_on, clock_written}
use Rattle.promises.specs.Valid.{Below, ValidClock}

pub below_counted : (n count : ℕ) → Below n (counted n count)
below_counted n count = by (Below n) (ltb (suc count) n) (λ e. inr (ltb-true _ _ e)) (λ _. inl refl)

pub uncounted_valid : (p : Pdo) → ValidClock p uncounted
uncounted_valid p = record { ticks = inl refl; syncs = λ _. inl refl }

-- a write to sub 5 restarts the ticks, and so does switching on
restarted : (sub5 switched : Bool) (n old count : ℕ) → Below old count → Below (cond sub5 n old) (cond (sub5 || switched) 0 count)
restarted true switched n old count h = inl refl
restarted false true n old count h = inl refl
restarted false false n old count h = h

pub was_on : (before after : Bool) → after ≡ true → (not before && after) ≡ false → before ≡ true
was_on true after o e = refl
was_on false after o e = true_false (sym o ∙ e)

-- while a PDO is on its type cannot be written
pub type_kept : (index : ℕ) (p : Pdo) (key n : ℕ) → pdo_barred index p key n ≡ false → on p.identifier ≡ true
    → eqb key (key_of index 2) ≡ false
type_kept index p key n free was =
    let held = p.identifier in
    let sub2 = eqb key (key_of index 2) in
    let unwritten = (neither (eqb key (key_of index 1) && on held && on n && not (eqb n held)) (sub2 && on held) free).1 in
    sym (and-true sub2) ∙ ap (λ t. sub2 && t) (sym was) ∙ unwritten

module _ {p : Pdo} {k : Clock} (v : ValidClock p k) where
  pub ticked_valid : (runs : Bool) → ValidClock p (if_running runs p k)
  ticked_valid runs = by (ValidClock p) runs (λ _. record { ticks = below_counted _ _; syncs = v.syncs }) (λ _. v)

  pub synced_valid : ValidClock p (clock_synced p k)
  synced_valid =
      record {
        ticks = v.ticks;
        syncs = λ o. by (Below p.transmission) (on p.identifier && synchronous p) (λ _. below_counted _ _) (λ _. v.syncs o);
      }

  -- A PDO that is on after a write and was not switched on by it was on before: then its type was not written.
  pub written_valid : (index key n : ℕ) → pdo_barred index p key n ≡ false
      → let after = pdo_after index p key n in ValidClock after (clock_written (eqb key (key_of index 5)) p after k)
  written_valid index key n free =
      let after = pdo_after index p key n in
      record {
        ticks = restarted (eqb key (key_of index 5)) (switched_on p after) n p.event k.ticks v.ticks;
        syncs = λ o. by (Below after.transmission) (switched_on p after) (λ _. inl refl)
            (λ e.
            let was = was_on (on p.identifier) (on after.identifier) o e in
            rw (type_kept index p key n free was) (v.syncs was));
      }
