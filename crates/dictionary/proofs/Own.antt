-- The name of what a write alters is the key of the written entry, but for 6200-0. By cases of that key. Assumes nothing.
use Prim.Native.Nat.{ℕ}
use mathlib.Core.Path.{◌≡◌, refl, sym, ◌∙◌}
use mathlib.Core.Bool.{false}
use lib.Dec.{eqb}
use borrow.Author.Tests.{eqb-true, eq-eqb}
use Rattle.cases.proofs.Cases.{test}
use Rattle.entries.specs.Keys.{cycle_key, event_key_of, tpdo1, preset_key}
use Rattle.position.specs.declared.Profile.{Profile}
use Rattle.dictionary.specs.Writes.{own_key, profile_after}

-- of any other entry it is that key
pub own_other : (k a : ℕ) → eqb cycle_key a ≡ false → eqb (event_key_of tpdo1) a ≡ false → eqb (own_key k) a ≡ eqb k a
own_other k a m n = test (eqb k cycle_key) (λ e. rw (e, eqb-true k cycle_key e, m, n)) (λ e. rw e)

-- 6200-0 names no setting of the profile
pub own_profile : (p : Profile) (r k v : ℕ) → profile_after p r (own_key k) v ≡ profile_after p r k v
own_profile p r k v = test (eqb k cycle_key) (λ e. rw (eqb-true k cycle_key e)) (λ e. rw e)

pub own_preset : (k : ℕ) → own_key k ≡ preset_key → k ≡ preset_key
own_preset k e = eqb-true k preset_key (sym (own_other k preset_key refl refl) ∙ eq-eqb (own_key k) preset_key e)
