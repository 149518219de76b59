-- The arrays of the three names. Assumes nothing.
use Prim.Native.Nat.{ℕ}
use mathlib.Core.Path.{◌≡◌}
use lib.Dec.{eqb}
use lib.ListN.{length}
use Rattle.cases.proofs.Cases.{by}
use Rattle.names.specs.declared.Name.{Name}
use Rattle.entries.specs.declared.Identity.{Identity}
use Rattle.entries.specs.Identity.{name_of}

-- a property of each name is one of the name of each number
pub each_name : (P : Name → Type 0) (i : Identity) (k : ℕ) → P i.name × P i.hardware × P i.software → P (name_of i k)
each_name P i k h = by P (eqb k 1) (λ _. h.0) (λ _. by P (eqb k 2) (λ _. h.1) (λ _. h.2))

pub arrays_are : (i : Identity) (k : ℕ)
    → (length i.name.bytes ≡ 32) × (length i.hardware.bytes ≡ 32) × (length i.software.bytes ≡ 32)
    → length (name_of i k).bytes ≡ 32
arrays_are i k h = each_name (λ n. length n.bytes ≡ 32) i k h
