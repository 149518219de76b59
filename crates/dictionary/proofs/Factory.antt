-- The factory settings are valid: their numbers are within the bounds. Assumes nothing.
use Prim.Native.Nat.{ℕ, ◌+◌, ◌/◌, ◌%◌, ◌≤◌}
use native.Mathlib.Omega.{arith}
use native.Mathlib.Nat.{mod-eq_of_lt, div-eq_of_lt}
use mathlib.Core.Path.{◌≡◌, refl}
use mathlib.Core.Bool.{true}
use borrow.Author.Tests.{le-leb, eq-eqb}
use Rattle.position.proofs.Worked.{worked}
use Rattle.entries.specs.Settings.{factory}
use Rattle.dictionary.specs.Accepted.{pdo_identifier}
use Rattle.dictionary.specs.Valid.{ValidSettings}

between : (i : ℕ) → 0x181 ≤ i → i ≤ 0x57F → pdo_identifier i ≡ true
between i l h =
    let low : i % 0x80000000 ≡ i = mod-eq_of_lt (omega arith) in
    let none : i / 0x800 ≡ 0 = div-eq_of_lt (omega arith) in
    let clear : i / 0x80000000 ≡ 0 = div-eq_of_lt (omega arith) in
    rw (low, none, clear, le-leb 0x181 i l, le-leb i 0x57F h)

pub factory_valid : (n : ℕ) → 1 ≤ n → n ≤ 127 → ValidSettings n (factory n)
factory_valid n l h =
    record {
      communication = record {
        emergency = let m : (0x80 + n) % 0x80000000 ≡ 0x80 + n = mod-eq_of_lt (omega arith) in eq-eqb _ _ m;
        emergency_fits = omega arith;
        inhibit = omega arith;
        heartbeat = omega arith;
        pdo1 = record {
          identifier = between (0x180 + n) (omega arith) (omega arith);
          identifier_fits = omega arith;
          transmission = refl;
          event = omega arith;
        };
        pdo2 = record {
          identifier = between (0x280 + n) (omega arith) (omega arith);
          identifier_fits = omega arith;
          transmission = refl;
          event = omega arith;
        };
      };
      profile = worked.factory_valid;
    }
