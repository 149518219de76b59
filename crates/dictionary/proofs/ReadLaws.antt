-- Proves `ReadLaws` of specs/ReadLaws.antt: each law by the entry that is found. Assumes nothing.
use Prim.Native.Nat.{ℕ, zero, suc, ◌-◌, ◌≤◌, ◌<◌}
use native.Mathlib.Nat.{add-zero}
use native.Mathlib.Omega.{arith}
use mathlib.Core.Path.{◌≡◌, refl}
use mathlib.Core.Bool.{Bool}
use lib.IntN.{negsuc}
use borrow.Author.Tests.{lt-ltb, le-ltb}
use Rattle.entries.specs.declared.Device.{Device}
use Rattle.entries.specs.Table.{table, lookup}
use Rattle.std.specs.Prelude.{None as Blank, Some as Number}
use Rattle.dictionary.specs.Reads.{shown}
use Rattle.dictionary.specs.Laws.{Shows}
use Rattle.dictionary.specs.ReadLaws.{numbers, ShowEach, ReadLaws}
use Rattle.dictionary.proofs.Tested.{◌▸◌}
use Rattle.dictionary.proofs.Laws.{shows}

module _ (d : Device) (o : Bool) where
  plain : ShowEach d o (numbers d)
  unfolding table lookup shown
  plain =
      shows d o 0x1000 0 refl refl
      ▸ shows d o 0x1003 0 refl refl
      ▸ shows d o 0x1005 0 refl refl
      ▸ shows d o 0x1008 0 refl refl
      ▸ shows d o 0x1009 0 refl refl
      ▸ shows d o 0x100A 0 refl refl
      ▸ shows d o 0x1010 0 refl refl
      ▸ shows d o 0x1010 1 refl refl
      ▸ shows d o 0x1011 0 refl refl
      ▸ shows d o 0x1011 1 refl refl
      ▸ shows d o 0x1014 0 refl refl
      ▸ shows d o 0x1015 0 refl refl
      ▸ shows d o 0x1017 0 refl refl
      ▸ shows d o 0x1018 0 refl refl
      ▸ shows d o 0x1018 1 refl refl
      ▸ shows d o 0x1018 2 refl refl
      ▸ shows d o 0x1018 3 refl refl
      ▸ shows d o 0x1018 4 refl refl
      ▸ shows d o 0x1800 0 refl refl
      ▸ shows d o 0x1800 1 refl refl
      ▸ shows d o 0x1800 2 refl refl
      ▸ shows d o 0x1800 5 refl refl
      ▸ shows d o 0x1801 0 refl refl
      ▸ shows d o 0x1801 1 refl refl
      ▸ shows d o 0x1801 2 refl refl
      ▸ shows d o 0x1801 5 refl refl
      ▸ shows d o 0x1A00 0 refl refl
      ▸ shows d o 0x1A00 1 refl refl
      ▸ shows d o 0x1A01 0 refl refl
      ▸ shows d o 0x1A01 1 refl refl
      ▸ shows d o 0x6000 0 refl refl
      ▸ shows d o 0x6002 0 refl refl
      ▸ shows d o 0x6003 0 refl refl
      ▸ shows d o 0x6005 0 refl refl
      ▸ shows d o 0x6005 1 refl refl
      ▸ shows d o 0x6200 0 refl refl
      ▸ shows d o 0x6501 0 refl refl
      ▸ shows d o 0x6504 0 refl refl
      ▸ tt

  counted : (k : ℕ) → 1 ≤ k → k ≤ 4 → k ≤ d.errors → Shows d o 0x1003 k (Number 0x5000)
  unfolding table lookup shown
  counted zero l h e = absurd (omega arith)
  counted (suc zero) l h e = rw (le-ltb d.errors 1 e)
  counted (suc (suc zero)) l h e = rw (le-ltb d.errors 2 e)
  counted (suc (suc (suc zero))) l h e = rw (le-ltb d.errors 3 e)
  counted (suc (suc (suc (suc zero)))) l h e = rw (le-ltb d.errors 4 e)
  counted (suc (suc (suc (suc (suc k))))) l h e = absurd (omega arith)

  beyond : (k : ℕ) → 1 ≤ k → k ≤ 4 → d.errors < k → Shows d o 0x1003 k Blank
  unfolding table lookup shown
  beyond zero l h e = absurd (omega arith)
  beyond (suc zero) l h e = rw (lt-ltb d.errors 1 e)
  beyond (suc (suc zero)) l h e = rw (lt-ltb d.errors 2 e)
  beyond (suc (suc (suc zero))) l h e = rw (lt-ltb d.errors 3 e)
  beyond (suc (suc (suc (suc zero)))) l h e = rw (lt-ltb d.errors 4 e)
  beyond (suc (suc (suc (suc (suc k))))) l h e = absurd (omega arith)

  offset_negative : (n : ℕ) → d.settings.profile.offset ≡ negsuc n → Shows d o 0x6509 0 (Number (0x100000000 - suc n))
  unfolding table lookup shown
  offset_negative n e = let same : 0xFFFFFFFF - n ≡ 0x100000000 - suc n = omega arith in rw (e, same)

pub read_laws : ReadLaws
unfolding table lookup shown
read_laws d o =
    record {
      stands = λ i j r e. shows d o i j e refl;
      plain = plain d o;
      missing = λ e. rw e (refl, refl, refl);
      good = λ e. rw e (refl, refl, refl);
      counted = counted d o;
      beyond = beyond d o;
      status = λ e. rw (e, add-zero);
      status_operational = λ e. rw e;
      offset = λ n e. rw e;
      offset_negative = offset_negative d o;
    }
