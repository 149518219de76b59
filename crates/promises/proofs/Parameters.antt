-- Proves `Parameters` of specs/Parameters.antt.
use Prim.Native.Nat.{ℕ, ◌/◌, ◌%◌, ◌<◌, ◌≤◌}
use native.Mathlib.Omega.{arith}
use mathlib.Core.Path.{◌≡◌, refl}
use mathlib.Core.Logic.{◌↔◌}
use mathlib.Core.Bool.{true}
use borrow.Author.Tests.{eqb-false, ne_eqb, not-true}
use Rattle.entries.specs.Table.{table, lookup}
use Rattle.dictionary.specs.Accepted.{on}
use Rattle.dictionary.specs.Reads.{shown}
use Rattle.dictionary.proofs.Laws.{shows}
use Rattle.parts.specs.declared.Head.{Head}
use Rattle.promises.specs.States.{operational, is_in, communication, PdoNumber, one, two, pdo}
use Rattle.promises.specs.Parameters.{parameters, Reads, Parameters}

pdo_read : (h : Head) (w : PdoNumber) → let p = pdo (communication h.core) w in
    Reads h (parameters w) 1 p.identifier × Reads h (parameters w) 2 p.transmission × Reads h (parameters w) 5 p.event
unfolding table lookup shown
pdo_read h one =
    let d = h.core.device in
    let o = is_in operational h.core in
    (shows d o 0x1800 1 refl refl, shows d o 0x1800 2 refl refl, shows d o 0x1800 5 refl refl)
pdo_read h two =
    let d = h.core.device in
    let o = is_in operational h.core in
    (shows d o 0x1801 1 refl refl, shows d o 0x1801 2 refl refl, shows d o 0x1801 5 refl refl)

switched_on_law : (v : ℕ) → v ≤ 0xFFFFFFFF → (on v ≡ true) ↔ (v < 0x80000000)
switched_on_law v few = (
  λ e. let clear = eqb-false (v / 0x80000000 % 2) 1 (not-true _ e) in omega (arith, clear, few),
  λ l. rw (ne_eqb (v / 0x80000000 % 2) 1 (λ e. omega (arith, e, l))),
)

pub parameters_read : (h : Head) → Parameters h
unfolding table lookup shown
parameters_read h =
    let d = h.core.device in
    let o = is_in operational h.core in
    record {
      emergency = shows d o 0x1014 0 refl refl;
      inhibit = shows d o 0x1015 0 refl refl;
      heartbeat = shows d o 0x1017 0 refl refl;
      identifier = λ w. (pdo_read h w).0;
      transmission = λ w. (pdo_read h w).1;
      event = λ w. (pdo_read h w).2;
      cycle = shows d o 0x6200 0 refl refl;
      operating = shows d o 0x6000 0 refl refl;
      range = shows d o 0x6002 0 refl refl;
      preset = shows d o 0x6003 0 refl refl;
      step = shows d o 0x6005 1 refl refl;
      offset = shows d o 0x6509 0 refl refl;
      switched_on_law = switched_on_law;
    }
