-- Every entry fits its type: one fact for each row of the table, in its order. Assumes nothing.
use Prim.Native.Nat.{ℕ, ◌+◌, ◌^◌, ◌≤◌, ◌<◌}
use native.Mathlib.Omega.{arith}
use mathlib.Core.Path.{◌≡◌, refl}
use mathlib.Core.Bool.{Bool, true, ◌&&◌, cond}
use lib.Dec.{T, leb, ltb, lit<}
use lib.IntN.{ℤ, pos, negsuc, nat_abs}
use borrow.Author.Tests.{leb-true}
use Rattle.cases.specs.Tests.{within}
use Rattle.cases.proofs.Cases.{by, both, either, Each, ◌▸◌, end}
use Rattle.can.specs.Signed.{twos}
use Rattle.position.specs.declared.Profile.{Profile}
use Rattle.position.specs.Position.{position}
use Rattle.position.specs.Profile.{ValidProfile}
use Rattle.position.proofs.Laws.{laws}
use Rattle.names.specs.declared.Name.{Name}
use Rattle.names.specs.Name.{is_name}
use Rattle.entries.specs.declared.Device.{Device}
use Rattle.entries.specs.declared.Identity.{Identity}
use Rattle.entries.specs.declared.table.Row.{Row}
use Rattle.entries.specs.Table.{missing, table, width, source, number_of}
use Rattle.entries.specs.Laws.{Listed}
use Rattle.dictionary.specs.Accepted.{transmission_type}
use Rattle.dictionary.specs.Valid.{ValidIdentity, ValidDevice}
use Rattle.dictionary.specs.AcceptedLaws.{those}
use Rattle.dictionary.proofs.Those.{of_each}

at_most_law : {n b c : ℕ} → n ≤ b → T (ltb b c) → n < c
at_most_law {n} {b} {c} h t = omega (arith, lit< {m = b} {n = c} t)

transmission_most : (v : ℕ) → transmission_type v ≡ true → v ≤ 255
transmission_most v a =
    either (within 1 240 v) (within 254 255 v) a
    (λ e. omega (arith, leb-true v 240 (both (leb 1 v) (leb v 240) e).1))
    (λ e. leb-true v 255 (both (leb 254 v) (leb v 255) e).1)

name_most : (n : Name) → is_name n ≡ true → n.length ≤ 32
name_most n e = leb-true n.length 32 (both (leb 1 n.length) (leb n.length 32) e).1

names_most : {i : Identity} → ValidIdentity i → (i.name.length ≤ 32) × (i.hardware.length ≤ 32) × (i.software.length ≤ 32)
names_most {i} v =
    let l = both (is_name i.name && is_name i.hardware) (is_name i.software) v.named in
    let k = both (is_name i.name) (is_name i.hardware) l.0 in
    (name_most i.name k.0, name_most i.hardware k.1, name_most i.software l.1)

twos_below : (z : ℤ) → nat_abs z < 0x100000000 → twos z < 0x100000000
twos_below (pos n) h = h
twos_below (negsuc n) h = omega arith

module _ {p : Profile} (h : ValidProfile p) where
  operating_below : p.operating < 0x10000
  operating_below = omega arith

  preset_below : p.preset < 0x100000000
  preset_below = omega arith

  position_below : (r : ℕ) → position p r < 0x100000000
  position_below r = let b = (laws.positions p r h).below in omega arith

  status_below : (o : Bool) → p.operating + cond o 0x8000 0 < 0x10000
  status_below o = by (λ n. p.operating + n < 0x10000) o (λ _. omega arith) (λ _. omega arith)

  offset_below : twos p.offset < 0x100000000
  offset_below = twos_below p.offset (omega arith)

Typed : Row → Type 0
Typed r = (d : Device) (o : Bool) → ValidDevice d → number_of (source r) d o < 256 ^ width r

each : Each Typed (those (λ r. true) table)
unfolding Typed table
each =
    (λ d o h. lit< tt)
    ▸ (λ d o h. by (λ n. n < 256) (missing d) (λ _. lit< tt) (λ _. lit< tt))
    ▸ (λ d o h. at_most_law h.errors tt)
    ▸ (λ d o h. lit< tt)
    ▸ (λ d o h. lit< tt)
    ▸ (λ d o h. lit< tt)
    ▸ (λ d o h. lit< tt)
    ▸ (λ d o h. lit< tt)
    ▸ (λ d o h. at_most_law (names_most h.identity).0 tt)
    ▸ (λ d o h. at_most_law (names_most h.identity).1 tt)
    ▸ (λ d o h. at_most_law (names_most h.identity).2 tt)
    ▸ (λ d o h. lit< tt)
    ▸ (λ d o h. lit< tt)
    ▸ (λ d o h. lit< tt)
    ▸ (λ d o h. lit< tt)
    ▸ (λ d o h. at_most_law h.settings.communication.emergency_fits tt)
    ▸ (λ d o h. at_most_law h.settings.communication.inhibit tt)
    ▸ (λ d o h. at_most_law h.settings.communication.heartbeat tt)
    ▸ (λ d o h. lit< tt)
    ▸ (λ d o h. at_most_law h.identity.fits.vendor tt)
    ▸ (λ d o h. at_most_law h.identity.fits.product tt)
    ▸ (λ d o h. at_most_law h.identity.fits.revision tt)
    ▸ (λ d o h. at_most_law h.identity.fits.serial tt)
    ▸ (λ d o h. lit< tt)
    ▸ (λ d o h. at_most_law h.settings.communication.pdo1.identifier_fits tt)
    ▸ (λ d o h. at_most_law (transmission_most _ h.settings.communication.pdo1.transmission) tt)
    ▸ (λ d o h. at_most_law h.settings.communication.pdo1.event tt)
    ▸ (λ d o h. lit< tt)
    ▸ (λ d o h. at_most_law h.settings.communication.pdo2.identifier_fits tt)
    ▸ (λ d o h. at_most_law (transmission_most _ h.settings.communication.pdo2.transmission) tt)
    ▸ (λ d o h. at_most_law h.settings.communication.pdo2.event tt)
    ▸ (λ d o h. lit< tt)
    ▸ (λ d o h. lit< tt)
    ▸ (λ d o h. lit< tt)
    ▸ (λ d o h. lit< tt)
    ▸ (λ d o h. operating_below h.settings.profile)
    ▸ (λ d o h. at_most_law h.settings.profile.high tt)
    ▸ (λ d o h. preset_below h.settings.profile)
    ▸ (λ d o h. position_below h.settings.profile d.reading.raw)
    ▸ (λ d o h. lit< tt)
    ▸ (λ d o h. at_most_law h.settings.profile.step_high tt)
    ▸ (λ d o h. at_most_law h.settings.communication.pdo1.event tt)
    ▸ (λ d o h. status_below h.settings.profile o)
    ▸ (λ d o h. lit< tt)
    ▸ (λ d o h. by (λ n. n < 65536) (missing d) (λ _. lit< tt) (λ _. lit< tt))
    ▸ (λ d o h. lit< tt)
    ▸ (λ d o h. offset_below h.settings.profile)
    ▸ end

pub typed : (d : Device) (o : Bool) (r : Row) → Listed r → ValidDevice d → number_of (source r) d o < 256 ^ width r
unfolding Typed
typed d o r l h = of_each Typed (λ q. true) each r l refl d o h
