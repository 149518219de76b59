-- 1010-1 and 1011-1 accept "save" and "load", and nothing else.
use Prim.Native.Nat.{ℕ}
use native.Mathlib.Omega.{arith}
use lib.Dec.{eqb}
use mathlib.Core.Path.{◌≡◌, refl, sym, ap, ◌∙◌}
use mathlib.Core.Bool.{Bool, cond}
use mathlib.Core.List.{List, map}
use borrow.Author.Tests.{eqb-true, eq-eqb}
use Rattle.cases.proofs.Cases.{test}
use Rattle.can.specs.declared.Received.{Received}
use Rattle.names.specs.declared.Transfer.{Transfer}
use Rattle.entries.specs.declared.Device.{Device}
use Rattle.entries.specs.declared.table.Row.{Row}
use Rattle.entries.specs.declared.table.Accepted.{Accepted}
use Rattle.entries.specs.declared.table.Accepted.TheVariants.{Nothing, Signature}
use Rattle.std.specs.Prelude.{Ok as At}
use Rattle.entries.specs.Keys.{save_key, load_key}
use Rattle.entries.specs.Table.{table, key, accepted, lookup}
use Rattle.entries.specs.Laws.{Listed}
use Rattle.entries.proofs.Listed.{agree}
use Rattle.entries.proofs.Laws.{laws as entries-laws}
use Rattle.dictionary.specs.Accepted.{abort_code}
use Rattle.sdo.specs.Service.{Due, confirmation}
use Rattle.sdo.specs.Upload.{due_in}
use Rattle.sdo.specs.Worked.{bytes}
use Rattle.sdo.proofs.Laws.{laws as sdo-laws}
use Rattle.sdo.proofs.UploadLaws.{uploads}
use Rattle.parts.specs.declared.Head.{Head}
use Rattle.promises.specs.States.{operational, is_in}
use Rattle.promises.specs.Meant.{Requests, Writes}
use Rattle.promises.proofs.Effects.{told}

-- a, for the entry of key k
abbrev of : ℕ → Accepted → Row → Accepted
of k a r = cond (eqb (key r) k) a Nothing

-- the entry of key k accepts the signature a: for each row of the table
abbrev Signed : ℕ → ℕ → Type 0
Signed k a = map (λ r. of k (accepted r) r) table ≡ map (of k (Signature a)) table

save_signed : Signed save_key 0x65766173
unfolding table
save_signed = refl

load_signed : Signed load_key 0x64616F6C
unfolding table
load_signed = refl

module _ (k a : ℕ) (s : Signed k a) where
  its_signature : (r : Row) → Listed r → key r ≡ k → accepted r ≡ Signature a
  its_signature r l e = rw (eq-eqb (key r) k e) at (agree (λ q. of k (accepted q) q) (of k (Signature a)) s r l)

  only : (h : Head) (f : Received) (v : ℕ) → Writes h f k v → v ≡ a
  unfolding abort_code
  only h f v w =
      let t = told h f w.accepted in
      let e = rw (its_signature t.its_row t.takes.listed (sym t.key)) at t.takes.unaborted in
      test (eqb v a) (eqb-true v a) (λ n. absurd (omega (arith, rw n at e)))

-- a row that is found stands in the list
listed : (i j : ℕ) {r : Row} → lookup i j ≡ At r → Listed r
listed i j e = (((entries-laws.finds i j).at _).0 e).0.0

module _ (d : Device) (o : Bool) (t : Transfer) where
  abbrev save : List ℕ
  save = bytes 0x23 0x10 0x10 0x01 0x73 0x61 0x76 0x65

  abbrev load : List ℕ
  load = bytes 0x23 0x11 0x10 0x01 0x6C 0x6F 0x61 0x64

  save_due : due_in d o t save ≡ confirmation save_key 0x65766173
  unfolding table lookup abort_code
  save_due =
      (uploads d o t save).other (λ e. omega arith)
      ∙ (sdo-laws d o save).confirms _ refl refl refl
      (record { listed = listed 0x1010 1 refl; writable = refl; long = omega arith; unaborted = refl })

  load_due : due_in d o t load ≡ confirmation load_key 0x64616F6C
  unfolding table lookup abort_code
  load_due =
      (uploads d o t load).other (λ e. omega arith)
      ∙ (sdo-laws d o load).confirms _ refl refl refl
      (record { listed = listed 0x1011 1 refl; writable = refl; long = omega arith; unaborted = refl })

module _ (h : Head) (f : Received) (r : Requests h f) where
  abbrev due_here : List ℕ → Due
  due_here = due_in h.core.device (is_in operational h.core) h.transfer

  pub save_taken : f.bytes ≡ bytes 0x23 0x10 0x10 0x01 0x73 0x61 0x76 0x65 → Writes h f save_key 0x65766173
  save_taken e = record { requests = r; accepted = ap due_here e ∙ save_due h.core.device (is_in operational h.core) h.transfer }

  pub load_taken : f.bytes ≡ bytes 0x23 0x11 0x10 0x01 0x6C 0x6F 0x61 0x64 → Writes h f load_key 0x64616F6C
  load_taken e = record { requests = r; accepted = ap due_here e ∙ load_due h.core.device (is_in operational h.core) h.transfer }

pub save_only : (h : Head) (f : Received) (v : ℕ) → Writes h f save_key v → v ≡ 0x65766173
save_only = only save_key 0x65766173 save_signed

pub load_only : (h : Head) (f : Received) (v : ℕ) → Writes h f load_key v → v ≡ 0x64616F6C
load_only = only load_key 0x64616F6C load_signed
