-- Proves the laws of specs/UploadLaws.antt: a segment request in a transfer has its own reply, any other request that of 01's list.
use Prim.Native.Nat.{ℕ, zero, suc, ◌+◌, ◌≤◌}
use native.Mathlib.Omega.{arith}
use mathlib.Core.Path.{◌≡◌, refl, sym, ap, ◌∙◌}
use mathlib.Core.Logic.{◌↔◌, inl}
use mathlib.Core.Bool.{Bool, true, false, not, cond}
use mathlib.Core.List.{List}
use lib.Dec.{eqb}
use borrow.Author.Tests.{eqb-true, eqb-false, eq-eqb, ne_eqb, not-true}
use Rattle.cases.proofs.Cases.{by, both}
use Rattle.names.specs.declared.Transfer.{Transfer}
use Rattle.names.specs.Transfer.{no_transfer, starting, low_byte}
use Rattle.names.proofs.Laws.{laws as nameLaws}
use Rattle.entries.specs.declared.Device.{Device}
use Rattle.entries.specs.declared.table.Row.{Row}
use Rattle.std.specs.Prelude.{Ok as At, Err, Some as Number}
use Rattle.entries.specs.declared.table.NotFound.TheVariants.{NoSubIndex}
use Rattle.entries.specs.Identity.{name_of}
use Rattle.entries.specs.Table.{table, width, is_rw, lookup}
use Rattle.entries.specs.Laws.{Stands}
use Rattle.entries.proofs.Laws.{laws as entries-laws}
use Rattle.dictionary.specs.Reads.{shown}
use Rattle.dictionary.specs.Valid.{ValidDevice}
use Rattle.sdo.specs.Request.{byte, index_of, sub_of, aborting}
use Rattle.sdo.specs.Reply.{replies, carried_out}
use Rattle.sdo.specs.Service.{Due, none, value, confirmation, abort, upload, answer, due}
use Rattle.sdo.specs.Upload.{upload_bytes, upload_leaves, in_transfer, due_in}
use Rattle.sdo.specs.Exactly.{Reads, Writes, ClientAborts, EntryStands}
use Rattle.sdo.specs.Laws.{Told}
use Rattle.sdo.specs.UploadLaws.{AsksName, AsksSegment, Runs, served_in, UploadLaws}
use Rattle.sdo.proofs.Asked.{index_is}
use Rattle.sdo.proofs.Ways.{client as client-due, unknown, reads, writes}
use Rattle.sdo.proofs.Laws.{First, first, laws}

-- a property of 1, 2 and 3 is one of each number of a name
each_of_three : (P : ℕ → Type 0) → P 1 → P 2 → P 3 → (k : ℕ) → 1 ≤ k → k ≤ 3 → P k
each_of_three P a b c zero l m = absurd (omega arith)
each_of_three P a b c (suc zero) l m = a
each_of_three P a b c (suc (suc zero)) l m = b
each_of_three P a b c (suc (suc (suc zero))) l m = c
each_of_three P a b c (suc (suc (suc (suc k)))) l m = absurd (omega arith)

positive : (n : ℕ) → (n ≡ 0 → ⊥) → 1 ≤ n
positive zero h = absurd (h refl)
positive (suc n) h = omega arith

-- the entry of name k: its row, what it reads, and the transfer that its read starts
record Named (d : Device) (o : Bool) (k : ℕ) : Type 0 where
  pub its_row : Row
  pub stands : Stands its_row (0x1007 + k) 0
  pub its_width : width its_row ≡ 32
  pub its_access : is_rw its_row ≡ false
  pub shows : shown d o its_row ≡ Number (name_of d.identity k).length
  pub started : starting (0x1007 + k) ≡ record { name = k; segments = 0 }
  pub low : low_byte k ≡ 0x07 + k

-- by what is found for it
named : (d : Device) (o : Bool) (k : ℕ) (r : Row) → lookup (0x1007 + k) 0 ≡ At r → width r ≡ 32 → is_rw r ≡ false
    → shown d o r ≡ Number (name_of d.identity k).length → starting (0x1007 + k) ≡ record { name = k; segments = 0 } → low_byte k ≡ 0x07 + k
    → Named d o k
named d o k r e w a s t l =
    record {
      its_row = r;
      stands = ((entries-laws.finds (0x1007 + k) 0).at r).0 e;
      its_width = w;
      its_access = a;
      shows = s;
      started = t;
      low = l;
    }

names : (d : Device) (o : Bool) (k : ℕ) → 1 ≤ k → k ≤ 3 → Named d o k
unfolding table lookup shown
names d o =
    each_of_three (Named d o)
    (named d o 1 _ refl refl refl refl refl refl)
    (named d o 2 _ refl refl refl refl refl refl)
    (named d o 3 _ refl refl refl refl refl refl)

-- an entry with a name's index has sub-index 0
found_zero : (j : ℕ) (r q : Row) (b : Bool) → eqb 0 j ≡ b → cond b (At q) (Err NoSubIndex) ≡ At r → j ≡ 0
found_zero j r q true e h = sym (eqb-true 0 j e)
found_zero j r q false e h = absurd (let z : ◌≡◌ {A = ℕ} 0 1 = cc in omega arith)

sub_zero : (k : ℕ) → 1 ≤ k → k ≤ 3 → (j : ℕ) (r : Row) → lookup (0x1007 + k) j ≡ At r → j ≡ 0
unfolding table lookup
sub_zero =
    each_of_three (λ k. (j : ℕ) (r : Row) → lookup (0x1007 + k) j ≡ At r → j ≡ 0)
    (λ j r. found_zero j r _ _ refl) (λ j r. found_zero j r _ _ refl) (λ j r. found_zero j r _ _ refl)

module _ (d : Device) (o : Bool) (f : List ℕ) where
  -- a request for name k asks for its row
  abbrev its : (k : ℕ) → AsksName k f → Named d o k
  its k a = names d o k a.least a.most

  stands : (k : ℕ) (a : AsksName k f) → EntryStands f (its k a).its_row
  stands k a = rw (a.index, a.sub_index) (its k a).stands

  reads_name : (k : ℕ) → Reads f → AsksName k f → due d o f ≡ value 32 (name_of d.identity k).length
  reads_name k h a = reads d o f (its k a).its_row (h, stands k a) ∙ rw ((its k a).shows, (its k a).its_width)

  writes_name : (k : ℕ) → Writes f → AsksName k f → due d o f ≡ abort 0x06010002
  writes_name k h a = writes d o f (its k a).its_row (h, stands k a) ∙ rw (its k a).its_access

  starts_name : (k : ℕ) → AsksName k f → starting (index_of f) ≡ record { name = k; segments = 0 }
  starts_name k a = ap starting (index_is f ∙ a.index) ∙ (its k a).started

  -- a segment request is no command of 01's list
  segment_unknown : AsksSegment f → due d o f ≡ abort 0x05040001
  segment_unknown s = unknown d o f (inl ((λ e. omega arith), (λ e. omega arith), (λ e. omega arith)))

  -- a request for an entry with a name's index asks for that name
  asks_name : (k : ℕ) (r : Row) → 1 ≤ k → k ≤ 3 → lookup (index_of f) (sub_of f) ≡ At r → index_of f ≡ 0x1007 + k → AsksName k f
  asks_name k r l m e i =
      record {
        least = l;
        most = m;
        index = sym (index_is f) ∙ i;
        sub_index = sub_zero k l m (sub_of f) r (rw i at e);
      }

  -- a read of an entry that is no name starts no transfer
  starts_none : ((k : ℕ) → AsksName k f → ⊥) → (r : Row) → lookup (index_of f) (sub_of f) ≡ At r → starting (index_of f) ≡ no_transfer
  starts_none h r e =
      nameLaws.starts_none (index_of f)
      (λ i. h 1 (asks_name 1 r (omega arith) (omega arith) e i))
      (λ i. h 2 (asks_name 2 r (omega arith) (omega arith) e i))
      (λ i. h 3 (asks_name 3 r (omega arith) (omega arith) e i))

  -- of 01's list, only a read of a name starts a transfer
  ends_by : ((k : ℕ) → Reads f → AsksName k f → ⊥) → (x : Due) → Told d o f (lookup (index_of f) (sub_of f)) x → First d o f x
      → (answer f x).transfer ≡ no_transfer
  ends_by h none t u = refl
  ends_by h (value w n) t u = starts_none (λ k. h k (eqb-true _ _ t.asks)) t.its_row t.found
  ends_by h (confirmation k v) t u = refl
  ends_by h (abort c) t u = refl
  ends_by h (upload b s) t u = absurd u

  none_due : (due d o f ≡ none) ↔ ClientAborts f
  none_due = (λ e. (laws d o f).no_reply_law.0 (rw e), client-due d o f)

module _ (d : Device) (o : Bool) (t : Transfer) (f : List ℕ) where
  abbrev uploading : Due
  uploading = upload (upload_bytes d.identity t (byte f 0)) (upload_leaves d.identity t (byte f 0))

  in_transfer_law : in_transfer t f ≡ true → Runs t × AsksSegment f
  in_transfer_law e = let b = both (not (eqb t.name 0)) _ e in (eqb-false _ _ (not-true _ b.0), eqb-true _ _ b.1)

  -- what holds for a segment request in a transfer, and for what 01's list says, holds for what is due
  each : (P : Due → Type 0) → (AsksSegment f → P uploading) → P (due d o f) → P (due_in d o t f)
  unfolding due_in
  each P s r = by P (in_transfer t f) (λ e. s (in_transfer_law e).1) (λ _. r)

  pub listed : (Runs t → AsksSegment f → ⊥) → due_in d o t f ≡ due d o f
  unfolding due_in
  listed h = by (λ x. x ≡ due d o f) (in_transfer t f) (λ e. let b = in_transfer_law e in absurd (h b.0 b.1)) (λ _. refl)

  uploaded : Runs t → AsksSegment f → due_in d o t f ≡ uploading
  unfolding due_in
  uploaded r s = rw (ne_eqb t.name 0 r, s)

  pub told_in : Told d o f (lookup (index_of f) (sub_of f)) (due_in d o t f)
  told_in = each (Told d o f (lookup (index_of f) (sub_of f))) (λ _. tt) (laws d o f).told

  served_as : (x : Due) → due_in d o t f ≡ x → served_in d o t f ≡ answer f x
  served_as x e = ap (answer f) e

  confirmed : (k v : ℕ) → (due_in d o t f ≡ confirmation k v) ↔ (due d o f ≡ confirmation k v)
  confirmed k v =
      each (λ x. (x ≡ confirmation k v) ↔ (due d o f ≡ confirmation k v))
      (λ s. let u = segment_unknown d o f s in (
        λ e. absurd (let z : ◌≡◌ {A = ℕ} 0 1 = cc in omega arith),
        λ e. absurd (let z : ◌≡◌ {A = ℕ} 0 1 = cc in omega arith),
      ))
      ((λ e. e), (λ e. e))

  client : (due_in d o t f ≡ none) ↔ ClientAborts f
  client =
      each (λ x. (x ≡ none) ↔ ClientAborts f)
      (λ s. ((λ e. absurd (let z : ◌≡◌ {A = ℕ} 0 1 = cc in omega arith)), (λ e. absurd (omega arith))))
      (none_due d o f)

  pub uploads : UploadLaws d o t f
  uploads =
      record {
        idle = λ e. listed (λ r _. r e);
        other = λ n. listed (λ _. n);
        segment = λ r s e. served_as uploading (uploaded r s) ∙ rw (eq-eqb _ _ e);
        wrong_toggle_law = λ r m s n.
            served_as uploading (uploaded r s) ∙ rw (ne_eqb _ _ n, (names d o t.name (positive t.name r) m).low);
        no_transfer_law = λ e s. served_as _ (listed (λ r _. r e) ∙ segment_unknown d o f s);
        starts = λ k h a.
            served_as _ (listed (λ _ s. omega arith) ∙ reads_name d o f k h a) ∙ rw (starts_name d o f k a);
        read_only = λ k h a. listed (λ _ s. omega (arith, h.0)) ∙ writes_name d o f k h a;
        ends = λ n h.
            ap (λ (x : Due). (answer f x).transfer) (listed n) ∙ ends_by d o f h (due d o f) (laws d o f).told (first d o f);
        client = client;
        replied = each (λ x. replies (answer f x).effect ≡ not (aborting f)) (λ s. rw s) (laws d o f).replied;
        confirmed = confirmed;
        valid = each (λ x. ValidDevice d → ValidDevice (carried_out d (answer f x).effect)) (λ _ h. h) (laws d o f).valid;
      }
