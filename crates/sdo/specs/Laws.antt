-- Laws for every request to every device: when each reply is due, what a value and a confirmation tell, the bytes of the
-- reply, and what a request leaves unchanged. Bytes are given by place and number, as in 01, chapter "Service requests".
use Rattle.std.specs.Prelude.{ℕ, ◌-◌, ◌/◌, ◌%◌, ◌≤◌, get_or, drop, replicate, ◌≡◌, ◌↔◌, ◌⊎◌, Bool, true, false, not, List, ◌∷◌, ◌++◌, Ok as At}
use Rattle.can.specs.Number.{low_first, AreBytes}
use Rattle.entries.specs.declared.Device.{Device}
use Rattle.entries.specs.declared.table.Row.{Row}
use Rattle.entries.specs.Table.{Found, key, width, lookup}
use Rattle.entries.specs.Laws.{Listed}
use Rattle.std.specs.Prelude.{Some as Number}
use Rattle.dictionary.specs.Reads.{shown}
use Rattle.dictionary.specs.Writes.{own_key, written}
use Rattle.dictionary.specs.Valid.{ValidDevice}
use Rattle.dictionary.specs.Laws.{Takes}
use Rattle.sdo.specs.declared.reply.Effect.TheVariants.{Write}
use Rattle.sdo.specs.declared.reply.Served.{Served}
use Rattle.sdo.specs.Request.{index_of, sub_of, data_of, reading, writing, aborting}
use Rattle.sdo.specs.Reply.{replies, carried_out}
use Rattle.sdo.specs.Service.{Due, none, value, confirmation, abort, upload, answer, length_of, cut_to, due}
use Rattle.sdo.specs.Exactly.{ClientAborts, EntryStands, first_data, Exactly}
use Rattle.sdo.specs.Taken.{Taken}

-- A value is due to a read: it is that of the entry asked for, which is not blank.
pub record Valued (d : Device) (o : Bool) (f : List ℕ) (x : Found) (w n : ℕ) : Type 0 where
  pub asks : reading f ≡ true
  pub its_row : Row
  pub listed : Listed its_row
  pub found : x ≡ At its_row
  pub its_width : w ≡ width its_row
  pub shows : shown d o its_row ≡ Number n

-- A confirmation is due to a write: the entry asked for takes the value, which has its length.
pub record Confirmed (d : Device) (f : List ℕ) (x : Found) (k v : ℕ) : Type 0 where
  pub asks : writing f ≡ true
  pub its_row : Row
  pub found : x ≡ At its_row
  pub key : k ≡ key its_row
  pub its_length : length_of f (width its_row) ≡ width its_row
  pub its_value : v ≡ cut_to (width its_row) (data_of f)
  pub takes : Takes d its_row v

abbrev pub Told : Device → Bool → List ℕ → Found → Due → Type 0
Told d o f x none = Unit {0}
Told d o f x (value w n) = Valued d o f x w n
Told d o f x (confirmation k v) = Confirmed d f x k v
Told d o f x (abort code) = Unit {0}
Told d o f x (upload bytes t) = Unit {0}

-- What matters in a request: the top three bits, the index and the sub-index; in a write also bits 1 and 0, bits 3..2 if bit 0 is set,
-- and as many data bytes as the entry has. Data past its length are ignored.
pub record Alike (f g : List ℕ) : Type 0 where
  pub tops : get_or f 0 0 / 32 ≡ get_or g 0 0 / 32
  pub low_index : get_or f 1 0 ≡ get_or g 1 0
  pub high_index : get_or f 2 0 ≡ get_or g 2 0
  pub subs : get_or f 3 0 ≡ get_or g 3 0
  pub bit1 : get_or f 0 0 / 32 ≡ 1 → get_or f 0 0 / 2 % 2 ≡ get_or g 0 0 / 2 % 2
  pub bit0 : get_or f 0 0 / 32 ≡ 1 → get_or f 0 0 % 2 ≡ get_or g 0 0 % 2
  pub lengths : get_or f 0 0 / 32 ≡ 1 → get_or f 0 0 % 2 ≡ 1 → get_or f 0 0 / 4 % 4 ≡ get_or g 0 0 / 4 % 4
  pub contents : get_or f 0 0 / 32 ≡ 1 → (r : Row) → EntryStands f r → first_data (width r) f ≡ first_data (width r) g

-- Read answers 4Fh, 4Bh, 43h for 1, 2, 4 bytes: the top three bits 2, bit 4 clear, 4 less the length in bits 3..2, bits 1 and 0 set.
-- A name, of up to 32 bytes, is answered 41h: bit 1 is clear, so that segments follow, and bit 0 says that the size is announced.
pub record Answers (w b : ℕ) : Type 0 where
  pub widths : (w ≡ 1) ⊎ ((w ≡ 2) ⊎ ((w ≡ 4) ⊎ (w ≡ 32)))
  pub top : b / 32 ≡ 2
  pub bit4 : b / 16 % 2 ≡ 0
  pub length : b / 4 % 4 ≡ 4 - w
  pub low : w ≤ 4 → b % 4 ≡ 3
  pub one : w ≡ 1 → b ≡ 0x4F
  pub two : w ≡ 2 → b ≡ 0x4B
  pub four : w ≡ 4 → b ≡ 0x43
  pub name : w ≡ 32 → b ≡ 0x41

abbrev pub served : Device → Bool → List ℕ → Served
served d o f = answer f (due d o f)

pub record Laws (d : Device) (o : Bool) (f : List ℕ) : Type 0 where
  -- A request taken apart is a read, a write, or a reason to abort.
  pub taken : Taken f
  -- First that applies: exactly that reply is due
  pub exactly : AreBytes f → Exactly d o f (due d o f)
  pub only : AreBytes f → (x : Due) → Exactly d o f x → x ≡ due d o f
  pub told : Told d o f (lookup (index_of f) (sub_of f)) (due d o f)
  -- a read of an entry that is not blank gets its value,
  pub values : (r : Row) (n : ℕ) → reading f ≡ true → lookup (index_of f) (sub_of f) ≡ At r → shown d o r ≡ Number n
      → due d o f ≡ value (width r) n
  -- a write that the entry takes is confirmed
  pub confirms : (r : Row) → writing f ≡ true → lookup (index_of f) (sub_of f) ≡ At r → length_of f (width r) ≡ width r
      → let v = cut_to (width r) (data_of f) in Takes d r v → due d o f ≡ confirmation (key r) v
  -- 4 abort (no effect, no reply): every other request gets a reply
  pub no_reply_law : (replies (served d o f).effect ≡ false) ↔ ClientAborts f
  pub no_effect : ClientAborts f → carried_out d (served d o f).effect ≡ d
  pub replied : replies (served d o f).effect ≡ not (aborting f)
  -- bytes 1..3 of the request repeated
  pub repeated : (ClientAborts f → ⊥)
      → let r = (served d o f).bytes in (get_or r 1 0 ≡ get_or f 1 0) × (get_or r 2 0 ≡ get_or f 2 0) × (get_or r 3 0 ≡ get_or f 3 0)
  -- Read answers 4Fh, 4Bh, 43h for 1, 2, 4 bytes;
  pub answers : (w n : ℕ) → due d o f ≡ value w n → Answers w (get_or (served d o f).bytes 0 0)
  -- unused bytes 0: of a value, and of a confirmation
  pub unused : ValidDevice d → (w n : ℕ) → due d o f ≡ value w n → w ≤ 4
      → drop 1 (served d o f).bytes ≡ get_or f 1 0 ∷ get_or f 2 0 ∷ get_or f 3 0 ∷ low_first w n ++ replicate (4 - w) 0
  -- size in bytes 4..7, for every length
  pub announced : (n : ℕ) → due d o f ≡ value 32 n → (served d o f).bytes ≡ 0x41 ∷ get_or f 1 0 ∷ get_or f 2 0 ∷ get_or f 3 0 ∷ low_first 4 n
  -- write 60h;
  pub unused_confirming : (k v : ℕ) → due d o f ≡ confirmation k v
      → (served d o f).bytes ≡ 0x60 ∷ get_or f 1 0 ∷ get_or f 2 0 ∷ get_or f 3 0 ∷ replicate 4 0
  -- abort 80h with the code, low byte first
  pub aborts : (c : ℕ) → due d o f ≡ abort c → (served d o f).bytes ≡ 0x80 ∷ get_or f 1 0 ∷ get_or f 2 0 ∷ get_or f 3 0 ∷ low_first 4 c
  -- what is confirmed is written, and nothing else is written;
  pub writes : (n v : ℕ) → ((served d o f).effect ≡ Write n v) ↔ ((k : ℕ) × ((due d o f ≡ confirmation k v) × (n ≡ own_key k)))
  pub carries : (k v : ℕ) → due d o f ≡ confirmation k v → carried_out d (served d o f).effect ≡ written d k v
  -- an aborted write alters no entry, nor does a read: only what is answered 60h alters the device
  pub unaltered : (get_or (served d o f).bytes 0 0 ≡ 0x60 → ⊥) → carried_out d (served d o f).effect ≡ d
  -- an accepted write leaves each entry with a value that it accepts
  pub valid : ValidDevice d → ValidDevice (carried_out d (served d o f).effect)
  -- Reserved bits are ignored: requests that agree in what matters get the same reply
  pub reserved : (g : List ℕ) → Alike f g → due d o f ≡ due d o g
