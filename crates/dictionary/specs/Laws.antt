-- Laws for every device and every entry: the factory settings, accepted writes, and the numbers that entries read.
-- 01, chapter "Entries".
use Rattle.std.specs.Prelude.{ℕ, ◌^◌, ◌≤◌, ◌<◌, get_or, ◌≡◌, Bool, true, false, cond, Some as Number}
use Rattle.std.proofs.Math.Option.{some}
use Rattle.entries.specs.declared.Device.{Device}
use Rattle.entries.specs.Settings.{factory}
use Rattle.entries.specs.declared.table.Row.{Row}
use Rattle.entries.specs.Table.{row_at, key, index, sub, width, is_rw, accepted, source, number_of, altered}
use Rattle.entries.specs.Laws.{Listed, columns}
use Rattle.dictionary.specs.Shown.{Shown}
use Rattle.dictionary.specs.Accepted.{is_signature, abort_code}
use Rattle.dictionary.specs.Reads.{reads}
use Rattle.dictionary.specs.Writes.{own_key, written, Fits}
use Rattle.dictionary.specs.Valid.{ValidSettings, ValidDevice}

-- The entry of the row r takes a write of v: the list has r, it is rw, v has its length, and neither the value nor the state aborts it.
pub record Takes (d : Device) (r : Row) (v : ℕ) : Type 0 where
  pub listed : Listed r
  pub writable : is_rw r ≡ true
  pub long : v < 256 ^ width r
  pub unaborted : abort_code d r v ≡ 0

-- The entry i-j of the device d, Operational or not, reads s.
abbrev pub Shows : Device → Bool → ℕ → ℕ → Shown → Type 0
Shows d o i j s = reads d o i j ≡ some s

pub record Laws : Type 0 where
  -- The row at each place is 01's: index, sub-index, bytes, access.
  pub rows : (p : ℕ) → (index (row_at p), sub (row_at p), width (row_at p), is_rw (row_at p)) ≡ get_or columns p (0, 0, 0, false)
  -- The factory settings are valid, at each node number 1..127.
  pub factory_valid : (n : ℕ) → 1 ≤ n → n ≤ 127 → ValidSettings n (factory n)
  -- An accepted write leaves a valid device,
  pub written_valid : (d : Device) (r : Row) (v : ℕ) → Takes d r v → ValidDevice d → ValidDevice (written d (key r) v)
  -- is one that `write` takes,
  pub written_fits : (d : Device) (r : Row) (v : ℕ) → Takes d r v → Fits d.settings.profile (own_key (key r)) v
  -- and is what the entry then reads; 1010-1 and 1011-1 read 1.
  pub reads_back : (d : Device) (o : Bool) (r : Row) (v : ℕ) → Takes d r v
      → number_of (source r) (written d (key r) v) o ≡ cond (is_signature (accepted r)) 1 v
  -- A number has no more bytes than its entry's type.
  pub typed : (d : Device) (o : Bool) (r : Row) → Listed r → ValidDevice d → number_of (source r) d o < 256 ^ width r
  -- What a row names is what a write to its entry alters.
  pub alters : (r : Row) → Listed r → altered r ≡ own_key (key r)
  -- 6200-0: 1800-5 under a second index
  pub second_reads : (d : Device) (o : Bool)
      → let event = Number d.settings.communication.pdo1.event in Shows d o 0x1800 5 event × Shows d o 0x6200 0 event
  pub second_writes : (d : Device) (v : ℕ) → written d 0x6200_00 v ≡ written d 0x1800_05 v
