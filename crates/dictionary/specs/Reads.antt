-- What an entry reads: blank, or a number. 01, chapter "Entries".
use Rattle.std.specs.Prelude.{ℕ, Bool, cond, Ok as At, Err, None as Blank, Some as Number}
use Rattle.std.proofs.Math.Option.{Option, none, some}
use Rattle.entries.specs.declared.Device.{Device}
use Rattle.entries.specs.declared.table.Row.{Row}
use Rattle.entries.specs.Table.{Found, when_blank, source, blank_in, number_of, lookup}
use Rattle.entries.specs.declared.table.NotFound.TheVariants.{NoSubIndex, NoIndex}
use Rattle.dictionary.specs.Shown.{Shown}

-- What the entry of a row reads, in a device that is Operational or not.
unfoldable pub shown : Device → Bool → Row → Shown
shown d o r = cond (blank_in (when_blank r) d) Blank (Number (number_of (source r) d o))

-- what the entry that is found reads; none if none is found
abbrev pub read_of : Device → Bool → Found → Option Shown
read_of d o (At r) = some (shown d o r)
read_of d o (Err NoSubIndex) = none
read_of d o (Err NoIndex) = none

-- What the entry i-j reads.
abbrev pub reads : Device → Bool → ℕ → ℕ → Option Shown
reads d o i j = read_of d o (lookup i j)
