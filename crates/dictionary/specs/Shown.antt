-- What an entry reads: a number, or blank. A blank is no number: 6004h while the reading is missing, 1003-1..4 beyond the count.
-- Files that speak of it name `None` Blank and `Some` Number. 01, chapter "Entries".
use Rattle.std.specs.Prelude.{ℕ, Option}

abbrev pub Shown : Type 0
Shown = Option ℕ
