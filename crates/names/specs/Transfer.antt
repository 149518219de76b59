-- A transfer: the upload of a name by a first request and its segments. Change request 1/13.
use Rattle.std.specs.Prelude.{ℕ, suc, eqb, Bool, not, cond, List, [], ◌∷◌}
use Rattle.cases.specs.Cases.{first_of}
use Rattle.names.specs.declared.Transfer.{Transfer}
use Rattle.names.specs.Segment.{is_last}

abbrev pub no_transfer : Transfer
no_transfer = record { name = 0; segments = 0 }

abbrev pub runs : Transfer → Bool
runs t = not (eqb t.name 0)

-- 1008h, 1009h and 100Ah
abbrev pub number_of : ℕ → ℕ
number_of index = first_of ((eqb index 0x1008, 1) ∷ (eqb index 0x1009, 2) ∷ (eqb index 0x100A, 3) ∷ []) 0

-- A read of a name starts a transfer, a read of another entry none.
abbrev pub starting : ℕ → Transfer
starting index = record { name = number_of index; segments = 0 }

-- The last segment's reply ends the transfer.
abbrev pub following : Transfer → ℕ → Transfer
following t length = cond (is_last length t.segments) no_transfer (record { name = t.name; segments = suc t.segments })

-- bytes 1..3 naming the entry: its index, low byte first, and sub-index 0
abbrev pub low_byte : ℕ → ℕ
low_byte name = cond (eqb name 1) 0x08 (cond (eqb name 2) 0x09 0x0A)

abbrev pub naming : ℕ → List ℕ
naming name = 0 ∷ low_byte name ∷ 0x10 ∷ 0 ∷ 0 ∷ 0 ∷ 0 ∷ 0 ∷ []
