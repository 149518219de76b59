-- A name: "strings of 1 to 32 bytes, given at power-up". Change request 1/13.
use Rattle.std.specs.Prelude.{ℕ, take, Bool, List, [], ◌∷◌}
use Rattle.cases.specs.Padded.{pad}
use Rattle.cases.specs.Tests.{within}
use Rattle.names.specs.declared.Name.{Name}

-- 1 to 32 bytes; another length is refused with 5
abbrev pub is_name : Name → Bool
is_name n = within 1 32 n.length

-- the bytes of the name
abbrev pub text : Name → List ℕ
text n = take n.length n.bytes

-- the name of this length whose array begins with these bytes; the rest is 0
abbrev pub named : List ℕ → ℕ → Name
named bytes length = record { bytes = pad 32 bytes; length = length }

-- "?"
abbrev pub unknown : Name
unknown = named (0x3F ∷ []) 1
