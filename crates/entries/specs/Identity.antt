-- The names of a head: 1008h, 1009h and 100Ah, numbered 1 to 3. Change request 1/13.
use Rattle.std.specs.Prelude.{ℕ, eqb, Bool, ◌&&◌, cond}
use Rattle.names.specs.declared.Name.{Name}
use Rattle.names.specs.Name.{is_name}
use Rattle.entries.specs.declared.Identity.{Identity}

abbrev pub name_of : Identity → ℕ → Name
name_of i k = cond (eqb k 1) i.name (cond (eqb k 2) i.hardware i.software)

-- each name has 1 to 32 bytes
abbrev pub has_names : Identity → Bool
has_names i = is_name i.name && is_name i.hardware && is_name i.software
