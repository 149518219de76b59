-- "A request taken apart is a read, a write, or a reason to abort": stated with the
-- request's bytes and the numbers of its enums. 01, chapter "Service requests".
use Rattle.std.specs.Prelude.{ℕ, ◌+◌, ◌*◌, ◌-◌, ◌/◌, ◌%◌, get_or, ◌≡◌, ◌↔◌, ◌⊎◌, List, Some as Asked, None as UnknownCommand}
use Rattle.can.specs.Number.{number}
use Rattle.sdo.specs.declared.request.Access.{Access}
use Rattle.sdo.specs.declared.request.Access.TheVariants.{Read, Write}
use Rattle.sdo.specs.declared.request.Ask.{Ask}
use Rattle.sdo.specs.Request.{Request, access_top, taken_apart}
use Rattle.sdo.specs.AbortCodes.{request_code}
use Rattle.sdo.specs.Exactly.{Reads, Writes, first_data}

abbrev pub asks : List ℕ → Access → Request
asks f a = Asked (record { index = get_or f 1 0 + 256 * get_or f 2 0; sub = get_or f 3 0; access = a })

pub record Taken (f : List ℕ) : Type 0 where
  pub read : Reads f → taken_apart f ≡ asks f Read
  -- with bit 0 set the length is 4 less bits 3..2; with bit 0 clear it is the entry's, written as 0 here
  pub write_said : Writes f → get_or f 0 0 % 2 ≡ 1 → taken_apart f ≡ asks f (Write (4 - get_or f 0 0 / 4 % 4) (number (first_data 4 f)))
  pub write_unsaid : Writes f → get_or f 0 0 % 2 ≡ 0 → taken_apart f ≡ asks f (Write 0 (number (first_data 4 f)))
  pub neither : (Reads f → ⊥) → (Writes f → ⊥) → taken_apart f ≡ UnknownCommand
  -- with the numbers of the enums
  pub top_bits : (a : Ask) → taken_apart f ≡ Asked a → get_or f 0 0 / 32 ≡ access_top a.access
  pub aborts : (request_code (taken_apart f) ≡ 0) ↔ (Reads f ⊎ Writes f)
