-- A struct with one part replaced: all else stays.
use Rattle.lending.specs.declared.Parted.{Parted}

abbrev pub with_part : {P Q : Type 0} → Parted P Q → P → Parted P Q
with_part s p = record { part = p; rest = s.rest }

abbrev pub with_inner : {O P Q : Type 0} → Parted O (Parted P Q) → P → Parted O (Parted P Q)
with_inner s p = record { part = s.part; rest = with_part s.rest p }

abbrev pub with_both : {P Q : Type 0} → Parted P Q → P → Q → Parted P Q
with_both s p q = record { part = p; rest = q }
