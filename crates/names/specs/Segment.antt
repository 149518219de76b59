-- The reply to a segment request: bit 4 repeated, bits 3..1 the number of unused bytes, bit 0 set in the last, then 7 bytes,
-- unused 0. Each but the last carries 7. CiA 301, "SDO upload segment"; k segments of the name were answered before.
use Rattle.std.specs.Prelude.{ℕ, ◌+◌, ◌-◌, ◌*◌, ◌%◌, leb, get_or, drop, Bool, cond, List, ◌∷◌}
use Rattle.cases.specs.Padded.{pad}
use Rattle.names.specs.declared.Name.{Name}
use Rattle.names.specs.Name.{text}

-- how many bytes of a name of this length are left
abbrev pub left_of : ℕ → ℕ → ℕ
left_of length k = length - 7 * k

-- the toggle, 0 first
abbrev pub toggle_of : ℕ → ℕ
toggle_of k = k % 2

abbrev pub is_last : ℕ → ℕ → Bool
is_last length k = leb (left_of length k) 7

abbrev pub unused : ℕ → ℕ → ℕ
unused length k = 7 - left_of length k

abbrev pub command_of : ℕ → ℕ → ℕ
command_of length k = toggle_of k * 16 + unused length k * 2 + cond (is_last length k) 1 0

abbrev pub byte_at : Name → ℕ → ℕ
byte_at n p = get_or (text n) p 0

unfoldable pub segment_of : Name → ℕ → List ℕ
segment_of n k = command_of n.length k ∷ pad 7 (drop (7 * k) (text n))
