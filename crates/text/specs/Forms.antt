-- The forms of a line, stated over its bytes: 01, chapter "Worked numbers", "Session program". These relations use none of the definitions
-- of Lines, Grammar and Printed. `Forms` states that those definitions give these lines, these numbers and these texts, and no others.
use Rattle.std.specs.Prelude.{ℕ, suc, ◌+◌, ◌*◌, ◌-◌, ◌≤◌, ◌<◌, ◌≡◌, Some, List, [], ◌∷◌, ◌++◌, length, take, replicate}
use Rattle.can.specs.Number.{AreBytes}
use Rattle.can.specs.declared.Frame.{Frame as Sent}
use Rattle.text.specs.Ascii.{ascii}
use Rattle.text.specs.Lines.{lines}
use Rattle.text.specs.Grammar.{malformed, says}
use Rattle.text.specs.Printed.{frame_text, none_text, refusal_text}
use Rattle.text.specs.declared.Command.{Command}
use Rattle.text.specs.declared.Command.TheVariants.{Frame, Ticks, Sample, Missing, Slot}

-- hex digits of either case: a byte, and the digit that it stands for
pub data Digit (b d : ℕ) : Type 0 where
  numeral : b ≡ 0x30 + d → d ≤ 9 → Digit b d
  capital : b ≡ 0x37 + d → 10 ≤ d → d ≤ 15 → Digit b d
  small : b ≡ 0x57 + d → 10 ≤ d → d ≤ 15 → Digit b d

-- n digits of a base, highest digit first, and the number that they make
pub data Number (base : ℕ) : ℕ → List ℕ → ℕ → Type 0 where
  none : Number base 0 [] 0
  more : {n v b d : ℕ} {w : List ℕ} → Number base n w v → Digit b d → d < base → Number base (suc n) (w ++ b ∷ []) (v * base + d)

-- fields, a space before each
abbrev pub behind : List (List ℕ) → List ℕ
behind [] = []
behind (w ∷ ws) = 0x20 ∷ w ++ behind ws

-- fields parted by one space
abbrev pub parted : List (List ℕ) → List ℕ
parted [] = []
parted (w ∷ ws) = w ++ behind ws

-- n hex pairs, and their bytes
pub data Pairs : ℕ → List (List ℕ) → List ℕ → Type 0 where
  none : Pairs 0 [] []
  more : {n b : ℕ} {w bs : List ℕ} {ws : List (List ℕ)} → Number 16 2 w b → Pairs n ws bs → Pairs (suc n) (w ∷ ws) (b ∷ bs)

-- a frame's 8 bytes: those given, and 0 beyond them
abbrev pub filled : List ℕ → List ℕ
filled bytes = bytes ++ replicate (8 - length bytes) 0

-- the fields of a line, and its command
pub data Form : List (List ℕ) → Command → Type 0 where
  -- `F id len bytes` (id 1..8 hex digits, an 11-bit identifier; len one digit; as many hex pairs,
  frame : {n id len : ℕ} {i l bytes : List ℕ} {pairs : List (List ℕ)} → Number 16 n i id → 1 ≤ n → n ≤ 8 → Number 10 1 l len → len ≤ 8
      → Pairs len pairs bytes → Form (ascii "F" ∷ i ∷ l ∷ pairs) (Frame id len (filled bytes))
  -- but 8 where len is 9)
  nine : {n id : ℕ} {i l bytes : List ℕ} {pairs : List (List ℕ)} → Number 16 n i id → 1 ≤ n → n ≤ 8 → Number 10 1 l 9
      → Pairs 8 pairs bytes → Form (ascii "F" ∷ i ∷ l ∷ pairs) (Frame id 9 (filled bytes))
  -- `T n` (1..4 digits, 1..1000 ticks)
  ticks : {n t : ℕ} {w : List ℕ} → Number 10 n w t → 1 ≤ n → n ≤ 4 → 1 ≤ t → t ≤ 1000 → Form (ascii "T" ∷ w ∷ []) (Ticks t)
  -- `S r` (1..10 digits)
  sample : {n r : ℕ} {w : List ℕ} → Number 10 n w r → 1 ≤ n → n ≤ 10 → Form (ascii "S" ∷ w ∷ []) (Sample r)
  -- or `S -`
  missing : Form (ascii "S" ∷ ascii "-" ∷ []) Missing
  -- `?` (slot)
  slot : Form (ascii "?" ∷ []) Slot

-- a line's command
abbrev pub Says : List ℕ → Command → Type 0
Says l c = says l ≡ Some c

-- none of these bytes is b
abbrev pub Without : ℕ → List ℕ → Type 0
Without b [] = Unit {0}
Without b (x ∷ xs) = (x ≡ b → ⊥) × Without b xs

-- no small letter
abbrev pub Capitals : List ℕ → Type 0
Capitals [] = Unit {0}
Capitals (x ∷ xs) = (x < 0x61) × Capitals xs

-- A slot prints identifier (3 digits), length and bytes, capitals
pub record Shown (f : Sent) (text : List ℕ) : Type 0 where
  pub id : List ℕ
  pub len : List ℕ
  pub pairs : List (List ℕ)
  pub identifier_shown : Number 16 3 id f.identifier
  pub length_shown : Number 10 1 len f.length
  pub bytes_shown : Pairs f.length pairs (take f.length f.bytes)
  pub so : text ≡ parted (id ∷ len ∷ pairs) ++ ascii "\n"
  pub capitals : Capitals text

pub record Forms : Type 0 where
  -- Lines .. ended by 0Ah
  pub ended : (l rest : List ℕ) → Without 0x0A l → lines (l ++ 0x0A ∷ rest) ≡ l ∷ lines rest
  -- or the end of input
  pub last : (b : ℕ) (l : List ℕ) → Without 0x0A (b ∷ l) → lines (b ∷ l) ≡ (b ∷ l) ∷ []
  -- (none after a last 0Ah)
  pub no_more : lines [] ≡ []
  -- a line that has a form says what its form says,
  pub formed : {fs : List (List ℕ)} {c : Command} → Form fs c → Says (parted fs) c
  -- and a line that has none is not of its form
  pub unformed : (l : List ℕ) → ((fs : List (List ℕ)) (c : Command) → Form fs c → parted fs ≡ l → ⊥) → says l ≡ malformed
  -- Lines of at most 64 bytes
  pub longer : (l : List ℕ) → 64 < length l → says l ≡ malformed
  -- A slot prints identifier (3 digits), length and bytes, capitals,
  pub shown : (f : Sent) → f.identifier ≤ 0xFFF → f.length ≤ 8 → length f.bytes ≡ 8 → AreBytes f.bytes → Shown f (frame_text f)
  -- or `-`;
  pub none : none_text ≡ 0x2D ∷ 0x0A ∷ []
  -- a refusal prints `E` and its number
  pub refusal : (n : ℕ) → n ≤ 9 → refusal_text n ≡ 0x45 ∷ 0x20 ∷ (0x30 + n) ∷ 0x0A ∷ []
