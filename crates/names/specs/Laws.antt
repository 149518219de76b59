-- What a client of CiA 301 reads from the segments of a name: by the bytes of each reply, and by the request's numbers.
use Rattle.std.specs.Prelude.{ℕ, suc, ◌*◌, ◌-◌, ◌/◌, ◌%◌, ◌<◌, ◌≤◌, length, get_or, drop, take, replicate, ◌≡◌, ◌↔◌, true, List, [], ◌∷◌, ◌++◌}
use Rattle.names.specs.declared.Name.{Name}
use Rattle.names.specs.declared.Transfer.{Transfer}
use Rattle.names.specs.Name.{is_name, text, named, unknown}
use Rattle.names.specs.Segment.{segment_of}
use Rattle.names.specs.Transfer.{no_transfer, starting, following, naming}

-- the first byte of a reply, and its data: 7 bytes less the unused ones
abbrev pub first : List ℕ → ℕ
first r = get_or r 0 0

abbrev pub contents : List ℕ → List ℕ
contents r = take (7 - first r / 2 % 8) (drop 1 r)

-- A name in an array of 32 bytes, of which k segments were answered, and more is left.
pub record Sending (n : Name) (k : ℕ) : Type 0 where
  pub array : length n.bytes ≡ 32
  pub name : is_name n ≡ true
  pub more : 7 * k < n.length

-- the reply to the next segment
pub record Segment (n : Name) (k : ℕ) : Type 0 where
  pub eight_bytes : length (segment_of n k) ≡ 8
  -- the top three bits say "segment",
  pub top : first (segment_of n k) / 32 ≡ 0
  -- bit 4 repeated, 0 first
  pub toggle : first (segment_of n k) / 16 % 2 ≡ k % 2
  -- bits 3..1 the number of unused bytes: each but the last carries 7
  pub full : 7 * suc k ≤ n.length → first (segment_of n k) / 2 % 8 ≡ 0
  pub short : n.length ≤ 7 * suc k → first (segment_of n k) / 2 % 8 ≡ 7 * suc k - n.length
  -- bit 0 set in the last
  pub last : (first (segment_of n k) % 2 ≡ 1) ↔ (n.length ≤ 7 * suc k)
  -- then 7 bytes, unused 0
  pub bytes : drop 1 (segment_of n k) ≡ contents (segment_of n k) ++ replicate (first (segment_of n k) / 2 % 8) 0
  pub carries : contents (segment_of n k) ≡ take 7 (drop (7 * k) (text n))
  -- what the segments from this one on carry is what is left of the name
  pub ends : n.length ≤ 7 * suc k → contents (segment_of n k) ≡ drop (7 * k) (text n)
  pub goes_on : contents (segment_of n k) ++ drop (7 * suc k) (text n) ≡ drop (7 * k) (text n)

-- the bytes 1 to 32
abbrev pub counted : List ℕ
counted =
    1 ∷ 2 ∷ 3 ∷ 4 ∷ 5 ∷ 6 ∷ 7 ∷ 8 ∷ 9 ∷ 10 ∷ 11 ∷ 12 ∷ 13 ∷ 14 ∷ 15 ∷ 16
    ∷ 17 ∷ 18 ∷ 19 ∷ 20 ∷ 21 ∷ 22 ∷ 23 ∷ 24 ∷ 25 ∷ 26 ∷ 27 ∷ 28 ∷ 29 ∷ 30 ∷ 31 ∷ 32 ∷ []

pub record Laws : Type 0 where
  -- strings of 1 to 32 bytes
  pub lengths : (n : Name) → (is_name n ≡ true) ↔ ((1 ≤ n.length) × (n.length ≤ 32))
  pub unknown_text : (text unknown ≡ 0x3F ∷ []) × (length unknown.bytes ≡ 32)
  pub segments : (n : Name) (k : ℕ) → Sending n k → Segment n k
  -- 1008h, 1009h and 100Ah
  pub starts : (starting 0x1008 ≡ record { name = 1; segments = 0 })
      × (starting 0x1009 ≡ record { name = 2; segments = 0 })
      × (starting 0x100A ≡ record { name = 3; segments = 0 })
  pub starts_none : (i : ℕ) → (i ≡ 0x1008 → ⊥) → (i ≡ 0x1009 → ⊥) → (i ≡ 0x100A → ⊥) → starting i ≡ no_transfer
  -- The last segment's reply ends the transfer.
  pub over : (t : Transfer) (n : ℕ) → n ≤ 7 * suc t.segments → following t n ≡ no_transfer
  pub on : (t : Transfer) (n : ℕ) → 7 * suc t.segments < n → following t n ≡ record { name = t.name; segments = suc t.segments }
  -- bytes 1..3 naming the entry
  pub names : (take 3 (drop 1 (naming 1)) ≡ 0x08 ∷ 0x10 ∷ 0x00 ∷ [])
      × (take 3 (drop 1 (naming 2)) ≡ 0x09 ∷ 0x10 ∷ 0x00 ∷ [])
      × (take 3 (drop 1 (naming 3)) ≡ 0x0A ∷ 0x10 ∷ 0x00 ∷ [])
  -- HEAD: one segment of four bytes
  pub head : segment_of (named (0x48 ∷ 0x45 ∷ 0x41 ∷ 0x44 ∷ []) 4) 0 ≡ 0x07 ∷ 0x48 ∷ 0x45 ∷ 0x41 ∷ 0x44 ∷ 0 ∷ 0 ∷ 0 ∷ []
  -- a name of 8: a full segment and one byte; of 14: two full segments
  pub eight : (segment_of (named counted 8) 0 ≡ 0x00 ∷ 1 ∷ 2 ∷ 3 ∷ 4 ∷ 5 ∷ 6 ∷ 7 ∷ [])
      × (segment_of (named counted 8) 1 ≡ 0x1D ∷ 8 ∷ 0 ∷ 0 ∷ 0 ∷ 0 ∷ 0 ∷ 0 ∷ [])
  pub fourteen : (segment_of (named counted 14) 0 ≡ 0x00 ∷ 1 ∷ 2 ∷ 3 ∷ 4 ∷ 5 ∷ 6 ∷ 7 ∷ [])
      × (segment_of (named counted 14) 1 ≡ 0x11 ∷ 8 ∷ 9 ∷ 10 ∷ 11 ∷ 12 ∷ 13 ∷ 14 ∷ [])
  -- the longest name: four full segments, and four bytes in the fifth
  pub longest : (segment_of (named counted 32) 3 ≡ 0x10 ∷ 22 ∷ 23 ∷ 24 ∷ 25 ∷ 26 ∷ 27 ∷ 28 ∷ [])
      × (segment_of (named counted 32) 4 ≡ 0x07 ∷ 29 ∷ 30 ∷ 31 ∷ 32 ∷ 0 ∷ 0 ∷ 0 ∷ [])
