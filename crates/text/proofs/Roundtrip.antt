-- What is printed has 01's form and is one line that is short enough; a printed frame, read again, is that frame. Assumes nothing.
use mathlib.Core.Path.{◌≡◌, refl, ap, ◌∙◌}
use mathlib.Core.Bool.{false}
use mathlib.Core.List.{List, [], ◌∷◌, ◌++◌, map}
use Prim.Native.Nat.{ℕ, zero, suc, ◌+◌, ◌*◌, ◌/◌, ◌%◌, ◌≤◌, ◌<◌}
use Prim.Native.Char.{code}
use native.Mathlib.Nat.{mod-lt}
use native.Mathlib.Omega.{arith}
use lib.Dec.{eqb, ltb}
use lib.ListN.{length, take, length-append}
use lib.Seq.{length-take-le}
use Rattle.cases.proofs.Cases.{by}
use borrow.Author.Tests.{ne_eqb}
use Rattle.can.specs.Number.{AreBytes}
use Rattle.can.specs.declared.Frame.{Frame as Sent}
use Rattle.text.specs.Ascii.{ascii}
use Rattle.text.specs.Lines.{lines, longest}
use Rattle.text.specs.Grammar.{made, parsed}
use Rattle.text.specs.Printed.{digit_at, pairs_text, frame_shown, frame_text}
use Rattle.text.specs.Forms.{Number, behind, parted, Pairs, none, more, Capitals, Shown}
use Rattle.text.specs.declared.Command.TheVariants.{Frame}
use Rattle.text.proofs.Digits.{hex_digit}
use Rattle.text.proofs.Formed.{frame_formed, pairs_for_law}

below : (weight x : ℕ) → x / weight % 16 < 16
below weight x = mod-lt (x / weight) (omega arith)

empty : (base : ℕ) → Number base 0 [] 0
empty base = none

-- one printed digit more
then : {base n v : ℕ} {w : List ℕ} (weight x : ℕ) → Number base n w v → x / weight % 16 < base
    → Number base (suc n) (w ++ digit_at weight x ∷ []) (v * base + x / weight % 16)
then weight x p h = more p (hex_digit (x / weight % 16) (below weight x)) h

three : ℕ → List ℕ
three i = digit_at 256 i ∷ digit_at 16 i ∷ digit_at 1 i ∷ []

pair : ℕ → List ℕ
pair b = digit_at 16 b ∷ digit_at 1 b ∷ []

one : ℕ → List ℕ
one n = digit_at 1 n ∷ []

three_shown : (i : ℕ) → i ≤ 0xFFF → Number 16 3 (three i) i
unfolding three
three_shown i h =
    let e : ((0 * 16 + i / 256 % 16) * 16 + i / 16 % 16) * 16 + i / 1 % 16 ≡ i = omega arith in
    rw e at (then 1 i (then 16 i (then 256 i (empty 16) (below 256 i)) (below 16 i)) (below 1 i))

pair_shown : (b : ℕ) → b < 256 → Number 16 2 (pair b) b
unfolding pair
pair_shown b h =
    let e : (0 * 16 + b / 16 % 16) * 16 + b / 1 % 16 ≡ b = omega arith in
    rw e at (then 1 b (then 16 b (empty 16) (below 16 b)) (below 1 b))

one_shown : (n : ℕ) → n ≤ 8 → Number 10 1 (one n) n
unfolding one
one_shown n h =
    let e : 0 * 10 + n / 1 % 16 ≡ n = omega arith in
    rw e at (then 1 n (empty 10) (omega arith))

pairs : List ℕ → List (List ℕ)
pairs [] = []
pairs (b ∷ bs) = pair b ∷ pairs bs

pairs_shown : (bs : List ℕ) → AreBytes bs → Pairs (length bs) (pairs bs) bs
unfolding pairs
pairs_shown [] h = none
pairs_shown (b ∷ bs) h = more (pair_shown b h.0) (pairs_shown bs h.1)

pairs_behind : (bs : List ℕ) → pairs_text bs ≡ behind (pairs bs)
unfolding pairs pair
pairs_behind [] = refl
pairs_behind (b ∷ bs) = rw (pairs_behind bs)

-- a printed digit is no small letter
digit_capital : (w n : ℕ) → digit_at w n < 0x61
digit_capital w n =
    let h = below w n in
    by (λ (b : ℕ). b < 0x61) (ltb (n / w % 16) 10) (λ _. omega arith) (λ _. omega arith)

pairs_capital : (bs : List ℕ) → Capitals (pairs_text bs ++ ascii "\n")
pairs_capital [] = (omega arith, tt)
pairs_capital (b ∷ bs) = (omega arith, (digit_capital 16 b, (digit_capital 1 b, pairs_capital bs)))

taken_bytes : (n : ℕ) (bs : List ℕ) → AreBytes bs → AreBytes (take n bs)
taken_bytes zero bs h = tt
taken_bytes (suc n) [] h = tt
taken_bytes (suc n) (b ∷ bs) h = (h.0, taken_bytes n bs h.1)

module _ (f : Sent) where
  sent : List ℕ
  sent = take f.length f.bytes

  so : frame_shown f ≡ parted (three f.identifier ∷ one f.length ∷ pairs sent)
  unfolding three one sent
  so = rw (pairs_behind (take f.length f.bytes))

  pub shown : f.identifier ≤ 0xFFF → f.length ≤ 8 → length f.bytes ≡ 8 → AreBytes f.bytes → Shown f (frame_text f)
  unfolding frame_text sent
  shown i h n b =
      record {
        id = three f.identifier;
        len = one f.length;
        pairs = pairs sent;
        identifier_shown = three_shown f.identifier i;
        length_shown = one_shown f.length h;
        bytes_shown =
            rw (length-take-le f.length f.bytes (omega arith)) at (pairs_shown sent (taken_bytes f.length f.bytes b));
        so = ap (λ (t : List ℕ). t ++ ascii "\n") so;
        capitals = (
          digit_capital 256 f.identifier,
          (
            digit_capital 16 f.identifier,
            (digit_capital 1 f.identifier, (omega arith, (digit_capital 1 f.length, pairs_capital sent))),
          ),
        );
      }

-- no digit is the end of a line
no_end : (w n : ℕ) → eqb (digit_at w n) (code "\n") ≡ false
no_end w n =
    let d = n / w % 16 in
    by (λ (b : ℕ). eqb b (code "\n") ≡ false) (ltb d 10)
    (λ _. ne_eqb (48 + d) 10 (λ q. omega arith))
    (λ _. ne_eqb (55 + d) 10 (λ q. omega arith))

pairs_line : (bs : List ℕ) → lines (pairs_text bs ++ ascii "\n") ≡ pairs_text bs ∷ []
pairs_line [] = refl
pairs_line (b ∷ bs) = rw (no_end 16 b, no_end 1 b, pairs_line bs)

pub one_line : (f : Sent) → lines (frame_text f) ≡ frame_shown f ∷ []
unfolding frame_text
one_line f =
    let id = f.identifier in
    rw (
      no_end 256 id,
      no_end 16 id,
      no_end 1 id,
      no_end 1 f.length,
      pairs_line (take f.length f.bytes),
    )

pub frame_back : (f : Sent) → f.identifier ≤ 0xFFF → f.length ≤ 8 → length f.bytes ≡ 8 → AreBytes f.bytes
    → map parsed (lines (ascii "F " ++ frame_text f)) ≡ made (Frame f.identifier f.length) (take f.length f.bytes) ∷ []
unfolding frame_text shown
frame_back f i h n b =
    let s = shown f i h n b in
    let read = frame_formed f.length s.identifier_shown (omega arith) (omega arith) s.length_shown (pairs_for_law f.length h) s.bytes_shown in
    rw (one_line f) (ap (λ (t : List ℕ). parsed (ascii "F " ++ t) ∷ []) (so f) ∙ ap (λ p. p ∷ []) read)

pairs_length : (bs : List ℕ) → length (pairs_text bs) ≡ 3 * length bs
pairs_length [] = refl
pairs_length (b ∷ bs) = omega (arith, pairs_length bs)

pub frame_short : (f : Sent) → length (take f.length f.bytes) ≤ 8 → length (frame_text f) ≤ longest
unfolding frame_text
frame_short f h = rw (length-append, length-append, pairs_length) (omega arith)
