-- Proves `Forms` of specs/Forms.antt. Assumes nothing.
use mathlib.Core.Path.{◌≡◌, refl, ◌∙◌}
use mathlib.Core.List.{List, [], ◌∷◌, ◌++◌}
use Prim.Native.Nat.{ℕ, ◌+◌, ◌*◌, ◌/◌, ◌%◌, ◌≤◌, ◌<◌}
use native.Mathlib.Omega.{arith}
use lib.Dec.{ltb}
use lib.ListN.{length, length-append}
use Rattle.cases.proofs.Cases.{test}
use borrow.Author.Tests.{lt-ltb, le-ltb, ltb-true, ltb-false, ne_eqb}
use Rattle.text.specs.Ascii.{ascii}
use Rattle.text.specs.Lines.{lines}
use Rattle.text.specs.Grammar.{malformed, parsed, says}
use Rattle.text.specs.Printed.{refusal_text}
use Rattle.text.specs.Forms.{Number, behind, parted, Pairs, none, more, Form, frame, nine, ticks, sample, missing, slot, Without, Forms}
use Rattle.text.specs.declared.Command.{Command}
use Rattle.text.proofs.Digits.{number_is}
use Rattle.text.proofs.Formed.{formed, unformed}
use Rattle.text.proofs.Roundtrip.{shown}

ended : (l rest : List ℕ) → Without 0x0A l → lines (l ++ 0x0A ∷ rest) ≡ l ∷ lines rest
ended [] rest h = refl
ended (x ∷ l) rest h = rw (ne_eqb x 0x0A h.0, ended l rest h.1)

last : (b : ℕ) (l : List ℕ) → Without 0x0A (b ∷ l) → lines (b ∷ l) ≡ (b ∷ l) ∷ []
last b [] h = rw (ne_eqb b 0x0A h.0)
last b (c ∷ l) h = rw (ne_eqb b 0x0A h.0, last c l h.1)

pairs_short : {n : ℕ} {pairs : List (List ℕ)} {bytes : List ℕ} → Pairs n pairs bytes → length (behind pairs) ≡ 3 * n
pairs_short none = refl
pairs_short (more {w = w} {ws = ws} p ps) = omega (arith, length-append w (behind ws), (number_is p).long, pairs_short ps)

frame_short : {n id len count : ℕ} {i l bytes : List ℕ} {pairs : List (List ℕ)} → Number 16 n i id → n ≤ 8 → Number 10 1 l len
    → Pairs count pairs bytes → count ≤ 8 → length (parted (ascii "F" ∷ i ∷ l ∷ pairs)) ≤ 64
frame_short {i = i} {l = l} {pairs = pairs} p a q ps b =
    omega (
      arith,
      length-append i (behind (l ∷ pairs)),
      length-append l (behind pairs),
      (number_is p).long,
      (number_is q).long,
      pairs_short ps,
    )

-- every form has at most 64 bytes
short : {fs : List (List ℕ)} {c : Command} → Form fs c → length (parted fs) ≤ 64
short (frame p a b q h ps) = frame_short p b q ps h
short (nine p a b q ps) = frame_short p b q ps (omega arith)
short (ticks {w = w} p a b low high) = omega (arith, length-append w [], (number_is p).long)
short (sample {w = w} p a b) = omega (arith, length-append w [], (number_is p).long)
short missing = omega arith
short slot = omega arith

says_parsed : (l : List ℕ) → length l ≤ 64 → says l ≡ parsed l
says_parsed l h = rw (le-ltb 64 (length l) h)

longer : (l : List ℕ) → 64 < length l → says l ≡ malformed
longer l h = rw (lt-ltb 64 (length l) h)

refusal : (n : ℕ) → n ≤ 9 → refusal_text n ≡ 0x45 ∷ 0x20 ∷ (0x30 + n) ∷ 0x0A ∷ []
unfolding refusal_text
refusal n h =
    let e : n / 1 % 16 ≡ n = omega arith in
    rw (e, lt-ltb n 10 (omega arith))

pub forms : Forms
forms =
    record {
      ended = ended;
      last = last;
      no_more = refl;
      formed = λ {fs} f. says_parsed (parted fs) (short f) ∙ formed f;
      unformed =
          λ l bar.
          test (ltb 64 (length l))
          (λ e. longer l (omega (arith, ltb-true)))
          (λ e. says_parsed l (ltb-false _ _ e) ∙ unformed l bar);
      longer = longer;
      shown = shown;
      none = refl;
      refusal = refusal;
    }
