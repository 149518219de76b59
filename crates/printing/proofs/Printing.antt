-- Laws for the loop over a frame's bytes. Assumes nothing.
use mathlib.Core.Path.{◌≡◌, refl, sym, ◌∙◌}
use mathlib.Core.List.{List, [], ◌∷◌, ◌++◌, append_assoc}
use Prim.Native.Nat.{ℕ, ◌+◌, ◌≤◌, ◌<◌}
use Prim.Native.Char.{code}
use native.Mathlib.Numerals.{add-one}
use native.Mathlib.Omega.{arith}
use lib.ListN.{length, take, get_or, length-take}
use lib.Seq.{take-suc, take_all}
use Rattle.can.specs.declared.Frame.{Frame}
use Rattle.text.specs.Lines.{line_of, pushed}
use Rattle.text.specs.Grammar.{pairs_for}
use Rattle.text.specs.Printed.{begun, pairs_text, frame_text}
use Rattle.printing.specs.Steps.{paired}
use Rattle.text.specs.declared.Line.{Line}
use Rattle.text.proofs.Growing.{push_line, push_lines}
use Rattle.text.proofs.Padded.{take_at_most}

pairs_more : (bs : List ℕ) (b : ℕ) → pairs_text (bs ++ b ∷ []) ≡ pairs_text bs ++ pairs_text (b ∷ [])
pairs_more [] b = refl
pairs_more (x ∷ bs) b = rw (pairs_more bs b)

-- i pairs are written behind identifier and length
abbrev pub Written : ℕ → ℕ → List ℕ → Line → ℕ → Type 0
Written id len bytes t i = t ≡ line_of (begun id len ++ pairs_text (take i bytes))

pub write_pair : (id len i : ℕ) (bytes : List ℕ) {t u : Line} → Written id len bytes t i → i < length bytes
    → u ≡ paired t (get_or bytes i 0) → Written id len bytes u (i + 1)
write_pair id len i bytes w h e =
    let b = get_or bytes i 0 in
    let more : begun id len ++ pairs_text (take (i + 1) bytes) ≡ (begun id len ++ pairs_text (take i bytes)) ++ pairs_text (b ∷ []) =
    rw (add-one i, take-suc bytes i 0 h, pairs_more) (sym (append_assoc (begun id len) (pairs_text (take i bytes)) (pairs_text (b ∷ [])))) in
    rw (e, w, more) (push_lines (begun id len ++ pairs_text (take i bytes)) (pairs_text (b ∷ [])))

pub write_end : (f : Frame) (count i : ℕ) {t : Line} → Written f.identifier f.length (take count f.bytes) t i → count ≡ pairs_for f.length
    → count ≤ i → length f.bytes ≡ 8 → pushed t (code "\n") ≡ line_of (frame_text f)
unfolding frame_text
write_end f count i w e h n =
    let all : take i (take count f.bytes) ≡ take f.length f.bytes =
    take_all i (take count f.bytes) (omega (arith, length-take count f.bytes)) ∙ rw e (take_at_most 8 f.length f.bytes n) in
    rw (w, push_line, all) refl
