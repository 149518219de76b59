-- Proves `Laws` of specs/Laws.antt: a segment by its first byte and its places, the rest by tests and computation. Assumes nothing.
use Prim.Native.Nat.{ℕ, suc, ◌+◌, ◌*◌, ◌-◌, ◌/◌, ◌%◌}
use native.Mathlib.Omega.{arith}
use mathlib.Core.Path.{◌≡◌, refl, ap, ◌∙◌}
use lib.ListN.{length, take, drop, length-take, length-drop, take-append-drop}
use lib.Seq.{take_all, drop-drop}
use borrow.Author.Tests.{le-leb, lt-leb, ne_eqb}
use Rattle.cases.specs.Padded.{pad}
use Rattle.cases.proofs.Shared.{shared}
use Rattle.names.specs.declared.Name.{Name}
use Rattle.names.specs.Name.{text}
use Rattle.names.specs.Segment.{left_of, command_of, segment_of}
use Rattle.names.specs.Laws.{Sending, Segment, Laws}
use Rattle.names.proofs.Parts.{command_parts, last_bit, pad_split, pad_front}

left_length : (n : Name) (k : ℕ) → Sending n k → length (drop (7 * k) (text n)) ≡ left_of n.length k
left_length n k s = rw (length-drop, length-take) (omega (arith, (shared.inside 1 32 n.length).0 s.name))

segment : (n : Name) (k : ℕ) → Sending n k → Segment n k
unfolding segment_of
segment n k s =
    let left = drop (7 * k) (text n) in
    let e = left_length n k s in
    let p = command_parts n.length k in
    let u : command_of n.length k / 2 % 8 ≡ 7 - length left = rw e p.unused in
    let c : take (7 - command_of n.length k / 2 % 8) (pad 7 left) ≡ take 7 left = rw u (pad_front 7 left) in
    let next : 7 * suc k ≡ 7 * k + 7 = omega arith in
    record {
      eight_bytes = ap suc (shared.long 7 left);
      top = p.top;
      toggle = p.toggle;
      full = λ g. p.unused ∙ omega arith;
      short = λ g. p.unused ∙ omega arith;
      last = rw p.last (last_bit n.length k);
      bytes = rw (c, u) (pad_split 7 left);
      carries = c;
      ends = λ g. c ∙ take_all 7 left (omega arith);
      goes_on = rw (c, next, ← drop-drop 7 (7 * k) (text n)) (take-append-drop 7 left);
    }

pub laws : Laws
unfolding segment_of
laws =
    record {
      lengths = λ n. shared.inside 1 32 n.length;
      unknown_text = (refl, refl);
      segments = segment;
      starts = (refl, refl, refl);
      starts_none = λ i a b c. rw (ne_eqb i 0x1008 a, ne_eqb i 0x1009 b, ne_eqb i 0x100A c);
      over = λ t n h. rw (le-leb (left_of n t.segments) 7 (omega arith));
      on = λ t n h. rw (lt-leb (left_of n t.segments) 7 (omega arith));
      names = (refl, refl, refl);
      head = refl;
      eight = (refl, refl);
      fourteen = (refl, refl);
      longest = (refl, refl);
    }
