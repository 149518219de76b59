-- Proves `Program` of specs/Program.antt.
use Prim.Native.Nat.{ℕ, ◌+◌}
use mathlib.Core.Path.{◌≡◌, refl, ◌∙◌}
use mathlib.Core.List.{List}
use native.Mathlib.Nat.{zero-add}
use lib.ListN.{length, take, drop}
use lib.Seq.{take_at, drop_at}
use Rattle.text.specs.Grammar.{says}
use Rattle.transcript.specs.declared.Session.{Session}
use Rattle.transcript.specs.Talk.{reply}
use Rattle.transcript.specs.Bytes.{after, prints, placed, reply_of}
use Rattle.transcript.specs.Program.{Run, none, byte, chunk, Program}
use Rattle.transcript.proofs.Short.{held_obeyed}
use Rattle.transcript.proofs.Whole.{line_answered, cut, cut_prints}
use Rattle.transcript.proofs.Laws.{laws}

module _ (old text : List ℕ) where
  placed_first : take (length text) (placed old 0 text) ≡ text
  placed_first = take_at text (drop (0 + length text) old) (length text) refl

  placed_rest : drop (length text) (placed old 0 text) ≡ drop (length text) old
  placed_rest = drop_at text (drop (0 + length text) old) (length text) refl ∙ rw zero-add

-- what the calls print and leave
record Ran (s : Session) (input text : List ℕ) (t : Session) : Type 0 where
  printed : text ≡ prints s input
  left : t ≡ after s input

ran : {s t : Session} {input text : List ℕ} → Run s input text t → Ran s input text t
ran none = record { printed = refl; left = refl }
ran (byte r e more) = let m = ran more in record { printed = rw (m.printed, e.0); left = rw (m.left, e.0) }
ran (chunk {s} {rest = rest} input out new r e more) =
    let m = ran more in
    record {
      printed = rw (m.printed, e.1, e.0, placed_first out (prints s input), cut_prints s input rest);
      left = rw (m.left, e.0, cut s input rest);
    }

pub program : Program
program =
    record {
      whole = λ {s} {t} {input} {text} {end} starts run closes.
          let r = ran run in
          rw (r.printed, closes, r.left, starts.0) (laws.program input);
      line = λ h l r a.
          let e : r ≡ reply_of (reply h l) = a.0 ∙ line_answered h l in
          (rw e, rw e (held_obeyed h (says l)));
      rest_stays = λ s input out printed r c. rw (c.1, c.0) (placed_rest out (prints s input));
    }
