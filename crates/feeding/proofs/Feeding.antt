-- Laws for the loop of `chunk`.
use Prim.Native.Nat.{ℕ, ◌+◌, ◌*◌, ◌≤◌, ◌<◌}
use mathlib.Core.Path.{◌≡◌, refl, sym, ap, ◌∙◌}
use mathlib.Core.List.{List, ◌++◌, append_assoc, append-nil}
use native.Mathlib.Nat.{zero-add}
use native.Mathlib.Numerals.{add-one}
use native.Mathlib.Omega.{arith}
use lib.ListN.{length, take, drop, get_or, drop_of_length-le, take-append-drop, length-append, length-drop}
use lib.Seq.{drop-cons, drop-drop, take_at, drop_at, length-take-le}
use Rattle.promises.specs.Valid.{Valid}
use Rattle.text.specs.Lines.{longest, held}
use Rattle.transcript.specs.declared.Session.{Session}
use Rattle.transcript.specs.declared.Fed.{Fed}
use Rattle.transcript.specs.declared.Done.{Done}
use Rattle.transcript.specs.Bytes.{fed, after, prints, chunked, placed, Put}

-- i bytes are taken
pub record Feeding (s : Session) (bs old out : List ℕ) (now : Session) (len i : ℕ) : Type 0 where
  pub state : after s bs ≡ after now (drop i bs)
  pub text : prints s bs ≡ take len out ++ prints now (drop i bs)
  pub rest : drop len out ≡ drop len old
  pub long : length out ≡ length old
  pub room : len ≤ longest * i
  pub big : longest * length bs ≤ length old
  pub within : i ≤ length bs
  pub valid : Valid now.head

pub feed_start : {s : Session} {bs out : List ℕ} → Valid s.head → longest * length bs ≤ length out → Feeding s bs out out s 0 0
feed_start v b =
    record { state = refl; text = refl; rest = refl; long = refl; room = omega arith; big = b; within = omega arith; valid = v }

module _ {s now : Session} {bs old out : List ℕ} {len i : ℕ} (w : Feeding s bs old out now len i) where
  pub feed_room : i < length bs → len + longest ≤ length out
  feed_room h = omega arith

  pub feed_more : {new : List ℕ} {r : ℕ} {f : Fed} → i < length bs → f ≡ fed now (get_or bs i 0) → Valid f.session.head
      → length new ≡ length out
      → Put out len (held f.text) new r → Feeding s bs old new f.session r (i + 1)
  feed_more {new} {r} {f} h e v long p =
      let t = held f.text in
      let head = take len out ++ t in
      let end : length head ≡ r = length-append (take len out) t ∙ rw (length-take-le len out (omega arith), p.ends) in
      let said : take r new ≡ head = rw (p.buffer, ← p.ends) (take_at head (drop r out) r end) in
      let left : drop r new ≡ drop r old =
      rw (
        p.buffer,
        ← p.ends,
        drop_at head (drop r out) r end,
        p.ends,
        ← drop-drop (length t) len out,
        ← drop-drop (length t) len old,
        w.rest,
      ) in
      record {
        state = rw (w.state, drop-cons bs i 0 h, add-one i, e);
        text = rw (w.text, drop-cons bs i 0 h, add-one i, said, e) (sym (append_assoc (take len out) _ _));
        rest = left;
        long = long ∙ w.long;
        room = omega arith;
        big = w.big;
        within = omega arith;
        valid = v;
      }

  module _ (h : length bs ≤ i) where
    printed : take len out ≡ prints s bs
    printed = sym (rw (w.text, drop_of_length-le bs h, append-nil))

    ended : len ≡ length (prints s bs)
    ended = rw (← printed) (sym (length-take-le len out (omega arith)))

    pub feed_all : record { session = now; len = len } ≡ chunked s bs
    feed_all = rw (w.state, drop_of_length-le bs h, ended)

    pub feed_out : out ≡ placed old 0 (prints s bs)
    feed_out = sym (take-append-drop len out) ∙ rw (printed, w.rest, zero-add, ended)

-- what is printed is a part of the buffer
pub chunk_share : (s : Session) (bs old : List ℕ) {new : List ℕ} {r : Done} → r ≡ chunked s bs → new ≡ placed old 0 (prints s bs)
    → length new ≡ length old → r.len ≤ length new
chunk_share s bs old {new} {r} e p l =
    let t = prints s bs in
    let q : length new ≡ length t + length (drop (0 + length t) old) = ap length p ∙ length-append t _ in
    rw e (omega (arith, length-drop (0 + length t) old))

pub chunk_shared : (s : Session) (bs old : List ℕ) {new : List ℕ} {r : Done} → r ≡ chunked s bs → new ≡ placed old 0 (prints s bs)
    → length new ≡ length old → r.len ≡ length (take r.len new)
chunk_shared s bs old {new} {r} e p l = sym (length-take-le r.len new (chunk_share s bs old e p l))
