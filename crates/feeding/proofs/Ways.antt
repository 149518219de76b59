-- Laws for each return of `answer`, `feed` and `close`.
use Prim.Native.Nat.{ℕ}
use Prim.Native.Char.{code}
use mathlib.Core.Path.{◌≡◌, ◌∙◌}
use borrow.Author.Tests.{eq-eqb, ne_eqb}
use Rattle.parts.specs.declared.Head.{Head}
use Rattle.text.specs.Lines.{blank, pushed}
use Rattle.text.specs.Grammar.{Parsed, says_line}
use Rattle.text.specs.declared.Line.{Line}
use Rattle.transcript.specs.declared.Reply.{Reply}
use Rattle.transcript.specs.declared.Session.{Session}
use Rattle.transcript.specs.Commands.{obeyed}
use Rattle.transcript.specs.Bytes.{reply_of, answered, session, fed, closing}
use Rattle.transcript.proofs.Whole.{fed_of}

pub answers : (h : Head) (r : Line) {p : Parsed} {a : Reply} → a ≡ reply_of (obeyed h p) → p ≡ says_line r
    → a ≡ answered h r
unfolding answered
answers h r q e = q ∙ rw e

pub feed_end : (s : Session) {b : ℕ} {e : Line} {a : Reply} → b ≡ code "\n" → a ≡ answered s.head s.line → e ≡ blank
    → fed_of (session a.head e) a.text ≡ fed s b
unfolding fed
feed_end s {b} h q x = rw (eq-eqb b (code "\n") h, q, x)

pub feed_byte : (s : Session) {b : ℕ} {e l : Line} → (b ≡ code "\n" → ⊥) → l ≡ pushed s.line b → e ≡ blank
    → fed_of (session s.head l) e ≡ fed s b
unfolding fed
feed_byte s {b} h q x = rw (ne_eqb b (code "\n") h, q, x)

pub close_none : (s : Session) {r : Line} → s.line.len ≡ 0 → r ≡ blank → r ≡ closing s
close_none s h e = rw (e, h)

pub close_line : (s : Session) {a : Reply} → (s.line.len ≡ 0 → ⊥) → a ≡ answered s.head s.line → a.text ≡ closing s
close_line s h e = rw (e, ne_eqb s.line.len 0 h)
