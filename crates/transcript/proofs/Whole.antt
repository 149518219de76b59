-- The bytes of an input, taken one after another, print what its lines print one after another.
use Prim.Native.Nat.{ℕ}
use Prim.Native.Char.{code}
use mathlib.Core.Path.{◌≡◌, refl, ◌∙◌}
use mathlib.Core.Bool.{true, false}
use mathlib.Core.List.{List, [], ◌∷◌, ◌++◌, map, append_assoc, append-nil}
use lib.Dec.{eqb}
use Rattle.cases.proofs.Cases.{test}
use Rattle.parts.specs.declared.Head.{Head}
use Rattle.text.specs.Lines.{lines, line_of, blank, held, pushed, handed}
use Rattle.text.specs.Grammar.{says}
use Rattle.text.specs.declared.Line.{Line}
use Rattle.text.proofs.Laws.{laws}
use Rattle.transcript.specs.declared.Session.{Session}
use Rattle.transcript.specs.declared.Fed.{Fed}
use Rattle.transcript.specs.Talk.{reply, talk}
use Rattle.transcript.specs.Bytes.{reply_of, answered, session, fed, after, prints, closing}
use Rattle.transcript.proofs.Short.{held_obeyed}

abbrev pub fed_of : Session → Line → Fed
fed_of s t = record { session = s; text = t }

-- what the lines that are handed on print
talked : Head → List Line → List ℕ
talked h [] = []
talked h (r ∷ rs) = held (answered h r).text ++ talked (answered h r).head rs

-- what the bytes print, and the end behind them
heard : Session → List ℕ → List ℕ
heard s bs = prints s bs ++ held (closing (after s bs))

heard_step : (s : Session) (b : ℕ) (bs : List ℕ) → heard s (b ∷ bs) ≡ held (fed s b).text ++ heard (fed s b).session bs
unfolding heard
heard_step s b bs = append_assoc (held (fed s b).text) (prints (fed s b).session bs) (held (closing (after s (b ∷ bs))))

blank_silent : held blank ≡ []
unfolding line_of
blank_silent = refl

module _ (h : Head) (r : Line) where
  at_end : (b : ℕ) → eqb b (code "\n") ≡ true → fed (session h r) b ≡ fed_of (session (answered h r).head blank) (answered h r).text
  unfolding fed
  at_end b e = rw e

  at_byte : (b : ℕ) → eqb b (code "\n") ≡ false → fed (session h r) b ≡ fed_of (session h (pushed r b)) blank
  unfolding fed
  at_byte b e = rw e

  at_close : heard (session h r) [] ≡ talked h (handed r [])
  unfolding talked heard
  at_close = test (eqb r.len 0) (λ e. rw (e, blank_silent)) (λ e. rw (e, append-nil))

by_bytes : (h : Head) (r : Line) (bs : List ℕ) → heard (session h r) bs ≡ talked h (handed r bs)
unfolding talked
by_bytes h r [] = at_close h r
by_bytes h r (b ∷ bs) =
    test (eqb b (code "\n"))
    (λ e. rw (heard_step, at_end h r b e, e, by_bytes (answered h r).head blank bs))
    (λ e. rw (heard_step, at_byte h r b e, e, blank_silent, by_bytes h (pushed r b) bs))

pub line_answered : (h : Head) (l : List ℕ) → answered h (line_of l) ≡ reply_of (reply h l)
unfolding answered
line_answered h l = rw (laws.says_line_law l)

by_lines : (h : Head) (ls : List (List ℕ)) → talked h (map line_of ls) ≡ talk h ls
unfolding talked
by_lines h [] = refl
by_lines h (l ∷ ls) = rw (line_answered h l, held_obeyed h (says l), by_lines (reply h l).head ls)

pub whole : (h : Head) (input : List ℕ)
    → prints (session h blank) input ++ held (closing (after (session h blank) input)) ≡ talk h (lines input)
unfolding heard
whole h input = by_bytes h blank input ∙ rw (laws.handed_lines input) (by_lines h (lines input))

pub cut : (s : Session) (a b : List ℕ) → after s (a ++ b) ≡ after (after s a) b
cut s [] b = refl
cut s (x ∷ a) b = cut (fed s x).session a b

pub cut_prints : (s : Session) (a b : List ℕ) → prints s (a ++ b) ≡ prints s a ++ prints (after s a) b
cut_prints s [] b = refl
cut_prints s (x ∷ a) b = rw (cut_prints (fed s x).session a b, append_assoc)
