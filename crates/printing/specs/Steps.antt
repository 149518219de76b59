-- A text that grows: what the printing functions promise each other. 01, chapter "Worked numbers", "Session program".
-- Reviewers can skip this file: the public functions promise the definitions of `text`.
use Rattle.std.specs.Prelude.{ℕ}
use Prim.Native.Char.{code}
use Rattle.text.specs.Lines.{pushed}
use Rattle.text.specs.Printed.{digit_at}
use Rattle.text.specs.declared.Line.{Line}

-- a text with a space and a byte more
abbrev pub paired : Line → ℕ → Line
paired t b = pushed (pushed (pushed t (code " ")) (digit_at 16 b)) (digit_at 1 b)
