-- The session, line by line: 01, chapter "Worked numbers", "Session program".
-- `transcript` is the whole program, from the bytes of its standard input to those of its standard output.
use Rattle.std.specs.Prelude.{ℕ, List, [], ◌∷◌, ◌++◌}
use Rattle.parts.specs.declared.Head.{Head}
use Rattle.promises.specs.Node1.{node1}
use Rattle.text.specs.Lines.{lines}
use Rattle.text.specs.Grammar.{says}
use Rattle.transcript.specs.Commands.{Outcome, obeyed}

-- What a line does and prints: the head obeys what the line says. A line of more than 64 bytes is not of its form.
abbrev pub reply : Head → List ℕ → Outcome
reply h l = obeyed h (says l)

-- Each line of the input in turn.
abbrev pub talk : Head → List (List ℕ) → List ℕ
talk h [] = []
talk h (l ∷ ls) = (reply h l).text ++ talk (reply h l).head ls

-- node 1, identity 1, 2, 3, 4, names HEAD, 1 and 1, standard input to output
abbrev pub transcript : List ℕ → List ℕ
transcript input = talk node1 (lines input)
