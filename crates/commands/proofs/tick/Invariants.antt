use Rattle.std.proofs.Common.{◌≡◌}
use Rattle.promises.specs.Valid.{Valid}
use Rattle.transcript.specs.Commands.{ticks}
use Rattle.commands.proofs.tick.Given as goal

abbrev pub invariant-loop : goal.invariant-loop
invariant-loop l = (l.next ≡ ticks l.counter l.fn.head) × Valid l.next
