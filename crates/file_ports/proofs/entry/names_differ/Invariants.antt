use Rattle.std.proofs.Common.{◌≡◌, length}
use Rattle.file_ports.specs.Held.{all_differ}
use Rattle.file_ports.proofs.entry.names_differ.Given as goal

abbrev pub invariant-loop-first : goal.invariant-loop-first
invariant-loop-first l = all_differ l.rest ≡ all_differ l.fn.held

abbrev pub decreases-loop-first : goal.decreases-loop-first
decreases-loop-first l = length l.rest
