use Rattle.std.proofs.Common.{◌≡◌, map, take}
use Rattle.file_ports.specs.Held.{place_of_held}
use Rattle.file_ports.proofs.memory_files.MemFiles.new.Given as goal

abbrev pub invariant-loop-one : goal.invariant-loop-one
invariant-loop-one l = l.entries.items ≡ map place_of_held (take l.one-index l.held)
