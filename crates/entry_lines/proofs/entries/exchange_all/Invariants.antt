use Rattle.std.proofs.Common.{◌≡◌, ◌++◌, take, drop}
use Rattle.entry_lines.specs.Putting.{all_given, all_held, AreInside}
use Rattle.entry_lines.proofs.entries.exchange_all.Given as goal

-- what is left to exchange leads to the same
abbrev pub invariant-loop-one : goal.invariant-loop-one
invariant-loop-one l = record {
  lines : all_given (drop l.one-index l.one-items) l.lines.items ≡ all_given l.fn.held.items l.fn.lines.items;
  held : take l.one-index l.one-items ++ all_held (drop l.one-index l.one-items) l.lines.items ≡ all_held l.fn.held.items l.fn.lines.items;
  inside : AreInside l.one-items l.lines.items;
}
