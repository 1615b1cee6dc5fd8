use Rattle.std.proofs.Common.{◌≡◌, ◌++◌, drop, map, take}
use Rattle.presolve_rounds.specs.Sources.{emptied}
use Rattle.presolve_rounds.proofs.source.empty_columns.Given as goal

-- those so far are emptied, and what is left to empty leads to all
abbrev pub invariant-loop-one : goal.invariant-loop-one
invariant-loop-one l = take l.one-index l.one-items ++ map emptied (drop l.one-index l.one-items) ≡ map emptied l.fn.columns.items
