use Rattle.std.proofs.Common.{◌≡◌, ◌<◌, ◌++◌, take, drop}
use Rattle.std.specs.List.{All}
use Rattle.fractions.specs.Number.{Number}
use Rattle.problem_model.specs.Entries.{put_term}
use Rattle.entry_lines.proofs.entries.count_below.Given as goal

-- those that were passed are below, and stay where they are
abbrev pub invariant-loop-place : goal.invariant-loop-place
invariant-loop-place l = record {
  below : All (λ t. t.id < l.k) (take l.place l.terms);
  place : (c : Number) → put_term l.k c l.terms ≡ take l.place l.terms ++ put_term l.k c (drop l.place l.terms);
}
