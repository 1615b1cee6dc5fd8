use Rattle.std.proofs.Common.{◌≡◌, drop}
use Rattle.std.specs.List.{All}
use Rattle.problem_commits.specs.declared.notes.Note.{Note}
use Rattle.problem_data.specs.Renumbered.{IsThere}
use Rattle.problem_commits.specs.Noting.{all_raised}
use Rattle.problem_commits.proofs.raises.raise_all.Given as goal

-- what is left to raise leads to the same
abbrev pub invariant-loop-note : goal.invariant-loop-note
invariant-loop-note l = record {
  same : all_raised l.problem (drop l.note-index l.notes) ≡ all_raised l.fn.problem l.notes;
  there : All (λ (n : Note). IsThere l.problem n.part) l.notes;
}
