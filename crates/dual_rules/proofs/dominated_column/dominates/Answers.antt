use Rattle.std.proofs.Common.{Bool, ◌&&◌, ap, sym, ◌∙◌, ℕ, length}
use Rattle.problem_laws.proofs.Entries.{column_entries-ascend}
use Rattle.problem_model.specs.Problems.{column_entries}
use Rattle.problem_model.specs.Sparse.{Sparse}
use Rattle.dual_rules.specs.Pairs.{is_better}
use Rattle.dual_rules.proofs.Pairs.{and_none}
use Rattle.dual_rules.proofs.dominated_column.dominates.Goals as goal

pub returns-then-not-footprints_admit : goal.returns-then-not-footprints_admit
returns-then-not-footprints_admit c =
    let p : Sparse = c.args.problem.now in
    let j : ℕ = c.args.better.now.entry.id in
    let k : ℕ = c.args.other.now.entry.id in
    sym (ap (λ (b : Bool). is_better p j k && b)
    (c.footprints_admit.ensures p (length p.matrix.rows) (column_entries p j) (column_entries p k) (column_entries-ascend p j c.is_sparse.ensures) (column_entries-ascend p k c.is_sparse.ensures) c.requires.better.footprint c.requires.other.footprint c.if-not-footprints_admit.true)
    ∙ and_none (is_better p j k))
