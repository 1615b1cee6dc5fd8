use Rattle.std.proofs.Common.{◌≡◌, sym, ap, ◌∙◌}
use Rattle.problem_model.specs.Sparse.{Sparse}
use Rattle.presolve_model.specs.Enabled.{reads}
use Rattle.round_laws.specs.Passing.{are_unchanged}
use Rattle.round_laws.proofs.Numbers.{changed_stale, unchanged_fresh}
use Rattle.round_marks.specs.Stamping.{stamp_at}
use Rattle.presolve_rounds.specs.Walking.{any_bound}
use Rattle.presolve_rounds.proofs.pass.is_row_fresh.Goals as goal

pub returns-clause-fresh : goal.returns-clause-fresh
returns-clause-fresh c =
    let told : c.row_stands.result ≡ are_unchanged (stamp_at c.args.walk.now.stamps.now) c.args.book.now.problem (reads c.args.book.now.problem (any_bound c.args.row)) =
    c.row_stands.ensures ∙ ap (λ (p : Sparse). are_unchanged (stamp_at c.args.walk.now.stamps.now) p (reads p (any_bound c.args.row))) c.problem.ensures in
    λ t. unchanged_fresh (stamp_at c.args.walk.now.stamps.now) c.args.walk.now.frozen.now.value.problem c.args.book.now.problem c.requires.follows.later c.requires.walk.stamps.tell (any_bound c.args.row) (sym told ∙ t)

pub returns-clause-stale : goal.returns-clause-stale
returns-clause-stale c =
    let told : c.row_stands.result ≡ are_unchanged (stamp_at c.args.walk.now.stamps.now) c.args.book.now.problem (reads c.args.book.now.problem (any_bound c.args.row)) =
    c.row_stands.ensures ∙ ap (λ (p : Sparse). are_unchanged (stamp_at c.args.walk.now.stamps.now) p (reads p (any_bound c.args.row))) c.problem.ensures in
    λ t. changed_stale (stamp_at c.args.walk.now.stamps.now) c.args.walk.now.frozen.now.value.problem c.args.book.now.problem c.requires.follows.later c.requires.walk.stamps.tell (any_bound c.args.row) (sym told ∙ t)
