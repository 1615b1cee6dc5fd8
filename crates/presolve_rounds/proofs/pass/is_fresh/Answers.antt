use Rattle.std.proofs.Common.{◌≡◌, List, sym, ap, ap₂, ◌∙◌}
use Rattle.problem_model.specs.declared.part.Part.{Part}
use Rattle.problem_model.specs.Sparse.{Sparse}
use Rattle.presolve_model.specs.Enabled.{reads}
use Rattle.round_laws.specs.Passing.{are_unchanged}
use Rattle.round_laws.proofs.Numbers.{changed_stale, unchanged_fresh}
use Rattle.round_marks.specs.Stamping.{stamp_at}
use Rattle.presolve_rounds.proofs.pass.is_fresh.Goals as goal

pub returns-clause-fresh : goal.returns-clause-fresh
returns-clause-fresh c =
    let told : c.stand_for.result ≡ are_unchanged (stamp_at c.args.walk.now.stamps.now) c.args.book.now.problem (reads c.args.book.now.problem c.args.instance) =
    c.stand_for.ensures ∙ ap₂ (λ (p : Sparse) (ps : List Part). are_unchanged (stamp_at c.args.walk.now.stamps.now) p ps) c.problem-2.ensures
    (c.as_slice.ensures.value ∙ c.in_ok-parts.ensures ∙ ap (λ (p : Sparse). reads p c.args.instance) c.problem.ensures) in
    λ t. unchanged_fresh (stamp_at c.args.walk.now.stamps.now) c.args.walk.now.frozen.now.value.problem c.args.book.now.problem c.requires.follows.later c.requires.walk.stamps.tell c.args.instance (sym told ∙ t)

pub returns-clause-stale : goal.returns-clause-stale
returns-clause-stale c =
    let told : c.stand_for.result ≡ are_unchanged (stamp_at c.args.walk.now.stamps.now) c.args.book.now.problem (reads c.args.book.now.problem c.args.instance) =
    c.stand_for.ensures ∙ ap₂ (λ (p : Sparse) (ps : List Part). are_unchanged (stamp_at c.args.walk.now.stamps.now) p ps) c.problem-2.ensures
    (c.as_slice.ensures.value ∙ c.in_ok-parts.ensures ∙ ap (λ (p : Sparse). reads p c.args.instance) c.problem.ensures) in
    λ t. changed_stale (stamp_at c.args.walk.now.stamps.now) c.args.walk.now.frozen.now.value.problem c.args.book.now.problem c.requires.follows.later c.requires.walk.stamps.tell c.args.instance (sym told ∙ t)
