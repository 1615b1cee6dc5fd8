use Rattle.std.proofs.Common.{sym, ap, ◌∙◌}
use Rattle.problem_model.specs.Problems.{cost_at, sides_at}
use Rattle.row_spans.specs.Spans.{span_of, spans_of}
use Rattle.column_laws.specs.SoleEntry.{entry_of}
use Rattle.column_laws.specs.FreeColumnSingleton.{is_free}
use Rattle.column_rules.proofs.FreeColumnSingletons.{entry_there, never_free}
use Rattle.column_rules.proofs.free_column_singleton.is_free.Goals as goal

pub returns-then-is_never_free : goal.returns-then-is_never_free
returns-then-is_never_free c =
    let p = c.args.problem.now in
    let j = c.args.column in
    let i = c.args.row in
    sym (ap (is_free j (cost_at p j) (sides_at p i).lower (sides_at p i).upper (spans_of p i)) (entry_there p j i c.is_sparse.ensures c.requires.row c.requires.column c.requires.sole)
    ∙ never_free j (cost_at p j) (sides_at p i).lower (sides_at p i).upper (spans_of p i) (span_of p (record { id = j; value = entry_of p j i })) (c.is_never_free.ensures c.if-is_never_free.true))
