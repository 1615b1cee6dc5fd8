use Rattle.std.proofs.Common.{◌∙◌, ◌++◌, sym, ap, append-nil, arith}
use Rattle.std.specs.Vec.Iter.{into_iter_items}
use Rattle.std.proofs.lemmas.List.{drop_all}
use Rattle.problem_model.specs.Programs.{written_columns}
use Rattle.problem_data.proofs.WrittenRows.{no_columns}
use Rattle.problem_data.proofs.written.live_columns.Goals as goal

pub returns : goal.returns
returns c =
    let end = c.loop-j in
    let write = written_columns c.args.target.now.sense c.args.target.now.rows.now (into_iter_items end.originals) (into_iter_items end.lines) in
    sym (append-nil end.columns.items)
    ∙ ap (λ cs. end.columns.items ++ cs) (sym ((λ t. write (drop_all end.j c.args.bounds.now (omega arith) t) (drop_all end.j c.args.costs.now (omega arith) t))
    ∙ no_columns c.args.target.now.sense c.args.target.now.rows.now (into_iter_items end.originals) (into_iter_items end.lines)))
    ∙ end.invariant
