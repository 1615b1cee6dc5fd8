use Rattle.std.proofs.Common.{◌≡◌, ◌∙◌, [], ◌++◌, sym, ap, append-nil, arith}
use Rattle.std.specs.Vec.Iter.{into_iter_items}
use Rattle.std.proofs.lemmas.List.{drop_all}
use Rattle.problem_model.specs.Programs.{written_rows}
use Rattle.problem_data.proofs.WrittenRows.{no_rows}
use Rattle.problem_data.proofs.written.live_rows.Goals as goal

pub returns : goal.returns
returns c =
    let left = into_iter_items c.loop-i.left in
    let none : written_rows left [] [] ≡ [] = no_rows left in
    sym (append-nil c.loop-i.rows.items)
    ∙ ap (λ rs. c.loop-i.rows.items ++ rs) (sym ((λ t. written_rows left (drop_all c.loop-i.i c.args.lines.now (omega arith) t) (drop_all c.loop-i.i c.args.sides.now (omega arith) t)) ∙ none))
    ∙ c.loop-i.invariant
