use Rattle.std.proofs.Common.{ℕ, List, map, sym, ap, ◌∙◌, subst}
use Rattle.lp_model.specs.declared.program.ColumnDef.{ColumnDef}
use Rattle.lp_model.specs.declared.program.RowDef.{RowDef}
use Rattle.lp_model.specs.Names.{WellNamed}
use Rattle.presolve_rounds.specs.Sources.{emptied}
use Rattle.presolve_rounds.proofs.Sources.{named_without}
use Rattle.presolve_rounds.proofs.source.source_of.Goals as goal

pub new-kept-requires : goal.new-kept-requires
new-kept-requires c =
    let o = c.into_parts-objective.result.0 in
    let rows = c.into_vec.ensures ∙ c.into_parts-objective.ensures.rows in
    let columns = c.empty_columns.ensures ∙ ap (map emptied) (c.into_vec-columns.ensures ∙ c.into_parts-objective.ensures.columns) in
    subst (λ (rs : List RowDef). WellNamed o rs c.empty_columns.new.columns.items) (sym rows)
    (subst (λ (cs : List ColumnDef). WellNamed o c.args.program.rows cs) (sym columns)
    (subst (λ (x : List ℕ). WellNamed x c.args.program.rows (map emptied c.args.program.columns)) (sym c.into_parts-objective.ensures.objective)
    (named_without c.args.program.objective c.args.program.rows c.args.program.columns c.into_parts-objective.ensures.named)))
