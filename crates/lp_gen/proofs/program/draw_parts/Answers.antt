use Rattle.std.proofs.Common.{◌∙◌, ℕ, List, get_or, length, sym, ap, arith}
use Rattle.std.proofs.lemmas.List.FromFn.{length-map-range_with_len}
use Rattle.lp_gen.specs.Draws.{drawn}
use Rattle.lp_gen.specs.Rows.{kind_of}
use Rattle.lp_gen.proofs.Making.{written_back, made_rows}
use Rattle.lp_gen.proofs.Summing.{sum_small}
use Rattle.lp_gen.proofs.program.draw_parts.Goals as goal

pub draw_rows-requires-clause-kinds : goal.draw_rows-requires-clause-kinds
draw_rows-requires-clause-kinds c = ap length (c.as_slice.ensures.value ∙ c.in_ok-kinds.ensures.kinds) ∙ length-map-range_with_len (λ i. kind_of (drawn c.new-draws.result i 3)) 0 c.args.rows

pub draw_rows-requires-clause-small : goal.draw_rows-requires-clause-small
draw_rows-requires-clause-small c = λ i l.
    let sums = c.as_slice-2.ensures.value ∙ written_back c.in_ok-sums.sums.len c.draw_columns.new.sums _ (c.in_ok-sums.ensures.len ∙ sym c.in_ok-column_list.ensures.rows) in
    omega (arith, ap (λ (xs : List ℕ). get_or xs i 0) sums, c.in_ok-column_list.ensures.sums i l, sum_small c.draw_kinds.new.draws c.args.rows c.args.columns i, c.requires.few_columns)

pub returns-clause-rows : goal.returns-clause-rows
returns-clause-rows c =
    let sums = c.as_slice-2.ensures.value ∙ written_back c.in_ok-sums.sums.len c.draw_columns.new.sums _ (c.in_ok-sums.ensures.len ∙ sym c.in_ok-column_list.ensures.rows) in
    c.in_ok-row_list.ensures
    ∙ made_rows c.args.seed c.args.rows c.args.columns c.new-draws.result c.draw_kinds.new.draws c.draw_columns.new.draws c.new-draws.ensures c.in_ok-kinds.ensures.state c.in_ok-column_list.ensures.state
    c.as_slice.result.now c.as_slice-2.result.now (c.as_slice.ensures.value ∙ c.in_ok-kinds.ensures.kinds) (λ i l. ap (λ (xs : List ℕ). get_or xs i 0) sums ∙ c.in_ok-column_list.ensures.sums i l)
