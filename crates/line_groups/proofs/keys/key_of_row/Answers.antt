use Rattle.std.proofs.Common.{◌≡◌, ◌≢◌, rules, subst, sym}
use Rattle.std.specs.List.{All}
use Rattle.fractions.specs.Number.{zero_ℚ}
use Rattle.problem_model.specs.Problems.{row_at}
use Rattle.problem_laws.proofs.Entries.{row_entries-none_zero}
use Rattle.line_groups.proofs.KeyLaws.{read_none_zero}
use Rattle.line_groups.proofs.keys.key_of_row.Goals as goal

pub key_of-requires : goal.key_of-requires
key_of-requires c =
    let p = c.args.problem.now in
    let entries : c.as_slice-terms.result.now ≡ c.row_line.result.now.entries = search rules in
    read_none_zero p.matrix.columns c.columns.result (row_at p c.args.row) c.row_line.result.now c.as_slice-terms.result.now
    (row_entries-none_zero p c.args.row c.is_sparse.ensures) c.columns.ensures c.row_line.ensures entries

pub key_of_all-requires : goal.key_of_all-requires
key_of_all-requires c = subst (All (λ t. t.value ≢ zero_ℚ)) (sym c.in-Some.ensures) (row_entries-none_zero c.args.problem.now c.args.row c.is_sparse.ensures)
