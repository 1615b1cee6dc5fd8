-- A column from what is told of it.
use Rattle.std.specs.Prelude.{ℕ, List, false, None, unwrap_or, slice_index_or}
use Rattle.fractions.specs.Number.{Number}
use Rattle.lp_model.specs.declared.program.ColumnDef.{ColumnDef}
use Rattle.lp_model.specs.declared.terms.Term.{Term}
use Rattle.mps_profile.specs.Texts.{field}
use Rattle.mps_profile.specs.Columns.{lower_under}
use Rattle.mps_assembly.specs.declared.columns.ColumnTables.{ColumnTables}

-- the column at a place, with a cost and with terms
abbrev pub definition : ColumnTables → ℕ → Number → List Term → ColumnDef
definition columns j cost entries = record {
  name = field columns.names.now j;
  cost = cost;
  lower = unwrap_or (slice_index_or columns.lowers.now j None) (lower_under (unwrap_or (slice_index_or columns.semi_uppers.now j None) false) (unwrap_or (slice_index_or columns.uppers.now j None) None));
  upper = unwrap_or (slice_index_or columns.uppers.now j None) None;
  whole = slice_index_or columns.wholes.now j false;
  semi = slice_index_or columns.semis.now j false;
  entries = entries;
}
