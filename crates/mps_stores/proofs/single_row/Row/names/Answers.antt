use Rattle.std.proofs.Common.{◌∙◌, List, ap}
use Rattle.std.specs.Prelude.{is_some}
use Rattle.mps_stores.specs.declared.single_row.Entry.{Entry}
use Rattle.mps_stores.specs.Entries.{value_in}
use Rattle.mps_stores.proofs.Adding.{any_named}
use Rattle.mps_stores.proofs.single_row.Row.names.Goals as goal

pub returns : goal.returns
returns c = c.has_column.ensures ∙ any_named _ c.args.column ∙ ap (λ (es : List Entry). is_some (value_in es c.args.column)) (c.as_slice.ensures.value ∙ c.self.view_is)
