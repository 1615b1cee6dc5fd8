-- There are as many names as columns.
use Rattle.std.proofs.Common.{◌≡◌, List, length, map}
use Rattle.std.proofs.lemmas.List.{length-map}
use Rattle.undo_records.specs.declared.label.Label.{Label}

pub names_counted : (columns : List Label) → length (map (λ column. column.name) columns) ≡ length columns
names_counted columns = length-map columns (λ column. column.name)
