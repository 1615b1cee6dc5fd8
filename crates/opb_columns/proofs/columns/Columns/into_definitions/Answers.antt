use Rattle.std.proofs.Common.{◌∙◌, ap, Bool, true, false, List, None, Option}
use Rattle.fractions.specs.Number.{Number}
use Rattle.std.specs.Prelude.{slice_index_or}
use Rattle.std.proofs.lemmas.List.{get_or-replicate}
use Rattle.opb_columns.proofs.Defining.{definitions_are, kept}
use Rattle.opb_columns.proofs.columns.Columns.into_definitions.Goals as goal

pub returns : goal.returns
returns c = λ names cost entries summed h.
    let wholes = c.in_ok-wholes.ensures.items_if_clones_equal (λ y is. is) in
    kept c.column_definitions.result _ _ c.column_definitions.ensures
    (λ found is. is ∙ definitions_are names cost entries summed c.args.self c.as_slice.result.now c.as_slice-2.result.now _ h
    (λ j below. ap (λ (xs : List (Option (Option Number))). slice_index_or xs j None) c.as_slice.ensures.value ∙ c.in_ok-uppers.ensures j (rw c.len-count.ensures below))
    (λ j below. ap (λ (xs : List Bool). slice_index_or xs j false) (c.as_slice-2.ensures.value ∙ wholes) ∙ get_or-replicate _ j true false (rw c.len-count.ensures below))
    c.as_slice-3.ensures.value)
