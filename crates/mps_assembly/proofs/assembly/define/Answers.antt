use Rattle.std.proofs.Common.{◌≡◌, ◌∙◌, ℕ, ap, List}
use Rattle.std.specs.Prelude.{unwrap_or}
use Rattle.fractions.specs.Number.{Number, zero_ℚ, neg_ℚ}
use Rattle.mps_profile.specs.Texts.{Text, field}
use Rattle.mps_profile.specs.Rows.{row_names, right_side}
use Rattle.mps_profile.specs.Program.{objective_place, terms_below}
use Rattle.mps_stores.specs.declared.single_row.Entry.{Entry}
use Rattle.mps_stores.specs.Entries.{value_in}
use Rattle.mps_stores.specs.Stores.{number_in}
use Rattle.mps_assembly.specs.Columnwise.{cost_at}
use Rattle.mps_assembly.proofs.Assembling.{place_is, side_is, rows_are, columns_are}
use Rattle.mps_assembly.proofs.assembly.define.Goals as goal

pub returns : goal.returns
returns c = λ dialect cards are.
    let objective : ℕ = c.objective_place-objective.result in
    let place : c.objective_place-objective.result ≡ objective_place cards = c.objective_place-objective.ensures ∙ place_is dialect cards c.args.parts.now are in
    let columns = c.in_ok-column_definitions.ensures ∙ columns_are dialect cards c.args.parts.now objective c.as_slice.result.now c.in_ok-terms.terms.items are place
    (λ j below. ap (λ (costs : List Number). cost_at costs j) c.as_slice.ensures.value ∙ c.in_ok-costs.ensures.costs j (rw c.len-count.ensures below)
    ∙ ap (λ (row : List Entry). unwrap_or (value_in row j) zero_ℚ) c.row.ensures.value)
    (λ j below. c.in_ok-terms.ensures.terms j (rw c.len-count.ensures below)
    ∙ ap (λ (n : ℕ). terms_below c.args.parts.now.rows.kinds.now (λ i. unwrap_or (number_in c.args.parts.now.entries.now i j) zero_ℚ) n) c.len-rows.ensures) in
    let rows = c.in_ok-row_definitions.ensures ∙ rows_are dialect cards c.args.parts.now are in
    let name = c.in_ok-from_slice.ensures ∙ c.name_at.ensures ∙ ap (λ (names : List Text). field names objective) are.rows ∙ ap (λ (i : ℕ). field (row_names cards) i) place in
    let side = c.right_side.ensures ∙ side_is dialect cards c.args.parts.now objective are ∙ ap (λ (i : ℕ). right_side dialect cards i) place in
    record { objective = name; constant = c.neg.ensures ∙ ap neg_ℚ side; rows = rows; columns = columns }
