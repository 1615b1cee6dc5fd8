-- Terms and costs by column.
use Rattle.std.specs.Prelude.{ℕ, List, [], ◌∷◌, if◌then◌else◌, slice_index_or}
use Rattle.fractions.specs.Number.{Number, zero_ℚ}
use Rattle.fractions.specs.Compare.{eq_ℚ}
use Rattle.lp_model.specs.declared.terms.Term.{Term}
use Rattle.mps_profile.specs.Rows.{is_free}
use Rattle.mps_profile.specs.declared.row_kinds.RowKind.{RowKind}

-- the terms of column j
abbrev pub terms_at : List (List Term) → ℕ → List Term
terms_at columns j = slice_index_or columns j []

-- the term of a number, which 0 has not
abbrev pub number_terms : ℕ → Number → List Term
number_terms id value = if eq_ℚ value zero_ℚ then [] else record { id = id; value = value } ∷ []

-- how many ids a row takes
abbrev pub ids_after : RowKind → ℕ
ids_after kind = if is_free kind then 0 else 1

-- the cost of column j
abbrev pub cost_at : List Number → ℕ → Number
cost_at costs j = slice_index_or costs j zero_ℚ
