-- The columns of the program.
use Rattle.std.proofs.Common.{◌≡◌, ◌∙◌, ◌<◌, ℕ, ℤ, zero, suc, List, [], ◌∷◌, ◌++◌, length, true, false, Bool, Some, None, Option, Result, Ok, Err, cond, not, pos, refl, ap, subst, arith}
use Rattle.std.specs.Prelude.{IfOk, slice_index_or, unwrap_or}
use Rattle.fractions.specs.Ring.{num, ring, ◌:-◌}
use Rattle.fractions.specs.Number.{Number, of_ℤ, one_ℚ, rational, zero_ℚ, ◌-ℚ◌}
use Rattle.fractions.specs.Order.{non_neg-of_ℤ, non_neg_ℚ}
use Rattle.lp_model.specs.declared.program.ColumnDef.{ColumnDef}
use Rattle.lp_model.specs.declared.terms.Term.{Term}
use Rattle.mps_profile.specs.Texts.{Text, field}
use Rattle.mps_profile.specs.Columns.{lower_under}
use Rattle.mps_profile.specs.Sides.{default_lower}
use Rattle.mps_profile.specs.Program.{columns_below}
use Rattle.mps_assembly.specs.Columnwise.{cost_at, terms_at}
use Rattle.opb_text.specs.Program.{binary_column}
use Rattle.opb_text.specs.Statements as statements
use Rattle.opb_columns.specs.Holding.{Hold}
use Rattle.opb_columns.specs.declared.columns.Columns.{Columns}

columns_same : (f g : ℕ → ColumnDef) (n : ℕ) → ((j : ℕ) → j < n → f j ≡ g j) → columns_below f n ≡ columns_below g n
columns_same f g zero h = refl
columns_same f g (suc j) h =
    ap (λ (columns : List ColumnDef). columns ++ f j ∷ []) (columns_same f g j (λ k below. h k (omega (arith, below))))
    ∙ ap (λ (x : ColumnDef). columns_below g j ++ x ∷ []) (h j (omega arith))

abbrev pub column : Text → Number → Option Number → Option Number → Bool → Bool → List Term → ColumnDef
column name cost lower upper whole semi entries = record { name = name; cost = cost; lower = lower; upper = upper; whole = whole; semi = semi; entries = entries }

built : {name other : Text} {cost price : Number} {lower upper : Option Number} {whole semi : Bool} {terms more : List Term} → name ≡ other → cost ≡ price → lower ≡ Some zero_ℚ
    → upper ≡ Some one_ℚ → whole ≡ true → semi ≡ false → terms ≡ more → column name cost lower upper whole semi terms ≡ column other price (Some zero_ℚ) (Some one_ℚ) true false more
built a b c d e f g = cc

pub kept : {X E : Type 0} (r : Result X E) (P Q : X → Type 0) → IfOk r P → ((x : X) → P x → Q x) → IfOk r Q
kept (Ok x) P Q h f = f x h
kept (Err e) P Q h f = tt

-- a column by what lists tell of it, of which the last two and the first are empty
abbrev pub defined : List Text → List (Option (Option Number)) → List Bool → ℕ → Number → List Term → ColumnDef
defined names uppers wholes j cost terms =
    column (field names j) cost (unwrap_or (slice_index_or [] j None) (lower_under (unwrap_or (slice_index_or [] j None) false) (unwrap_or (slice_index_or uppers j None) None)))
    (unwrap_or (slice_index_or uppers j None) None) (slice_index_or wholes j false) (slice_index_or [] j false) terms

pub definitions_are : (names : List Text) (cost : Text → ℤ) (entries : Text → List Term) (summed : List statements.Term) (columns : Columns) (uppers : List (Option (Option Number))) (wholes : List Bool)
    (costs : List Number) → Hold names cost entries summed columns
    → ((j : ℕ) → j < length columns.names → slice_index_or uppers j None ≡ Some (Some one_ℚ))
    → ((j : ℕ) → j < length columns.names → slice_index_or wholes j false ≡ true) → costs ≡ columns.costs.items
    → columns_below (λ j. defined columns.names uppers wholes j (cost_at costs j) (terms_at columns.terms.items j)) (length columns.names)
    ≡ columns_below (λ j. binary_column (field names j) (cost (field names j)) (entries (field names j))) (length names)
definitions_are names cost entries summed columns uppers wholes costs h upper whole priced =
    columns_same _ (λ j. binary_column (field names j) (cost (field names j)) (entries (field names j))) (length columns.names) same
    ∙ ap (λ (ns : List Text). columns_below (λ j. binary_column (field names j) (cost (field names j)) (entries (field names j))) (length ns)) h.named
  where
    one_positive : non_neg_ℚ (one_ℚ -ℚ zero_ℚ) ≡ true
    one_positive = ap non_neg_ℚ (ring rational [] (num (pos 1) :- num (pos 0)) (num (pos 1)) refl) ∙ non_neg-of_ℤ (pos 1)

    lower : (o : Option (Option Number)) → o ≡ Some (Some one_ℚ) → lower_under false (unwrap_or o None) ≡ Some zero_ℚ
    lower o is = ap (λ (x : Option (Option Number)). default_lower (unwrap_or x None)) is ∙ ap (λ (b : Bool). cond (not b) None (Some zero_ℚ)) one_positive

    same : (j : ℕ) → j < length columns.names
        → defined columns.names uppers wholes j (cost_at costs j) (terms_at columns.terms.items j) ≡ binary_column (field names j) (cost (field names j)) (entries (field names j))
    same j below =
        let within : j < length names = subst (λ (ns : List Text). j < length ns) h.named below in
        built (ap (λ (ns : List Text). field ns j) h.named) (ap (λ (xs : List Number). cost_at xs j) priced ∙ h.costs j within) (lower _ (upper j below))
        (ap (λ (o : Option (Option Number)). unwrap_or o None) (upper j below)) (whole j below) refl (h.terms j within)
