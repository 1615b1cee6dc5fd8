-- The names of the rows: c1, c2, ..
use Rattle.std.proofs.Common.{◌≡◌, ℕ, zero, suc, ◌<◌, ◌≤◌, ◌^◌, List, [], ◌∷◌, Option, Some, None, sym, ap, subst, arith}
use Rattle.std.specs.Prelude.{codes}
use Rattle.std.specs.List.{All}
use Rattle.std.proofs.lemmas.List.{map-append}
use Rattle.std.proofs.lemmas.List.Elements.{All-append, All-cons, All-nil, All-weaker}
use Rattle.fractions.specs.Number.{Number}
use Rattle.lp_model.specs.Names.{names_of_rows}
use Rattle.lp_model.specs.declared.program.RowDef.{RowDef}
use Rattle.mps_profile.specs.Texts.{Text, field}
use Rattle.mps_profile.specs.Sides.{sides_of}
use Rattle.mps_profile.specs.Program.{kind_at, row_defs_at, rows_below}
use Rattle.mps_profile.specs.declared.row_kinds.RowKind.{RowKind}
use Rattle.mps_profile.specs.declared.row_kinds.RowKind.TheVariants.{Free}
use Rattle.opb_text.specs.Program.{constraint_name, row_names}
use Rattle.opb_laws.proofs.Named.{field_row}
use Rattle.opb_named.specs.Ordinary.{IsOrdinary}
use Rattle.opb_named.proofs.Ordinary.{constraint_ordinary, objective_ordinary}

-- the name of a constraint below row n
abbrev pub IsConstraint : ℕ → Text → Type 0
IsConstraint n name = (k : ℕ) × (k < n) × (name ≡ constraint_name k)

module _ (total : ℕ) (kinds : List RowKind) (side : ℕ → Number) (free : kind_at kinds 0 ≡ Free) where
  abbrev rows : ℕ → List RowDef
  rows n = rows_below (row_names total) kinds side (λ i. None) n

  abbrev sides : ℕ → Option (Option Number × Option Number)
  sides i = sides_of (kind_at kinds i) (side i) None

  no_sides : sides 0 ≡ None
  no_sides = ap (λ (kind : RowKind). sides_of kind (side 0) None) free

  -- the row that is made of row i, if one is
  names_made : (name : Text) (o : Option (Option Number × Option Number)) (P : Text → Type 0) → P name → All P (names_of_rows (row_defs_at name o))
  names_made name None P h = All-nil P
  names_made name (Some s) P h = All-cons P name [] h (All-nil P)

  made_at : (i n : ℕ) → i < n → n ≤ total → All (IsConstraint n) (names_of_rows (row_defs_at (field (row_names total) i) (sides i)))
  made_at zero n l m = subst (λ (o : Option (Option Number × Option Number)). All (IsConstraint n) (names_of_rows (row_defs_at (field (row_names total) 0) o))) (sym no_sides) (All-nil (IsConstraint n))
  made_at (suc i) n l m = names_made (field (row_names total) (suc i)) (sides (suc i)) (IsConstraint n) (suc i, l, field_row total (suc i) (omega arith) (omega (arith, l, m)))

  pub rows_are_constraints : (n : ℕ) → n ≤ total → All (IsConstraint n) (names_of_rows (rows n))
  rows_are_constraints zero m = All-nil (IsConstraint zero)
  rows_are_constraints (suc i) m =
      subst (All (IsConstraint (suc i))) (sym (map-append (λ (r : RowDef). r.name) (rows i) (row_defs_at (field (row_names total) i) (sides i))))
      (All-append (IsConstraint (suc i)) (names_of_rows (rows i)) (names_of_rows (row_defs_at (field (row_names total) i) (sides i)))
      (All-weaker (IsConstraint i) (IsConstraint (suc i)) (λ name at. (at.0, omega (arith, at.1), at.2)) (names_of_rows (rows i)) (rows_are_constraints i (omega (arith, m))))
      (made_at i (suc i) (omega arith) m))

  pub all_rows_ordinary : total ≤ 2 ^ 64 → All IsOrdinary (codes "obj" ∷ names_of_rows (rows total))
  all_rows_ordinary few =
      All-cons IsOrdinary (codes "obj") (names_of_rows (rows total)) objective_ordinary
      (All-weaker (IsConstraint total) IsOrdinary (λ name at. subst IsOrdinary (sym at.2) (constraint_ordinary at.0 (omega (arith, at.1, few)))) (names_of_rows (rows total))
      (rows_are_constraints total (omega arith)))
