-- What loops read of a program and of a ray.
use Rattle.std.proofs.Common.{◌≡◌, ◌↔◌, ℕ, ◌<◌, List, length, get_or, refl, sym, ap, ◌∙◌, subst, Bool, true, false, Option, None}
use Rattle.fractions.specs.Number.{Number, zero_ℚ}
use Rattle.lp_model.specs.Vectors.{vector_of}
use Rattle.lp_model.specs.ProgramData.{ProgramData}
use Rattle.lp_model.specs.Meaning.{meaning, row_at, column_at, no_row, no_column}
use Rattle.lp_model.specs.Gaps.{gap_of, reach_lower, reach_upper}
use Rattle.lp_model.specs.Optimality.{Continuous}
use Rattle.lp_model.specs.declared.program.RowDef.{RowDef}
use Rattle.lp_model.specs.declared.program.ColumnDef.{ColumnDef}
use Rattle.lp_model.proofs.Sums.{read_at}
use Rattle.lp_rays.specs.Ray.{IsWeight}

pub within : {X : Type 0} (xs ys : List X) (i : ℕ) → xs ≡ ys → i < length xs → i < length ys
within xs ys i e l = subst (λ n. i < n) (ap length e) l

pub row_here : (p : ProgramData) (rows : List RowDef) (i : ℕ) (row : RowDef) → rows ≡ p.rows → i < length rows → row ≡ get_or rows i row → row ≡ row_at p i
row_here p rows i row er l is = is ∙ read_at rows p.rows i row no_row er l

pub lower_here : (p : ProgramData) (rows : List RowDef) (i : ℕ) (row : RowDef) → rows ≡ p.rows → i < length rows → row ≡ get_or rows i row → row.lower ≡ (meaning p).lower_side i
lower_here p rows i row er l is = ap (λ (e : RowDef). e.lower) (row_here p rows i row er l is)

pub upper_here : (p : ProgramData) (rows : List RowDef) (i : ℕ) (row : RowDef) → rows ≡ p.rows → i < length rows → row ≡ get_or rows i row → row.upper ≡ (meaning p).upper_side i
upper_here p rows i row er l is = ap (λ (e : RowDef). e.upper) (row_here p rows i row er l is)

-- a weight by id
pub weight_here : (xs slice : List Number) (i n : ℕ) (x : Number) → slice ≡ xs → length xs ≡ n → i < n → x ≡ get_or slice i x → x ≡ vector_of xs i
weight_here xs slice i n x es long l is = is ∙ read_at slice xs i x zero_ℚ es (subst (λ k. i < k) (sym (ap length es ∙ long)) l)

pub row_holds : (M_lower M_upper lower upper : Option Number) (s t x y : Number) → lower ≡ M_lower → upper ≡ M_upper → x ≡ s → y ≡ t → (IsWeight lower x × IsWeight upper y) ↔ (IsWeight M_lower s × IsWeight M_upper t)
row_holds M_lower M_upper lower upper s t x y el eu ex ey = (
  λ h. (subst (λ o. IsWeight o s) el (subst (λ z. IsWeight lower z) ex h.0), subst (λ o. IsWeight o t) eu (subst (λ z. IsWeight upper z) ey h.1)),
  λ h. (subst (λ o. IsWeight o x) (sym el) (subst (λ z. IsWeight M_lower z) (sym ex) h.0), subst (λ o. IsWeight o y) (sym eu) (subst (λ z. IsWeight M_upper z) (sym ey) h.1)),
)

-- a column that is not semi-continuous has its own bounds
reaches_lower : (semi : Bool) (l u : Option Number) → gap_of semi l u ≡ None → l ≡ reach_lower semi l u
reaches_lower true l u e = cc
reaches_lower false l u e = refl

reaches_upper : (semi : Bool) (l u : Option Number) → gap_of semi l u ≡ None → u ≡ reach_upper semi l u
reaches_upper true l u e = cc
reaches_upper false l u e = refl

pub column_here : (p : ProgramData) (columns : List ColumnDef) (j : ℕ) (column : ColumnDef) → columns ≡ p.columns → j < length columns → column ≡ get_or columns j column → column ≡ column_at p j
column_here p columns j column ec l is = is ∙ read_at columns p.columns j column no_column ec l

pub bound_below : (p : ProgramData) (columns : List ColumnDef) (j : ℕ) (column : ColumnDef) → Continuous (meaning p) → columns ≡ p.columns → j < length columns → column ≡ get_or columns j column
    → column.lower ≡ (meaning p).lower_bound j
bound_below p columns j column continuous ec l is =
    ap (λ (k : ColumnDef). k.lower) (column_here p columns j column ec l is)
    ∙ reaches_lower (column_at p j).semi (column_at p j).lower (column_at p j).upper (continuous j (within columns p.columns j ec l)).1

pub bound_above : (p : ProgramData) (columns : List ColumnDef) (j : ℕ) (column : ColumnDef) → Continuous (meaning p) → columns ≡ p.columns → j < length columns → column ≡ get_or columns j column
    → column.upper ≡ (meaning p).upper_bound j
bound_above p columns j column continuous ec l is =
    ap (λ (k : ColumnDef). k.upper) (column_here p columns j column ec l is)
    ∙ reaches_upper (column_at p j).semi (column_at p j).lower (column_at p j).upper (continuous j (within columns p.columns j ec l)).1
