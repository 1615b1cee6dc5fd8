-- The program of the parts that are drawn.
use Rattle.std.proofs.Common.{◌≡◌, ℕ, ◌+◌, ◌*◌, ◌<◌, ◌≤◌, ◌^◌, List, ◌++◌, map, length, take, get_or, ◌∙◌, refl, ap, ap₂, sym, subst, arith}
use Rattle.std.specs.Prelude.{codes}
use Rattle.std.specs.List.{range_with_len}
use Rattle.std.proofs.lemmas.List.{take-append-le, take_all}
use Rattle.std.proofs.lemmas.List.FromFn.{get_or-map-range_with_len}
use Rattle.fractions.specs.Number.{Number, zero_ℚ}
use Rattle.lp_model.specs.declared.program.Sense.TheVariants.{Min}
use Rattle.lp_model.specs.declared.program.RowDef.{RowDef}
use Rattle.lp_model.specs.declared.program.ColumnDef.{ColumnDef}
use Rattle.lp_model.specs.ProgramData.{ProgramData}
use Rattle.lp_model.specs.Names.{WellNamed}
use Rattle.lp_gen.specs.declared.rows.RowKind.{RowKind}
use Rattle.lp_gen.specs.declared.rows.RowKind.TheVariants.{AtMost}
use Rattle.lp_gen.specs.Draws.{state_after, drawn}
use Rattle.lp_gen.specs.Columns.{coefficient_sum}
use Rattle.lp_gen.specs.Rows.{kind_of, row_with}
use Rattle.lp_gen.specs.Generated.{columns_seed, sides_seed, row_of, generated}
use Rattle.lp_gen.proofs.Drawing.{state_here}
use Rattle.lp_gen.proofs.Listing.{map_same}
use Rattle.lp_gen.proofs.Naming.{well_named}

-- what was written through a slice
pub written_back : (n : ℕ) (front rest : List ℕ) → n ≡ length front → take n (front ++ rest) ≡ front
written_back n front rest e = take-append-le n front rest (omega (arith, e)) ∙ take_all n front (omega (arith, e))

-- the states at which the phases begin
module _ (seed rows columns start then last : ℕ) (start_is : start ≡ seed) (then_is : then ≡ state_after start rows) (last_is : last ≡ state_after then (7 * columns)) where
  columns_begin : then ≡ columns_seed seed rows
  columns_begin = then_is ∙ ap (λ (s : ℕ). state_after s rows) start_is

  sides_begin : last ≡ sides_seed seed rows columns
  sides_begin = state_here seed rows (7 * columns) (rows + 7 * columns) then last columns_begin last_is refl

  pub made_rows : (kinds : List RowKind) (sums : List ℕ) → kinds ≡ map (λ i. kind_of (drawn start i 3)) (range_with_len 0 rows) → ((i : ℕ) → i < rows → get_or sums i 0 ≡ coefficient_sum then rows columns i)
      → map (λ i. row_with i (get_or kinds i AtMost) (get_or sums i 0) (drawn last i 5)) (range_with_len 0 rows) ≡ (generated seed rows columns).rows
  made_rows kinds sums kinds_are sums_are = map_same (λ i. row_with i (get_or kinds i AtMost) (get_or sums i 0) (drawn last i 5)) (row_of seed rows columns) 0 rows (λ i l. by i (omega (arith, l)))
    where
      kind_at : (i : ℕ) → i < rows → get_or kinds i AtMost ≡ kind_of (drawn seed i 3)
      kind_at i l =
          let e : 0 + i ≡ i = omega arith in
          ap (λ (ks : List RowKind). get_or ks i AtMost) kinds_are ∙ get_or-map-range_with_len (λ k. kind_of (drawn start k 3)) 0 rows i i AtMost l e ∙ ap (λ (s : ℕ). kind_of (drawn s i 3)) start_is

      sum_at : (i : ℕ) → i < rows → get_or sums i 0 ≡ coefficient_sum (columns_seed seed rows) rows columns i
      sum_at i l = sums_are i l ∙ ap (λ (s : ℕ). coefficient_sum s rows columns i) columns_begin

      by : (i : ℕ) → i < rows → row_with i (get_or kinds i AtMost) (get_or sums i 0) (drawn last i 5) ≡ row_of seed rows columns i
      by i l =
          ap (λ (kind : RowKind). row_with i kind (get_or sums i 0) (drawn last i 5)) (kind_at i l)
          ∙ ap₂ (λ (q e : ℕ). row_with i (kind_of (drawn seed i 3)) q e) (sum_at i l) (ap (λ (s : ℕ). drawn s i 5) sides_begin)

-- parts that are those of the program make it, and their names can be taken
pub program_by : (seed rows columns : ℕ) (objective : List ℕ) (constant : Number) (row_list : List RowDef) (column_list : List ColumnDef)
    → objective ≡ codes "COST" → constant ≡ zero_ℚ → row_list ≡ (generated seed rows columns).rows → column_list ≡ (generated seed rows columns).columns
    → ◌≡◌ {A = ProgramData} (record { sense = Min; objective = objective; constant = constant; rows = row_list; columns = column_list }) (generated seed rows columns)
program_by seed rows columns objective constant row_list column_list objective_is constant_is rows_are columns_are = λ i. record { sense = Min; objective = objective_is i; constant = constant_is i; rows = rows_are i; columns = columns_are i }

pub named_by : (seed rows columns : ℕ) (objective : List ℕ) (row_list : List RowDef) (column_list : List ColumnDef)
    → objective ≡ codes "COST" → row_list ≡ (generated seed rows columns).rows → column_list ≡ (generated seed rows columns).columns → rows < 2 ^ 32 → columns ≤ 100000
    → WellNamed objective row_list column_list
named_by seed rows columns objective row_list column_list objective_is rows_are columns_are few_rows few_columns =
    subst (λ (name : List ℕ). WellNamed name row_list column_list) (sym objective_is)
    (subst (λ (rs : List RowDef). WellNamed (codes "COST") rs column_list) (sym rows_are)
    (subst (λ (cs : List ColumnDef). WellNamed (codes "COST") (generated seed rows columns).rows cs) (sym columns_are) (well_named seed rows columns (omega (arith, few_rows)) (omega (arith, few_columns)))))
