-- Columns.
use Rattle.std.proofs.Common.{◌≡◌, ◌≢◌, ℕ, List, sym, ap, ◌∙◌}
use Rattle.std.specs.Prelude.{Option, Some, if◌then◌else◌}
use Rattle.fractions.specs.Number.{Number, zero_ℚ, neg_ℚ, ◌+ℚ◌, ◌-ℚ◌, ◌*ℚ◌}
use Rattle.fractions.specs.Division.{◌/ℚ◌}
use Rattle.fractions.specs.Ends.{less, minus_ends, meet_low, meet_high}
use Rattle.fractions.specs.Total.{total, put}
use Rattle.fractions.proofs.Totals.{put-other}
use Rattle.lp_model.specs.declared.terms.Term.{Term}
use Rattle.lp_model.specs.LinearProgram.{LinearProgram}
use Rattle.lp_model.specs.Sparse.{Ascends, dense, sparse_total}
use Rattle.lp_model.specs.Reductions.{Priced}
use Rattle.lp_theory.specs.MetEnds.{is_from_row, lower_over, upper_over}
use Rattle.lp_theory.specs.Elsewhere.{products}
use Rattle.lp_theory.proofs.SparseSums.{sparse-dense}
use Rattle.lp_columns.specs.FixedColumn.{undo_fixed_column, undo_fixed_column_pair}
use Rattle.lp_columns.specs.ParallelColumns.{part_of, undo_parallel_columns_pair}
use Rattle.lp_substitutions.specs.DoubletonEquation.{undo_doubleton_equation, undo_doubleton_equation_pair}
use Rattle.lp_substitutions.specs.FreeColumnSingleton.{undo_free_column_singleton_pair}
use Rattle.lp_substitutions.specs.SlackColumnSingleton.{slack_value, undo_slack_column_singleton_kept, undo_slack_column_singleton_dropped}
use Rattle.undo_records.specs.declared.side.RowFate.{RowFate}
use Rattle.undo_records.specs.declared.side.RowFate.TheVariants.{Kept, Dropped}
use Rattle.undo_records.specs.declared.kinds.fixed_column.FixedColumn.{FixedColumn}
use Rattle.undo_records.specs.declared.kinds.doubleton_equation.DoubletonEquation.{DoubletonEquation}
use Rattle.undo_records.specs.declared.kinds.free_column_singleton.FreeColumnSingleton.{FreeColumnSingleton}
use Rattle.undo_records.specs.declared.kinds.slack_column_singleton.SlackColumnSingleton.{SlackColumnSingleton}
use Rattle.undo_records.specs.declared.kinds.parallel_columns.ParallelColumns.{ParallelColumns}
use Rattle.undo_records.specs.declared.undo.Undo.TheVariants as kind
use Rattle.undo_records.specs.Near.{near_within}
use Rattle.undo_pairs.specs.LiftPair.{undone_pair, undo_slack, point_undone}
use Rattle.pair_laws.proofs.Lists.{sparse-turned, near_same}

pub fixed : (M : LinearProgram) (r : FixedColumn) (p : Priced) → r.cost ≡ M.costs r.column → Ascends 0 M.rows r.entries → dense r.entries ≡ (λ i. M.coefficient i r.column) → undone_pair (kind.FixedColumn r) p ≡ undo_fixed_column_pair M r.column r.value p
fixed M r p c a e =
    ap (λ d. record p { x = undo_fixed_column r.column r.value p.x; z = put p.z r.column (d -ℚ sparse_total r.entries p.y) }) c
    ∙ ap (λ s. record p { x = undo_fixed_column r.column r.value p.x; z = put p.z r.column (M.costs r.column -ℚ s) }) (sparse-turned M.rows r.entries p.y a ∙ ap (λ f. total M.rows (λ i. p.y i *ℚ f i)) e)

-- the pair with the sum q of the duals times the entries, where the kept column's value is w
abbrev equation_with : DoubletonEquation → Priced → Number → Number → Priced
equation_with r p q w =
    let dj : Number = r.cost -ℚ q in
    let dk : Number = p.z r.kept +ℚ (r.kept_value /ℚ r.value) *ℚ dj in
    let t : Number = if is_from_row r.lower r.upper w (p.z r.kept) then dk /ℚ r.kept_value else dj /ℚ r.value in
    record { x = undo_doubleton_equation r.column r.kept r.value r.kept_value r.equal p.x; y = put p.y r.row t; z = put (put p.z r.column (dj -ℚ r.value *ℚ t)) r.kept (dk -ℚ r.kept_value *ℚ t) }

pub equation : (n : ℕ) (r : DoubletonEquation) (p : Priced) → Ascends 0 n r.entries → r.column ≢ r.kept → undone_pair (kind.DoubletonEquation r) p ≡ undo_doubleton_equation_pair r.row r.column r.kept r.value r.kept_value r.equal r.lower r.upper r.cost n (dense r.entries) p
equation n r p ascends apart =
    let other : r.kept ≢ r.column = λ e. apart (sym e) in
    let value = put-other p.x r.column ((r.equal -ℚ r.kept_value *ℚ p.x r.kept) /ℚ r.value) r.kept other in
    ap (equation_with r p (sparse_total r.entries p.y)) value
    ∙ ap (λ q. equation_with r p q (p.x r.kept)) (sparse-turned n r.entries p.y ascends)

pub free : (n : ℕ) (r : FreeColumnSingleton) (p : Priced) → Ascends 0 n r.entries → undone_pair (kind.FreeColumnSingleton r) p ≡ undo_free_column_singleton_pair r.column r.row r.value r.at r.price n (dense r.entries) p
free n r p ascends = ap (λ q. record { x = put p.x r.column ((r.at -ℚ q) /ℚ r.value); y = put p.y r.row r.price; z = put p.z r.column zero_ℚ }) (sparse-dense r.entries 0 n p.x ascends)

slack_same : (n j : ℕ) (a : Number) (L U l u : Option Number) (ts : List Term) (p : Priced) → Ascends 0 n ts
    → near_within a (less L (sparse_total ts p.x)) (less U (sparse_total ts p.x)) l u ≡ slack_value a L U l u (products n (dense ts) p.x)
slack_same n j a L U l u ts p ascends =
    ap (λ q. near_within a (less L q) (less U q) l u) (sparse-dense ts 0 n p.x ascends)
    ∙ near_same (meet_low l (lower_over a (less L (products n (dense ts) p.x)) (less U (products n (dense ts) p.x)))) (meet_high u (upper_over a (less L (products n (dense ts) p.x)) (less U (products n (dense ts) p.x))))

pub kept : (n : ℕ) (r : SlackColumnSingleton) (p : Priced) → r.fate ≡ Kept → Ascends 0 n r.entries → undone_pair (kind.SlackColumnSingleton r) p ≡ undo_slack_column_singleton_kept r.column r.row r.value r.price r.lower_side r.upper_side r.lower r.upper n (dense r.entries) p
kept n r p e ascends =
    ap (λ (f : RowFate). undo_slack f r.row r.column r.value r.price (point_undone (kind.SlackColumnSingleton r) p)) e
    ∙ ap (λ q. record { x = put p.x r.column q; y = put p.y r.row (p.y r.row +ℚ r.price); z = put p.z r.column (neg_ℚ (r.value *ℚ p.y r.row)) }) (slack_same n r.column r.value r.lower_side r.upper_side r.lower r.upper r.entries p ascends)

pub dropped : (n : ℕ) (r : SlackColumnSingleton) (p : Priced) → r.fate ≡ Dropped → Ascends 0 n r.entries → undone_pair (kind.SlackColumnSingleton r) p ≡ undo_slack_column_singleton_dropped r.column r.row r.value r.price r.lower_side r.upper_side r.lower r.upper n (dense r.entries) p
dropped n r p e ascends =
    ap (λ (f : RowFate). undo_slack f r.row r.column r.value r.price (point_undone (kind.SlackColumnSingleton r) p)) e
    ∙ ap (λ q. record { x = put p.x r.column q; y = put p.y r.row r.price; z = put p.z r.column zero_ℚ }) (slack_same n r.column r.value r.lower_side r.upper_side r.lower r.upper r.entries p ascends)

part_same : (s : Number) (l u m n : Option Number) (q : Number) → near_within s (minus_ends (Some q) n) (minus_ends (Some q) m) l u ≡ part_of s l u m n q
part_same s l u m n q = near_same (meet_low l (lower_over s (minus_ends (Some q) n) (minus_ends (Some q) m))) (meet_high u (upper_over s (minus_ends (Some q) n) (minus_ends (Some q) m)))

pub merged : (r : ParallelColumns) (p : Priced) → undone_pair (kind.ParallelColumns r) p ≡ undo_parallel_columns_pair r.column r.kept r.factor r.lower r.upper r.kept_lower r.kept_upper p
merged r p = ap (λ q. record p { x = put (put p.x r.column q) r.kept (p.x r.kept -ℚ r.factor *ℚ q); z = put p.z r.column (r.factor *ℚ p.z r.kept) }) (part_same r.factor r.lower r.upper r.kept_lower r.kept_upper (p.x r.kept))

pub ruleset column_laws = (fixed, equation, free, kept, dropped, merged)
