-- Lists that are gone along piece by piece: what is left says what is said of all.
use Rattle.std.proofs.Common.{◌≡◌, ◌≢◌, ◌↔◌, ℕ, ◌+◌, ◌<◌, Bool, true, false, List, [], ◌∷◌, ◌++◌, length, drop, take, take_all, le_refl, get_or, ◌-◌, ◌≤◌, sym, refl, ap, ◌∙◌, arith}
use Rattle.std.specs.Prelude.{if◌then◌else◌, IsTrue}
use Rattle.std.proofs.lemmas.List.{append_cancel_left, drop_more, get_or_default}
use Rattle.fractions.specs.Number.{Number, zero_ℚ}
use Rattle.lp_model.specs.declared.program.Sense.{Sense}
use Rattle.lp_model.specs.declared.program.RowDef.{RowDef}
use Rattle.lp_model.specs.declared.program.ColumnDef.{ColumnDef}
use Rattle.lp_model.specs.declared.terms.Term.{Term}
use Rattle.problem_model.specs.declared.line.Line.{Line}
use Rattle.problem_model.specs.declared.line.Sides.{Sides}
use Rattle.problem_model.specs.declared.line.Bounds.{Bounds}
use Rattle.problem_model.specs.Matrices.{line_at, no_line}
use Rattle.problem_model.specs.Problems.{bounds_at, column_at, cost_at, IsSparse, no_bounds, no_sides, row_at, sides_at}
use Rattle.problem_model.specs.Programs.{renumbered, written_column, written_columns, written_rows}
use Rattle.problem_model.specs.Sparse.{Sparse}
use Rattle.same_written.specs.Pieces.{column_piece, row_piece}

-- ---- of any list
-- a piece stands first: the rest is what is wanted behind it where all is what is wanted
pub rest_says : {X : Type 0} (left piece rest more all : List X) → left ≡ piece ++ rest → all ≡ piece ++ more → (rest ≡ more) ↔ (left ≡ all)
rest_says left piece rest more all is wanted = (
  (λ e. is ∙ ap (λ xs. piece ++ xs) e ∙ sym wanted),
  (λ e. append_cancel_left piece rest more (sym is ∙ e ∙ wanted)),
)

pub joined : {A B C : Type 0} → A ↔ B → B ↔ C → A ↔ C
joined f g = ((λ a. g.0 (f.0 a)), (λ c. f.1 (g.1 c)))

-- another piece stands first
pub other_first : {X : Type 0} (left piece more all : List X) → ((rest : List X) → left ≢ piece ++ rest) → all ≡ piece ++ more → left ≢ all
other_first left piece more all other wanted e = other more (e ∙ wanted)

-- what is left of a list from a place on
pub from_place : {X : Type 0} (xs : List X) (i : ℕ) (x : X) → i < length xs → x ≡ get_or xs i x → drop i xs ≡ x ∷ drop (i + 1) xs
from_place xs i x l e = drop_more xs i x l ∙ ap (λ y. y ∷ drop (i + 1) xs) (sym e)

-- ---- rows
rows_first : (r : RowDef) (rs : List RowDef) (l : Line) (ls : List Line) (s : Sides) (ss : List Sides) → written_rows (r ∷ rs) (l ∷ ls) (s ∷ ss) ≡ row_piece r l s ++ written_rows rs ls ss
rows_first r rs l ls s ss = by l.live
  where
    by : (b : Bool) → (if b then record r { lower = s.lower; upper = s.upper } ∷ written_rows rs ls ss else written_rows rs ls ss)
        ≡ (if b then record r { lower = s.lower; upper = s.upper } ∷ [] else []) ++ written_rows rs ls ss
    by true = refl
    by false = refl

pub rows_from : (p : Sparse) (rs : List RowDef) (i : ℕ) (r : RowDef) → IsSparse p → length rs ≡ length p.matrix.rows → i < length rs → r ≡ get_or rs i r
    → written_rows (drop i rs) (drop i p.matrix.rows) (drop i p.sides) ≡ row_piece r (row_at p i) (sides_at p i) ++ written_rows (drop (i + 1) rs) (drop (i + 1) p.matrix.rows) (drop (i + 1) p.sides)
rows_from p rs i r sparse long inside is =
    let within : i < length p.matrix.rows = omega (arith, inside, long) in
    let sides : i < length p.sides = let e = sparse.sides in omega (arith, within, e) in
    (λ t. written_rows (from_place rs i r inside is t)
    (from_place p.matrix.rows i (row_at p i) within (get_or_default p.matrix.rows i no_line (row_at p i) within) t)
    (from_place p.sides i (sides_at p i) sides (get_or_default p.sides i no_sides (sides_at p i) sides) t))
    ∙ rows_first r (drop (i + 1) rs) (row_at p i) (drop (i + 1) p.matrix.rows) (sides_at p i) (drop (i + 1) p.sides)

-- ---- columns
columns_first : (sense : Sense) (rows : List Line) (c : ColumnDef) (cs : List ColumnDef) (l : Line) (ls : List Line) (b : Bounds) (bs : List Bounds) (q : Number) (qs : List Number)
    → written_columns sense rows (c ∷ cs) (l ∷ ls) (b ∷ bs) (q ∷ qs) ≡ column_piece sense rows c l b q ++ written_columns sense rows cs ls bs qs
columns_first sense rows c cs l ls b bs q qs = by l.live
  where
    by : (x : Bool) → (if x then written_column sense rows c l b q ∷ written_columns sense rows cs ls bs qs else written_columns sense rows cs ls bs qs)
        ≡ (if x then written_column sense rows c l b q ∷ [] else []) ++ written_columns sense rows cs ls bs qs
    by true = refl
    by false = refl

pub columns_from : (p : Sparse) (sense : Sense) (cs : List ColumnDef) (j : ℕ) (c : ColumnDef) → IsSparse p → length cs ≡ length p.matrix.columns → j < length cs → c ≡ get_or cs j c
    → written_columns sense p.matrix.rows (drop j cs) (drop j p.matrix.columns) (drop j p.bounds) (drop j p.costs)
    ≡ column_piece sense p.matrix.rows c (column_at p j) (bounds_at p j) (cost_at p j)
    ++ written_columns sense p.matrix.rows (drop (j + 1) cs) (drop (j + 1) p.matrix.columns) (drop (j + 1) p.bounds) (drop (j + 1) p.costs)
columns_from p sense cs j c sparse long inside is =
    let within : j < length p.matrix.columns = omega (arith, inside, long) in
    let bounds : j < length p.bounds = let e = sparse.bounds in omega (arith, within, e) in
    let costs : j < length p.costs = let e = sparse.costs in omega (arith, within, e) in
    (λ t. written_columns sense p.matrix.rows (from_place cs j c inside is t)
    (from_place p.matrix.columns j (column_at p j) within (get_or_default p.matrix.columns j no_line (column_at p j) within) t)
    (from_place p.bounds j (bounds_at p j) bounds (get_or_default p.bounds j no_bounds (bounds_at p j) bounds) t)
    (from_place p.costs j (cost_at p j) costs (get_or_default p.costs j zero_ℚ (cost_at p j) costs) t))
    ∙ columns_first sense p.matrix.rows c (drop (j + 1) cs) (column_at p j) (drop (j + 1) p.matrix.columns) (bounds_at p j) (drop (j + 1) p.bounds) (cost_at p j) (drop (j + 1) p.costs)

-- ---- terms
pub terms_first : (rows : List Line) (t : Term) (ts : List Term) → renumbered rows (t ∷ ts) ≡ renumbered rows (t ∷ []) ++ renumbered rows ts
terms_first rows t ts = by (line_at rows t.id).live refl
  where
    by : (b : Bool) → (line_at rows t.id).live ≡ b → renumbered rows (t ∷ ts) ≡ renumbered rows (t ∷ []) ++ renumbered rows ts
    by true e = search
    by false e = search

pub terms_from : (rows : List Line) (ts : List Term) (d t : Term) → 1 ≤ length ts → t ≡ get_or ts 0 d → renumbered rows ts ≡ renumbered rows (t ∷ []) ++ renumbered rows (take (length ts - 1) (drop 1 ts))
terms_from rows [] d t l is = absurd (omega (arith, l))
terms_from rows (u ∷ ts) d t l is =
    let count : length (u ∷ ts) - 1 ≡ length ts = omega arith in
    let same : take (length (u ∷ ts) - 1) ts ≡ ts = ap (λ (n : ℕ). take n ts) count ∙ take_all (length ts) ts (le_refl (length ts)) in
    terms_first rows u ts
    ∙ (λ i. renumbered rows (sym is i ∷ []) ++ renumbered rows (sym same i))

-- ---- where it is not so
pub not_said : {B : Type 0} → (B → ⊥) → IsTrue false ↔ B
not_said never = ((λ e. absurd (let f : false ≡ true = e in cc)), (λ b. absurd (never b)))
