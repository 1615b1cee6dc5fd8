-- Edits of entries and costs keep what is asked of a problem.
use Rattle.std.proofs.Common.{◌≡◌, ◌≢◌, ℕ, ◌<◌, true, false, List, [], length, sym, ap, ap₂, ◌∙◌, subst, arith, ◌⊎◌, inl, inr}
use Rattle.std.proofs.lemmas.Bool.{cases_eq}
use Rattle.std.proofs.lemmas.List.{get_or-set_same, get_or-set_other, length-set}
use Rattle.fractions.specs.Number.{Number}
use Rattle.fractions.specs.Total.{put}
use Rattle.fractions.proofs.Totals.{put-same, put-other, at_or_off}
use Rattle.lp_model.specs.Sparse.{Ascends, dense}
use Rattle.problem_model.specs.declared.line.Line.{Line}
use Rattle.problem_model.specs.Grids.{Grid}
use Rattle.problem_model.specs.Matrices.{no_line, line_at, live_only, Crosses, IsMatrix}
use Rattle.problem_model.specs.Problems.{row_at, column_at, IsSparse}
use Rattle.problem_model.specs.Sparse.{Sparse}
use Rattle.problem_laws.proofs.AtIds.{live_inside}
use Rattle.problem_laws.proofs.Entries.{live_only-same}
use Rattle.problem_laws.proofs.Keeping.{few}
use Rattle.problem_model.specs.Edits.{line_put, lines_put, entry_set, cost_set}
use Rattle.problem_laws.proofs.Terms.{not_both}
use Rattle.problem_laws.proofs.PutTerms.{dense-put_term, ascends-put_term, count_moves}

-- ---- lines of which one has another number at k
pub put-same_line : (lines : List Line) (m k : ℕ) (c : Number) → m < length lines → line_at (lines_put lines m k c) m ≡ line_put k c (line_at lines m)
put-same_line lines m k c l = get_or-set_same lines m (line_put k c (line_at lines m)) no_line l

pub put-other_line : (lines : List Line) (m k : ℕ) (c : Number) (x : ℕ) → x ≢ m → line_at (lines_put lines m k c) x ≡ line_at lines x
put-other_line lines m k c x n = get_or-set_other lines m x (line_put k c (line_at lines m)) no_line n

pub put_long : (lines : List Line) (m k : ℕ) (c : Number) → length (lines_put lines m k c) ≡ length lines
put_long lines m k c = length-set lines m (line_put k c (line_at lines m))

pub put_live : (lines : List Line) (m k : ℕ) (c : Number) → m < length lines → (x : ℕ) → (line_at (lines_put lines m k c) x).live ≡ (line_at lines x).live
put_live lines m k c l = at_or_off (λ x. (line_at (lines_put lines m k c) x).live ≡ (line_at lines x).live) m
    (ap (λ (y : Line). y.live) (put-same_line lines m k c l)) (λ x n. ap (λ (y : Line). y.live) (put-other_line lines m k c x n))

pub put_crosses : (lines others new : List Line) (m k : ℕ) (c : Number) → (line_at lines m).live ≡ true → k < length others → (line_at others k).live ≡ true
    → length new ≡ length others → ((x : ℕ) → (line_at new x).live ≡ (line_at others x).live) → Crosses lines others → Crosses (lines_put lines m k c) new
put_crosses lines others new m k c on lk live long same h = record {
  ascends = λ x. subst (λ (n : ℕ). Ascends 0 n (line_at (lines_put lines m k c) x).entries) (sym long) (ascends x);
  counted = λ x. counted x ∙ ap length (sym (live_only-same others new same (line_at (lines_put lines m k c) x).entries));
  gone = at_or_off (λ x. (line_at (lines_put lines m k c) x).live ≡ false → (line_at (lines_put lines m k c) x).entries ≡ []) m
      (λ off. absurd (not_both (put_live lines m k c lm m ∙ on) off))
      (λ x n. subst (λ (l : Line). l.live ≡ false → l.entries ≡ []) (sym (put-other_line lines m k c x n)) (h.gone x));
}
  where
    lm : m < length lines
    lm = live_inside lines m on

    ascends : (x : ℕ) → Ascends 0 (length others) (line_at (lines_put lines m k c) x).entries
    ascends = at_or_off (λ x. Ascends 0 (length others) (line_at (lines_put lines m k c) x).entries) m
        (subst (λ (l : Line). Ascends 0 (length others) l.entries) (sym (put-same_line lines m k c lm)) (ascends-put_term k c (line_at lines m).entries 0 (length others) (omega arith) lk (h.ascends m)))
        (λ x n. subst (λ (l : Line). Ascends 0 (length others) l.entries) (sym (put-other_line lines m k c x n)) (h.ascends x))

    counted : (x : ℕ) → (line_at (lines_put lines m k c) x).live_entries ≡ length (live_only others (line_at (lines_put lines m k c) x).entries)
    counted = at_or_off (λ x. (line_at (lines_put lines m k c) x).live_entries ≡ length (live_only others (line_at (lines_put lines m k c) x).entries)) m
        (subst (λ (l : Line). l.live_entries ≡ length (live_only others l.entries)) (sym (put-same_line lines m k c lm)) (count_moves others k c live (line_at lines m).entries (line_at lines m).live_entries (h.counted m)))
        (λ x n. subst (λ (l : Line). l.live_entries ≡ length (live_only others l.entries)) (sym (put-other_line lines m k c x n)) (h.counted x))

-- the numbers of a line
pub put_dense : (lines : List Line) (m k : ℕ) (c : Number) (n : ℕ) → m < length lines → Ascends 0 n (line_at lines m).entries → (y : ℕ)
    → dense (line_at (lines_put lines m k c) m).entries y ≡ put (dense (line_at lines m).entries) k c y
put_dense lines m k c n l a y = ap (λ (x : Line). dense x.entries y) (put-same_line lines m k c l) ∙ dense-put_term k c (line_at lines m).entries 0 n a y

pub put_dense_other : (lines : List Line) (m k : ℕ) (c : Number) (x : ℕ) → x ≢ m → (y : ℕ) → dense (line_at (lines_put lines m k c) x).entries y ≡ dense (line_at lines x).entries y
put_dense_other lines m k c x n y = ap (λ (l : Line). dense l.entries y) (put-other_line lines m k c x n)

pub entry_set_matrix : (g : Grid) (m k : ℕ) (c : Number) → (line_at g.rows m).live ≡ true → (line_at g.columns k).live ≡ true → IsMatrix g
    → IsMatrix (record { rows = lines_put g.rows m k c; columns = lines_put g.columns k m c })
entry_set_matrix g m k c row column h = record {
  rows = put_crosses g.rows g.columns (lines_put g.columns k m c) m k c row lk column (put_long g.columns k m c) (put_live g.columns k m c lk) h.rows;
  columns = put_crosses g.columns g.rows (lines_put g.rows m k c) k m c column lm row (put_long g.rows m k c) (put_live g.rows m k c lm) h.columns;
  agree = λ a b on off. by a b (sym (put_live g.rows m k c lm a) ∙ on) (sym (put_live g.columns k m c lk b) ∙ off) (cases_eq a m) (cases_eq b k);
}
  where
    lm : m < length g.rows
    lm = live_inside g.rows m row

    lk : k < length g.columns
    lk = live_inside g.columns k column

    at_row : (b : ℕ) → dense (line_at (lines_put g.rows m k c) m).entries b ≡ put (dense (line_at g.rows m).entries) k c b
    at_row = put_dense g.rows m k c (length g.columns) lm (h.rows.ascends m)

    at_column : (a : ℕ) → dense (line_at (lines_put g.columns k m c) k).entries a ≡ put (dense (line_at g.columns k).entries) m c a
    at_column = put_dense g.columns k m c (length g.rows) lk (h.columns.ascends k)

    by : (a b : ℕ) → (line_at g.rows a).live ≡ true → (line_at g.columns b).live ≡ true → (a ≡ m) ⊎ (a ≢ m) → (b ≡ k) ⊎ (b ≢ k)
        → dense (line_at (lines_put g.rows m k c) a).entries b ≡ dense (line_at (lines_put g.columns k m c) b).entries a
    by a b on off (inl e) (inl f) =
        ap₂ (λ (x y : ℕ). dense (line_at (lines_put g.rows m k c) x).entries y) e f ∙ at_row k ∙ put-same (dense (line_at g.rows m).entries) k c
        ∙ sym (ap₂ (λ (x y : ℕ). dense (line_at (lines_put g.columns k m c) x).entries y) f e ∙ at_column m ∙ put-same (dense (line_at g.columns k).entries) m c)
    by a b on off (inl e) (inr n) =
        ap (λ (x : ℕ). dense (line_at (lines_put g.rows m k c) x).entries b) e ∙ at_row b ∙ put-other (dense (line_at g.rows m).entries) k c b n
        ∙ h.agree m b row off ∙ ap (λ (x : ℕ). dense (line_at g.columns b).entries x) (sym e) ∙ sym (put_dense_other g.columns k m c b n a)
    by a b on off (inr d) (inl f) =
        put_dense_other g.rows m k c a d b ∙ h.agree a b on off ∙ ap (λ (x : ℕ). dense (line_at g.columns x).entries a) f
        ∙ sym (ap (λ (x : ℕ). dense (line_at (lines_put g.columns k m c) x).entries a) f ∙ at_column a ∙ put-other (dense (line_at g.columns k).entries) m c a d)
    by a b on off (inr d) (inr n) = put_dense_other g.rows m k c a d b ∙ h.agree a b on off ∙ sym (put_dense_other g.columns k m c b n a)

pub entry_set_sparse : (p : Sparse) (m k : ℕ) (c : Number) → IsSparse p → (row_at p m).live ≡ true → (column_at p k).live ≡ true → IsSparse (entry_set p m k c)
entry_set_sparse p m k c s row column = record {
  matrix = entry_set_matrix p.matrix m k c row column s.matrix;
  few_rows = few (length p.matrix.rows) _ (put_long p.matrix.rows m k c) s.few_rows;
  few_columns = few (length p.matrix.columns) _ (put_long p.matrix.columns k m c) s.few_columns;
  sides = s.sides ∙ sym (put_long p.matrix.rows m k c);
  bounds = s.bounds ∙ sym (put_long p.matrix.columns k m c);
  costs = s.costs ∙ sym (put_long p.matrix.columns k m c);
}

pub put_row_live : (p : Sparse) (m k : ℕ) (c : Number) → (row_at p m).live ≡ true → (i : ℕ) → (row_at (entry_set p m k c) i).live ≡ (row_at p i).live
put_row_live p m k c row = put_live p.matrix.rows m k c (live_inside p.matrix.rows m row)

pub put_column_live : (p : Sparse) (m k : ℕ) (c : Number) → (column_at p k).live ≡ true → (j : ℕ) → (column_at (entry_set p m k c) j).live ≡ (column_at p j).live
put_column_live p m k c column = put_live p.matrix.columns k m c (live_inside p.matrix.columns k column)

pub cost_set_sparse : (p : Sparse) (k : ℕ) (c : Number) → IsSparse p → IsSparse (cost_set p k c)
cost_set_sparse p k c s = record {
  matrix = s.matrix;
  few_rows = s.few_rows;
  few_columns = s.few_columns;
  sides = s.sides;
  bounds = s.bounds;
  costs = length-set p.costs k c ∙ s.costs;
}
