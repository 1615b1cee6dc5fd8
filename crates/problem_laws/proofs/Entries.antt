-- The entries of rows and columns at what is live.
use Rattle.std.proofs.Common.{◌≡◌, ◌≢◌, ℕ, ◌<◌, Bool, true, false, ◌&&◌, cond, List, [], ◌∷◌, length, sym, refl, ap, ap₂, ◌∙◌, ◌⊎◌, inl, inr}
use Rattle.std.specs.Prelude.{if◌then◌else◌}
use Rattle.std.specs.List.{filter, All}
use Rattle.std.proofs.lemmas.Bool.{cases_eq}
use Rattle.std.proofs.lemmas.List.Elements.{filter_passes}
use Rattle.fractions.specs.Number.{Number, zero_ℚ}
use Rattle.lp_model.specs.declared.terms.Term.{Term}
use Rattle.lp_model.specs.Sparse.{Ascends, dense, has, without}
use Rattle.problem_model.specs.declared.line.Line.{Line}
use Rattle.problem_model.specs.Matrices.{line_at, live_only, Crosses}
use Rattle.problem_model.specs.Problems.{row_at, column_at, row_entries, column_entries, IsSparse}
use Rattle.problem_model.specs.Edits.{losing, lines_without, lines_losing, row_deleted, column_deleted}
use Rattle.problem_model.specs.Sparse.{Sparse}
use Rattle.problem_laws.proofs.AtIds.{without-dead, without-live, without-other, losing_keeps, losing-at, losing-live}
use Rattle.problem_laws.proofs.Terms.{not_both, has-cons_same, has-cons_other, without-cons_same, without-cons_other, dense-cons_same, dense-cons_other, same_ids, ids_below, none_zero, terms_tell, ascends-filter}

-- ---- the terms that name a live line
pub live_only-same : (old new : List Line) → ((k : ℕ) → (line_at new k).live ≡ (line_at old k).live) → (ts : List Term) → live_only new ts ≡ live_only old ts
live_only-same old new h ts = ap (λ (test : Term → Bool). filter test ts) (λ r t. h t.id r)

pub live_only-losing : (others lines : List Line) (k : ℕ) (ts : List Term) → live_only (lines_losing others lines k) ts ≡ live_only lines ts
live_only-losing others lines k ts = live_only-same lines (lines_losing others lines k) (losing-live others lines k) ts

-- one term more, whose line is live or not
abbrev joined : Bool → Term → List Term → List Term
joined b t ts = cond b (t ∷ ts) ts

-- a deleted line is left out
pub live_only-without : (lines : List Line) (k : ℕ) → k < length lines → (ts : List Term) → live_only (lines_without lines k) ts ≡ without k (live_only lines ts)
live_only-without lines k l [] = refl
live_only-without lines k l (t ∷ ts) = by (cases_eq t.id k) (live_only-without lines k l ts)
  where
    gone : t.id ≡ k → (b : Bool) → without k (live_only lines ts) ≡ without k (joined b t (live_only lines ts))
    gone e true = sym (without-cons_same k t (live_only lines ts) e)
    gone e false = refl

    kept : t.id ≢ k → (b : Bool) → joined b t (without k (live_only lines ts)) ≡ without k (joined b t (live_only lines ts))
    kept n true = sym (without-cons_other k t (live_only lines ts) n)
    kept n false = refl

    by : (t.id ≡ k) ⊎ (t.id ≢ k) → live_only (lines_without lines k) ts ≡ without k (live_only lines ts)
        → joined (line_at (lines_without lines k) t.id).live t (live_only (lines_without lines k) ts) ≡ without k (joined (line_at lines t.id).live t (live_only lines ts))
    by (inl e) ih = ap (λ (b : Bool). joined b t (live_only (lines_without lines k) ts)) (ap (λ (m : ℕ). (line_at (lines_without lines k) m).live) e ∙ without-dead lines k l)
        ∙ ih ∙ gone e (line_at lines t.id).live
    by (inr n) ih = ap (λ (b : Bool). joined b t (live_only (lines_without lines k) ts)) (without-live lines k t.id n)
        ∙ ap (λ (us : List Term). joined (line_at lines t.id).live t us) ih ∙ kept n (line_at lines t.id).live

and_false : (b : Bool) → (b && false) ≡ false
and_false true = refl
and_false false = refl

pub has-live_only : (lines : List Line) (k : ℕ) (ts : List Term) → has k (live_only lines ts) ≡ ((line_at lines k).live && has k ts)
has-live_only lines k [] = sym (and_false (line_at lines k).live)
has-live_only lines k (t ∷ ts) = by (cases_eq t.id k) (has-live_only lines k ts)
  where
    here : t.id ≡ k → (b : Bool) → (line_at lines k).live ≡ b → has k (live_only lines ts) ≡ ((line_at lines k).live && has k ts)
        → has k (joined b t (live_only lines ts)) ≡ ((line_at lines k).live && has k (t ∷ ts))
    here e true h ih = has-cons_same k t (live_only lines ts) e ∙ sym (ap₂ (λ (a c : Bool). a && c) h (has-cons_same k t ts e))
    here e false h ih = ih ∙ ap (λ (a : Bool). a && has k ts) h ∙ sym (ap (λ (a : Bool). a && has k (t ∷ ts)) h)

    off : t.id ≢ k → (b : Bool) → has k (joined b t (live_only lines ts)) ≡ has k (live_only lines ts)
    off n true = has-cons_other k t (live_only lines ts) n
    off n false = refl

    by : (t.id ≡ k) ⊎ (t.id ≢ k) → has k (live_only lines ts) ≡ ((line_at lines k).live && has k ts)
        → has k (joined (line_at lines t.id).live t (live_only lines ts)) ≡ ((line_at lines k).live && has k (t ∷ ts))
    by (inl e) ih = ap (λ (b : Bool). has k (joined b t (live_only lines ts))) (ap (λ (m : ℕ). (line_at lines m).live) e) ∙ here e (line_at lines k).live refl ih
    by (inr n) ih = off n (line_at lines t.id).live ∙ ih ∙ ap (λ (c : Bool). (line_at lines k).live && c) (sym (has-cons_other k t ts n))

both_zero : (b : Bool) → zero_ℚ ≡ if b then zero_ℚ else zero_ℚ
both_zero true = refl
both_zero false = refl

pub dense-live_only : (lines : List Line) (k : ℕ) (ts : List Term) → dense (live_only lines ts) k ≡ if (line_at lines k).live then dense ts k else zero_ℚ
dense-live_only lines k [] = both_zero (line_at lines k).live
dense-live_only lines k (t ∷ ts) = by (cases_eq t.id k) (dense-live_only lines k ts)
  where
    here : t.id ≡ k → (b : Bool) → (line_at lines k).live ≡ b → dense (live_only lines ts) k ≡ (if (line_at lines k).live then dense ts k else zero_ℚ)
        → dense (joined b t (live_only lines ts)) k ≡ if (line_at lines k).live then dense (t ∷ ts) k else zero_ℚ
    here e true h ih = dense-cons_same t (live_only lines ts) k e ∙ sym (ap₂ (λ (a : Bool) (c : Number). if a then c else zero_ℚ) h (dense-cons_same t ts k e))
    here e false h ih = ih ∙ ap (λ (a : Bool). if a then dense ts k else zero_ℚ) h ∙ sym (ap (λ (a : Bool). if a then dense (t ∷ ts) k else zero_ℚ) h)

    off : t.id ≢ k → (b : Bool) → dense (joined b t (live_only lines ts)) k ≡ dense (live_only lines ts) k
    off n true = dense-cons_other t (live_only lines ts) k n
    off n false = refl

    by : (t.id ≡ k) ⊎ (t.id ≢ k) → dense (live_only lines ts) k ≡ (if (line_at lines k).live then dense ts k else zero_ℚ)
        → dense (joined (line_at lines t.id).live t (live_only lines ts)) k ≡ if (line_at lines k).live then dense (t ∷ ts) k else zero_ℚ
    by (inl e) ih = ap (λ (b : Bool). dense (joined b t (live_only lines ts)) k) (ap (λ (m : ℕ). (line_at lines m).live) e) ∙ here e (line_at lines k).live refl ih
    by (inr n) ih = off n (line_at lines t.id).live ∙ ih ∙ ap (λ (c : Number). if (line_at lines k).live then c else zero_ℚ) (sym (dense-cons_other t ts k n))

pub ascends-live_only : (lines : List Line) (ts : List Term) (m n : ℕ) → Ascends m n ts → Ascends m n (live_only lines ts)
ascends-live_only lines ts m n a = ascends-filter (λ t. (line_at lines t.id).live) ts m n a

pub live_only-live : (lines : List Line) (ts : List Term) → All (λ t. (line_at lines t.id).live ≡ true) (live_only lines ts)
live_only-live lines ts = filter_passes (λ t. (line_at lines t.id).live) ts

-- at a live line nothing is left out
pub has-live : (lines : List Line) (k : ℕ) (ts : List Term) → (line_at lines k).live ≡ true → has k (live_only lines ts) ≡ has k ts
has-live lines k ts h = has-live_only lines k ts ∙ ap (λ (b : Bool). b && has k ts) h

pub dense-live : (lines : List Line) (k : ℕ) (ts : List Term) → (line_at lines k).live ≡ true → dense (live_only lines ts) k ≡ dense ts k
dense-live lines k ts h = dense-live_only lines k ts ∙ ap (λ (b : Bool). if b then dense ts k else zero_ℚ) h

-- the live ones of live ones are those
pub live_only-twice : (lines : List Line) (ts : List Term) → live_only lines (live_only lines ts) ≡ live_only lines ts
live_only-twice lines [] = refl
live_only-twice lines (t ∷ ts) = by (line_at lines t.id).live refl (live_only-twice lines ts)
  where
    by : (b : Bool) → (line_at lines t.id).live ≡ b → live_only lines (live_only lines ts) ≡ live_only lines ts → live_only lines (joined b t (live_only lines ts)) ≡ joined b t (live_only lines ts)
    by true e ih = ap (λ (b : Bool). joined b t (live_only lines (live_only lines ts))) e ∙ ap (λ (us : List Term). t ∷ us) ih
    by false e ih = ih

-- ---- the entries of a line that loses one
pub losing_live_only : (others : List Line) (k : ℕ) (l : Line) → live_only others (losing others k l).entries ≡ live_only others l.entries
losing_live_only others k l = losing_keeps others k l (λ us. live_only others us ≡ live_only others l.entries) refl (live_only-twice others l.entries)

pub losing-live_only : (others lines : List Line) (k m : ℕ) → live_only others (line_at (lines_losing others lines k) m).entries ≡ live_only others (line_at lines m).entries
losing-live_only others lines k m = ap (λ (y : Line). live_only others y.entries) (losing-at others lines k m) ∙ losing_live_only others k (line_at lines m)

-- at a live one of the others its numbers stay
pub losing-dense : (others lines : List Line) (k m n : ℕ) → (line_at others n).live ≡ true → dense (line_at (lines_losing others lines k) m).entries n ≡ dense (line_at lines m).entries n
losing-dense others lines k m n h = ap (λ (y : Line). dense y.entries n) (losing-at others lines k m)
    ∙ losing_keeps others k (line_at lines m) (λ us. dense us n ≡ dense (line_at lines m).entries n) refl (dense-live others n (line_at lines m).entries h)

-- ---- the entries of a problem's rows
pub row_entries-ascend : (p : Sparse) (i : ℕ) → IsSparse p → Ascends 0 (length p.matrix.columns) (row_entries p i)
row_entries-ascend p i s = ascends-live_only p.matrix.columns (row_at p i).entries 0 (length p.matrix.columns) (s.matrix.rows.ascends i)

pub row_entries-live : (p : Sparse) (i : ℕ) → All (λ t. (column_at p t.id).live ≡ true) (row_entries p i)
row_entries-live p i = live_only-live p.matrix.columns (row_at p i).entries

pub row_entries-below : (p : Sparse) (i : ℕ) → IsSparse p → All (λ t. t.id < length p.matrix.columns) (row_entries p i)
row_entries-below p i s = ids_below (row_entries p i) 0 (length p.matrix.columns) (row_entries-ascend p i s)

pub row_entries-none_zero : (p : Sparse) (i : ℕ) → IsSparse p → All (λ t. t.value ≢ zero_ℚ) (row_entries p i)
row_entries-none_zero p i s = none_zero (row_entries p i) 0 (length p.matrix.columns) (row_entries-ascend p i s)

pub row_entries-tell : (p : Sparse) (i : ℕ) → IsSparse p → All (λ t. dense (row_entries p i) t.id ≡ t.value) (row_entries p i)
row_entries-tell p i s = terms_tell (row_entries p i) 0 (length p.matrix.columns) (row_entries-ascend p i s)

pub row_entries-counted : (p : Sparse) (i : ℕ) → IsSparse p → length (row_entries p i) ≡ (row_at p i).live_entries
row_entries-counted p i s = sym (s.matrix.rows.counted i)

pub row_entries-has : (p : Sparse) (i j : ℕ) → (column_at p j).live ≡ true → has j (row_entries p i) ≡ has j (row_at p i).entries
row_entries-has p i j h = has-live p.matrix.columns j (row_at p i).entries h

pub row_entries-dense : (p : Sparse) (i j : ℕ) → (column_at p j).live ≡ true → dense (row_entries p i) j ≡ dense (row_at p i).entries j
row_entries-dense p i j h = dense-live p.matrix.columns j (row_at p i).entries h

-- ---- and of its columns
pub column_entries-ascend : (p : Sparse) (j : ℕ) → IsSparse p → Ascends 0 (length p.matrix.rows) (column_entries p j)
column_entries-ascend p j s = ascends-live_only p.matrix.rows (column_at p j).entries 0 (length p.matrix.rows) (s.matrix.columns.ascends j)

pub column_entries-live : (p : Sparse) (j : ℕ) → All (λ t. (row_at p t.id).live ≡ true) (column_entries p j)
column_entries-live p j = live_only-live p.matrix.rows (column_at p j).entries

pub column_entries-below : (p : Sparse) (j : ℕ) → IsSparse p → All (λ t. t.id < length p.matrix.rows) (column_entries p j)
column_entries-below p j s = ids_below (column_entries p j) 0 (length p.matrix.rows) (column_entries-ascend p j s)

pub column_entries-none_zero : (p : Sparse) (j : ℕ) → IsSparse p → All (λ t. t.value ≢ zero_ℚ) (column_entries p j)
column_entries-none_zero p j s = none_zero (column_entries p j) 0 (length p.matrix.rows) (column_entries-ascend p j s)

pub column_entries-tell : (p : Sparse) (j : ℕ) → IsSparse p → All (λ t. dense (column_entries p j) t.id ≡ t.value) (column_entries p j)
column_entries-tell p j s = terms_tell (column_entries p j) 0 (length p.matrix.rows) (column_entries-ascend p j s)

pub column_entries-counted : (p : Sparse) (j : ℕ) → IsSparse p → length (column_entries p j) ≡ (column_at p j).live_entries
column_entries-counted p j s = sym (s.matrix.columns.counted j)

pub column_entries-has : (p : Sparse) (j i : ℕ) → (row_at p i).live ≡ true → has i (column_entries p j) ≡ has i (column_at p j).entries
column_entries-has p j i h = has-live p.matrix.rows i (column_at p j).entries h

pub column_entries-dense : (p : Sparse) (j i : ℕ) → (row_at p i).live ≡ true → dense (column_entries p j) i ≡ dense (column_at p j).entries i
column_entries-dense p j i h = dense-live p.matrix.rows i (column_at p j).entries h

-- ---- rows and columns tell the same
pub entries_name : (p : Sparse) (i j : ℕ) → IsSparse p → (row_at p i).live ≡ true → (column_at p j).live ≡ true → has j (row_at p i).entries ≡ has i (column_at p j).entries
entries_name p i j s h k = same_ids j i 0 (length p.matrix.columns) 0 (length p.matrix.rows) (row_at p i).entries (column_at p j).entries
    (s.matrix.rows.ascends i) (s.matrix.columns.ascends j) (s.matrix.agree i j h k)

pub live_entries_name : (p : Sparse) (i j : ℕ) → IsSparse p → (row_at p i).live ≡ true → (column_at p j).live ≡ true → has j (row_entries p i) ≡ has i (column_entries p j)
live_entries_name p i j s h k = row_entries-has p i j k ∙ entries_name p i j s h k ∙ sym (column_entries-has p j i h)

pub live_entries_tell : (p : Sparse) (i j : ℕ) → IsSparse p → (row_at p i).live ≡ true → (column_at p j).live ≡ true → dense (row_entries p i) j ≡ dense (column_entries p j) i
live_entries_tell p i j s h k = row_entries-dense p i j k ∙ s.matrix.agree i j h k ∙ sym (column_entries-dense p j i h)

-- what has an entry is live
pub has_of_live : (lines others : List Line) (m k : ℕ) → Crosses lines others → has k (line_at lines m).entries ≡ true → (line_at lines m).live ≡ true
has_of_live lines others m k c h = by (line_at lines m).live refl
  where
    by : (b : Bool) → (line_at lines m).live ≡ b → b ≡ true
    by true e = refl
    by false e = absurd (not_both (sym (ap (has k) (c.gone m e)) ∙ h) refl)

-- ---- after an edit; new sides, bounds or offsets change no entries, by computing
pub row_deleted-row_entries : (p : Sparse) (i k : ℕ) → k ≢ i → row_entries (row_deleted p i) k ≡ row_entries p k
row_deleted-row_entries p i k n = live_only-losing (row_deleted p i).matrix.rows p.matrix.columns i (row_at (row_deleted p i) k).entries
    ∙ ap (λ (y : Line). live_only p.matrix.columns y.entries) (without-other p.matrix.rows i k n)

pub row_deleted-column_entries : (p : Sparse) (i : ℕ) → i < length p.matrix.rows → (j : ℕ) → column_entries (row_deleted p i) j ≡ without i (column_entries p j)
row_deleted-column_entries p i l j = losing-live_only (row_deleted p i).matrix.rows p.matrix.columns i j ∙ live_only-without p.matrix.rows i l (column_at p j).entries

pub column_deleted-column_entries : (p : Sparse) (j k : ℕ) → k ≢ j → column_entries (column_deleted p j) k ≡ column_entries p k
column_deleted-column_entries p j k n = live_only-losing (column_deleted p j).matrix.columns p.matrix.rows j (column_at (column_deleted p j) k).entries
    ∙ ap (λ (y : Line). live_only p.matrix.rows y.entries) (without-other p.matrix.columns j k n)

pub column_deleted-row_entries : (p : Sparse) (j : ℕ) → j < length p.matrix.columns → (i : ℕ) → row_entries (column_deleted p j) i ≡ without j (row_entries p i)
column_deleted-row_entries p j l i = losing-live_only (column_deleted p j).matrix.columns p.matrix.rows j i ∙ live_only-without p.matrix.columns j l (row_at p i).entries
