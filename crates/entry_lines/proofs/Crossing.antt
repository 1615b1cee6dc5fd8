-- What rows have across columns.
use Rattle.std.proofs.Common.{◌≡◌, ◌≢◌, ℕ, zero, suc, ◌+◌, ◌<◌, ◌≤◌, Bool, true, false, List, [], ◌∷◌, ◌++◌, length, map, drop, take, get_or, sym, refl, ap, ap₂, ◌∙◌, subst, arith, ◌⊎◌, inl, inr}
use Rattle.std.specs.Prelude.{if◌then◌else◌}
use Rattle.std.specs.List.{All}
use Rattle.std.proofs.lemmas.Bool.{cases_lt}
use Rattle.std.proofs.lemmas.List.{append-nil, append_assoc, length-map, length-take-le, get_or_past, take_more}
use Rattle.std.proofs.lemmas.List.Elements.{All-head, All-tail}
use Rattle.fractions.specs.Number.{zero_ℚ}
use Rattle.lp_model.specs.declared.terms.Term.{Term}
use Rattle.lp_model.specs.declared.program.ColumnDef.{ColumnDef}
use Rattle.lp_model.specs.Sparse.{Ascends, dense, has}
use Rattle.problem_model.specs.declared.line.Line.{Line}
use Rattle.problem_model.specs.Matrices.{no_line, line_at, live_only, IsMatrix}
use Rattle.problem_model.specs.Programs.{line_of}
use Rattle.problem_laws.proofs.Terms.{not_both, dense-cons_same, dense-cons_other, dense-absent, dense-named, has-below, has-beyond}
use Rattle.entry_lines.specs.Across.{crossing, across, with_entry, scattered}
use Rattle.entry_lines.proofs.Named.{ascends_wider}
use Rattle.entry_lines.proofs.Places.{edited_at-at, length-edited_at}
use Rattle.entry_lines.proofs.Deleting.{written_back}

-- ---- one column more
pub crossing_put : (i j : ℕ) (ts row : List Term) → (if has i ts then with_entry j (record { id = i; value = dense ts i }) row else row) ≡ row ++ crossing i j ts
crossing_put i j ts row = by (has i ts)
  where
    by : (b : Bool) → (if b then row ++ record { id = j; value = dense ts i } ∷ [] else row) ≡ row ++ (if b then record { id = j; value = dense ts i } ∷ [] else [])
    by true = refl
    by false = sym (append-nil row)

pub scattered-at : (j : ℕ) (rows : List (List Term)) (ts : List Term) → Ascends 0 (length rows) ts → (i : ℕ) → get_or (scattered j rows ts) i [] ≡ get_or rows i [] ++ crossing i j ts
scattered-at j rows ts a i = edited_at-at [] (with_entry j) rows ts 0 (length rows) a (omega arith) i ∙ crossing_put i j ts (get_or rows i [])

pub across-append : (i j : ℕ) (cs ds : List ColumnDef) → across i j (cs ++ ds) ≡ across i j cs ++ across i (j + length cs) ds
across-append i j [] ds = ap (λ k. across i k ds) (omega arith)
across-append i j (c ∷ cs) ds =
    ap (λ ts. crossing i j c.entries ++ ts) (across-append i (j + 1) cs ds ∙ ap (λ k. across i (j + 1) cs ++ across i k ds) (omega arith))
    ∙ sym (append_assoc (crossing i j c.entries) (across i (j + 1) cs) (across i (j + suc (length cs)) ds))

pub across_more : (i n : ℕ) (cs : List ColumnDef) (c : ColumnDef) → n < length cs → c ≡ get_or cs n c → across i 0 (take (n + 1) cs) ≡ across i 0 (take n cs) ++ crossing i n c.entries
across_more i n cs c l e =
    let long : 0 + length (take n cs) ≡ n = omega (arith, length-take-le n cs (omega arith)) in
    ap (across i 0) (take_more cs n c l) ∙ across-append i 0 (take n cs) (get_or cs n c ∷ [])
    ∙ ap (λ (k : ℕ). across i 0 (take n cs) ++ across i k (get_or cs n c ∷ [])) long
    ∙ ap (λ (ts : List Term). across i 0 (take n cs) ++ ts) (append-nil (crossing i n (get_or cs n c).entries))
    ∙ ap (λ (d : ColumnDef). across i 0 (take n cs) ++ crossing i n d.entries) (sym e)

-- ---- what stands across
pub across_ascends : (i n m : ℕ) (cs : List ColumnDef) → All (λ (c : ColumnDef). Ascends 0 n c.entries) cs → Ascends m (m + length cs) (across i m cs)
across_ascends i n m [] a = tt
across_ascends i n m (c ∷ cs) a = by (has i c.entries) refl (across_ascends i n (m + 1) cs (All-tail (λ (c : ColumnDef). Ascends 0 n c.entries) c cs a))
  where
    by : (b : Bool) → has i c.entries ≡ b → Ascends (m + 1) (m + 1 + length cs) (across i (m + 1) cs)
        → Ascends m (m + suc (length cs)) ((if b then record { id = m; value = dense c.entries i } ∷ [] else []) ++ across i (m + 1) cs)
    by true e ih = (omega arith, omega arith, dense-named i c.entries 0 n (All-head (λ (c : ColumnDef). Ascends 0 n c.entries) c cs a) e, ascends_wider (across i (m + 1) cs) (m + 1) (m + 1 + length cs) (suc m) (m + suc (length cs)) (omega arith) (omega arith) ih)
    by false e ih = ascends_wider (across i (m + 1) cs) (m + 1) (m + 1 + length cs) m (m + suc (length cs)) (omega arith) (omega arith) ih

pub dense-below : (ts : List Term) (m n k : ℕ) → Ascends m n ts → k < m → dense ts k ≡ zero_ℚ
dense-below ts m n k a l = dense-absent k ts (has-below ts m n k a l)

pub dense-beyond : (ts : List Term) (m n k : ℕ) → Ascends m n ts → n ≤ k → dense ts k ≡ zero_ℚ
dense-beyond ts m n k a l = dense-absent k ts (has-beyond ts m n k a l)

-- the lines of columns
abbrev pub lines_of : List ColumnDef → List Line
lines_of cs = map (λ c. line_of c.entries) cs

pub across_dense : (i n m j p : ℕ) (cs : List ColumnDef) → All (λ (c : ColumnDef). Ascends 0 n c.entries) cs → p ≡ m + j → dense (across i m cs) p ≡ dense (line_at (lines_of cs) j).entries i
across_dense i n m j p [] a e = refl
across_dense i n m zero p (c ∷ cs) a e = by (has i c.entries) refl
  where
    rest : dense (across i (m + 1) cs) p ≡ zero_ℚ
    rest = dense-below (across i (m + 1) cs) (m + 1) (m + 1 + length cs) p (across_ascends i n (m + 1) cs (All-tail (λ (c : ColumnDef). Ascends 0 n c.entries) c cs a)) (omega (arith, e))

    by : (b : Bool) → has i c.entries ≡ b → dense ((if b then record { id = m; value = dense c.entries i } ∷ [] else []) ++ across i (m + 1) cs) p ≡ dense c.entries i
    by true h = dense-cons_same (record { id = m; value = dense c.entries i }) (across i (m + 1) cs) p (omega (arith, e))
    by false h = rest ∙ sym (dense-absent i c.entries h)
across_dense i n m (suc j) p (c ∷ cs) a e = by (has i c.entries) (across_dense i n (m + 1) j p cs (All-tail (λ (c : ColumnDef). Ascends 0 n c.entries) c cs a) (omega (arith, e)))
  where
    by : (b : Bool) → dense (across i (m + 1) cs) p ≡ dense (line_at (lines_of cs) j).entries i
        → dense ((if b then record { id = m; value = dense c.entries i } ∷ [] else []) ++ across i (m + 1) cs) p ≡ dense (line_at (lines_of cs) j).entries i
    by true ih = let d : m ≢ p = omega (arith, e) in dense-cons_other (record { id = m; value = dense c.entries i }) (across i (m + 1) cs) p d ∙ ih
    by false ih = ih

-- ---- the matrix
pub all_live : (others : List Line) (ts : List Term) (m n : ℕ) → Ascends m n ts → ((k : ℕ) → k < n → (line_at others k).live ≡ true) → live_only others ts ≡ ts
all_live others [] m n a h = refl
all_live others (t ∷ ts) m n a h = rw (h t.id a.1) (ap (λ (us : List Term). t ∷ us) (all_live others ts (suc t.id) n a.3 h))

-- a line whose entries ascend below the number of the others, and are counted, and which has none if it isn't live
abbrev pub IsCounted : List Line → Line → Type 0
IsCounted others y = Ascends 0 (length others) y.entries × (y.live_entries ≡ length (live_only others y.entries)) × (y.live ≡ false → y.entries ≡ [])

pub line_counted : (others : List Line) (y : Line) (ts : List Term) → y ≡ line_of ts → Ascends 0 (length others) ts → ((k : ℕ) → k < length others → (line_at others k).live ≡ true) → IsCounted others y
line_counted others y ts e a h = subst (λ (z : Line). IsCounted others z) (sym e) (a, sym (ap length (all_live others ts 0 (length others) a h)), λ off. absurd (not_both refl off))

pub none_counted : (others : List Line) (y : Line) → y ≡ no_line → IsCounted others y
none_counted others y e = subst (λ (z : Line). IsCounted others z) (sym e) (tt, refl, λ off. refl)

pub column_counted : (others : List Line) (cs : List ColumnDef) (k : ℕ) → All (λ (c : ColumnDef). Ascends 0 (length others) c.entries) cs → ((k : ℕ) → k < length others → (line_at others k).live ≡ true) → IsCounted others (line_at (lines_of cs) k)
column_counted others [] k a h = none_counted others no_line refl
column_counted others (c ∷ cs) zero a h = line_counted others (line_of c.entries) c.entries refl (All-head (λ (c : ColumnDef). Ascends 0 (length others) c.entries) c cs a) h
column_counted others (c ∷ cs) (suc k) a h = column_counted others cs k (All-tail (λ (c : ColumnDef). Ascends 0 (length others) c.entries) c cs a) h

pub columns_live : (cs : List ColumnDef) (k : ℕ) → k < length (lines_of cs) → (line_at (lines_of cs) k).live ≡ true
columns_live [] k l = absurd (omega arith)
columns_live (c ∷ cs) zero l = refl
columns_live (c ∷ cs) (suc k) l = columns_live cs k (omega arith)

pub matrix_of : (rows : List Line) (cs : List ColumnDef) → All (λ (c : ColumnDef). Ascends 0 (length rows) c.entries) cs → ((i : ℕ) → i < length rows → line_at rows i ≡ line_of (across i 0 cs))
    → IsMatrix (record { rows = rows; columns = lines_of cs })
matrix_of rows cs a h = record {
  rows = record { ascends = λ k. (row k (cases_lt k (length rows))).0; counted = λ k. (row k (cases_lt k (length rows))).1; gone = λ k. (row k (cases_lt k (length rows))).2 };
  columns = record { ascends = λ k. (column k).0; counted = λ k. (column k).1; gone = λ k. (column k).2 };
  agree = λ i j on off. each i j (cases_lt i (length rows));
}
  where
    long : length (lines_of cs) ≡ length cs
    long = length-map cs (λ c. line_of c.entries)

    row : (k : ℕ) → (k < length rows) ⊎ (length rows ≤ k) → IsCounted (lines_of cs) (line_at rows k)
    row k (inl l) = line_counted (lines_of cs) (line_at rows k) (across k 0 cs) (h k l)
        (ascends_wider (across k 0 cs) 0 (0 + length cs) 0 (length (lines_of cs)) (omega arith) (omega (arith, long)) (across_ascends k (length rows) 0 cs a)) (columns_live cs)
    row k (inr g) = none_counted (lines_of cs) (line_at rows k) (get_or_past rows k no_line g)

    column : (k : ℕ) → IsCounted rows (line_at (lines_of cs) k)
    column k = column_counted rows cs k a (λ i l. ap (λ (y : Line). y.live) (h i l))

    each : (i j : ℕ) → (i < length rows) ⊎ (length rows ≤ i) → dense (line_at rows i).entries j ≡ dense (line_at (lines_of cs) j).entries i
    each i j (inl l) = ap (λ (y : Line). dense y.entries j) (h i l) ∙ across_dense i (length rows) 0 j j cs a (omega arith)
    each i j (inr g) = ap (λ (y : Line). dense y.entries j) (get_or_past rows i no_line g) ∙ sym (dense-beyond (line_at (lines_of cs) j).entries 0 (length rows) i (column j).0 g)

-- ---- column by column
pub ascends_at : (count n : ℕ) (slice : List (List Term)) (cs : List ColumnDef) (c : ColumnDef) (ts : List Term) → length slice ≡ count → n < length cs → c ≡ get_or cs n c → ts ≡ c.entries
    → All (λ (c : ColumnDef). Ascends 0 count c.entries) cs → Ascends 0 (length slice) ts
ascends_at count n slice cs c ts long l e f a =
    subst (λ (k : ℕ). Ascends 0 k ts) (sym long) (subst (λ (us : List Term). Ascends 0 count us) (sym (f ∙ ap (λ (d : ColumnDef). d.entries) e)) (a n c l))

pub across_next : (count m n : ℕ) (rows slice new : List (List Term)) (cs : List ColumnDef) (c : ColumnDef) (ts : List Term) → slice ≡ rows → length rows ≡ m → length rows ≡ count → n < length cs
    → c ≡ get_or cs n c → ts ≡ c.entries → All (λ (c : ColumnDef). Ascends 0 count c.entries) cs → new ≡ scattered n slice ts
    → ((i : ℕ) → i < count → get_or rows i [] ≡ across i 0 (take n cs))
    → (length (take m (new ++ drop (length new) rows)) ≡ count) × ((i : ℕ) → i < count → get_or (take m (new ++ drop (length new) rows)) i [] ≡ across i 0 (take (n + 1) cs))
across_next count m n rows slice new cs c ts s lm lc l ce te a made inv =
    let all : new ≡ scattered n rows c.entries = made ∙ ap₂ (λ (us : List (List Term)) (vs : List Term). scattered n us vs) s te in
    let long : length new ≡ length rows = ap length all ∙ length-edited_at [] (with_entry n) rows c.entries in
    let back : take m (new ++ drop (length new) rows) ≡ new = written_back m new rows long lm in
    let asc : Ascends 0 (length rows) c.entries = ascends_at count n rows cs c c.entries lc l ce refl a in (
      ap length back ∙ long ∙ lc,
      λ i il. ap (λ (xs : List (List Term)). get_or xs i []) (back ∙ all) ∙ scattered-at n rows c.entries asc i ∙ ap (λ (us : List Term). us ++ crossing i n c.entries) (inv i il) ∙ sym (across_more i n cs c l ce),
    )
