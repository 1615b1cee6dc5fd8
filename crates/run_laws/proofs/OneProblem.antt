-- A program has one problem.
use Rattle.std.proofs.Common.{◌≡◌, ◌≢◌, ◌⊎◌, inl, inr, ℕ, zero, suc, ◌<◌, ◌≤◌, List, [], ◌∷◌, length, sym, refl, ap, ap₂, ◌∙◌, subst, arith}
use Rattle.std.proofs.lemmas.Bool.{cases_eq, cases_lt}
use Rattle.std.proofs.lemmas.List.{get_or_past}
use Rattle.fractions.specs.Number.{Number, zero_ℚ}
use Rattle.lp_model.specs.ProgramData.{ProgramData}
use Rattle.lp_model.specs.Sparse.{Ascends, dense}
use Rattle.lp_model.specs.declared.terms.Term.{Term}
use Rattle.lp_theory.proofs.SparseSums.{dense-below}
use Rattle.problem_model.specs.declared.line.Line.{Line}
use Rattle.problem_model.specs.Matrices.{line_at, no_line}
use Rattle.problem_model.specs.Problems.{row_at}
use Rattle.problem_model.specs.Programs.{IsProblemOf, line_of}
use Rattle.problem_model.specs.Sparse.{Sparse}
use Rattle.problem_laws.proofs.Terms.{dense-absent, dense-cons_other, dense-cons_same, has-beyond}
use Rattle.program_laws.proofs.ProblemsShow.{columns_length, row_live, column_live}

-- ---- terms in order are told by the numbers at their ids
same_term : (t u : Term) → t.id ≡ u.id → t.value ≡ u.value → t ≡ u
same_term t u e f = ap₂ (λ (i : ℕ) (w : Number). let x : Term = record { id = i; value = w } in x) e f

-- a term below all others is told
told_below : (t : Term) (ts us : List Term) (n : ℕ) → t.value ≢ zero_ℚ → Ascends (suc t.id) n us → dense (t ∷ ts) t.id ≡ dense us t.id → ⊥
told_below t ts us n nonzero a e = nonzero (sym (dense-cons_same t ts t.id refl) ∙ e ∙ dense-below us (suc t.id) n t.id a (omega arith))

wider_start : (m k n : ℕ) (u : Term) (us : List Term) → k ≤ u.id → Ascends m n (u ∷ us) → Ascends k n (u ∷ us)
wider_start m k n u us l a = (l, a.1, a.2, a.3)

terms_same : (ts us : List Term) (m n : ℕ) → Ascends m n ts → Ascends m n us → ((k : ℕ) → dense ts k ≡ dense us k) → ts ≡ us
terms_same [] [] m n a b h = refl
terms_same [] (u ∷ us) m n a b h = absurd (b.2 (sym (dense-cons_same u us u.id refl) ∙ sym (h u.id)))
terms_same (t ∷ ts) [] m n a b h = absurd (a.2 (sym (dense-cons_same t ts t.id refl) ∙ h t.id))
terms_same (t ∷ ts) (u ∷ us) m n a b h = by (cases_eq t.id u.id) (terms_same ts us (suc t.id) n a.3)
  where
    rest : t.id ≡ u.id → (k : ℕ) → (t.id ≡ k) ⊎ (t.id ≢ k) → dense ts k ≡ dense us k
    rest e k (inl f) = dense-below ts (suc t.id) n k a.3 (omega (arith, f)) ∙ sym (dense-below us (suc u.id) n k b.3 (omega (arith, e, f)))
    rest e k (inr d) = sym (dense-cons_other t ts k d) ∙ h k ∙ dense-cons_other u us k (λ f. d (e ∙ f))

    apart : t.id ≢ u.id → (t.id < u.id) ⊎ (u.id ≤ t.id) → ⊥
    apart d (inl l) = told_below t ts (u ∷ us) n a.2 (wider_start m (suc t.id) n u us (omega (arith, l)) b) (h t.id)
    apart d (inr g) = told_below u us (t ∷ ts) n b.2 (wider_start m (suc u.id) n t ts (omega (arith, g, d)) a) (sym (h u.id))

    by : (t.id ≡ u.id) ⊎ (t.id ≢ u.id) → (Ascends (suc t.id) n us → ((k : ℕ) → dense ts k ≡ dense us k) → ts ≡ us) → t ∷ ts ≡ u ∷ us
    by (inl e) ih = ap₂ (λ (x : Term) (xs : List Term). x ∷ xs)
        (same_term t u e (sym (dense-cons_same t ts t.id refl) ∙ h t.id ∙ dense-cons_same u us t.id (sym e)))
        (ih (subst (λ (k : ℕ). Ascends (suc k) n us) (sym e) b.3) (λ k. rest e k (cases_eq t.id k)))
    by (inr d) ih = absurd (apart d (cases_lt t.id u.id))

-- ---- lines are told by what stands at each place
lines_same : (xs ys : List Line) → length xs ≡ length ys → ((k : ℕ) → line_at xs k ≡ line_at ys k) → xs ≡ ys
lines_same [] [] e h = refl
lines_same [] (y ∷ ys) e h = absurd (omega (arith, e))
lines_same (x ∷ xs) [] e h = absurd (omega (arith, e))
lines_same (x ∷ xs) (y ∷ ys) e h = ap₂ (λ (z : Line) (zs : List Line). z ∷ zs) (h zero) (lines_same xs ys (omega (arith, e)) (λ k. h (suc k)))

module _ (program : ProgramData) (p q : Sparse) (o : IsProblemOf program p) (r : IsProblemOf program q) where
  columns_one : p.matrix.columns ≡ q.matrix.columns
  columns_one = o.columns ∙ sym r.columns

  long : length p.matrix.rows ≡ length q.matrix.rows
  long = o.rows ∙ sym r.rows

  row_terms : (i : ℕ) → i < length program.rows → (row_at p i).entries ≡ (row_at q i).entries
  row_terms i l = terms_same (row_at p i).entries (row_at q i).entries 0 (length p.matrix.columns) (o.sound.matrix.rows.ascends i) ascends (λ j. by j (cases_lt j (length program.columns)))
    where
      ascends : Ascends 0 (length p.matrix.columns) (row_at q i).entries
      ascends = subst (λ (k : ℕ). Ascends 0 k (row_at q i).entries) (sym (ap length columns_one)) (r.sound.matrix.rows.ascends i)

      none : (ts : List Term) (j : ℕ) → Ascends 0 (length p.matrix.columns) ts → length program.columns ≤ j → dense ts j ≡ zero_ℚ
      none ts j a g = dense-absent j ts (has-beyond ts 0 (length p.matrix.columns) j a (omega (arith, g, columns_length program p o)))

      by : (j : ℕ) → (j < length program.columns) ⊎ (length program.columns ≤ j) → dense (row_at p i).entries j ≡ dense (row_at q i).entries j
      by j (inl m) = o.sound.matrix.agree i j (row_live program p o i l) (column_live program p o j m) ∙ ap (λ (ls : List Line). dense (line_at ls j).entries i) columns_one
          ∙ sym (r.sound.matrix.agree i j (row_live program q r i l) (column_live program q r j m))
      by j (inr g) = none (row_at p i).entries j (o.sound.matrix.rows.ascends i) g ∙ sym (none (row_at q i).entries j ascends g)

  row_same : (i : ℕ) → row_at p i ≡ row_at q i
  row_same i = by (cases_lt i (length program.rows))
    where
      by : (i < length program.rows) ⊎ (length program.rows ≤ i) → row_at p i ≡ row_at q i
      by (inl l) = o.live i l ∙ ap line_of (row_terms i l) ∙ sym (r.live i l)
      by (inr g) = get_or_past p.matrix.rows i no_line (omega (arith, g, o.rows)) ∙ sym (get_or_past q.matrix.rows i no_line (omega (arith, g, r.rows)))

  rows_one : p.matrix.rows ≡ q.matrix.rows
  rows_one = lines_same p.matrix.rows q.matrix.rows long row_same

  pub one_problem : p ≡ q
  one_problem =
      let e1 = rows_one in
      let e2 = columns_one in
      let e3 = o.sides ∙ sym r.sides in
      let e4 = o.bounds ∙ sym r.bounds in
      let e5 = o.costs ∙ sym r.costs in
      let e6 = o.offset ∙ sym r.offset in
      let e7 = o.constant ∙ sym r.constant in
      λ t. record { matrix = record { rows = e1 t; columns = e2 t }; sides = e3 t; bounds = e4 t; costs = e5 t; offset = e6 t; constant = e7 t }
