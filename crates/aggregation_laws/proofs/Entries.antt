-- New entries of one column, in each row that terms name.
use Rattle.std.proofs.Common.{◌≡◌, ◌≢◌, ◌⊎◌, inl, inr, ℕ, true, List, [], ◌∷◌, ◌++◌, map, refl, sym, ap, ◌∙◌, pos}
use Rattle.std.specs.List.{All}
use Rattle.std.proofs.lemmas.Bool.{cases_eq}
use Rattle.std.proofs.lemmas.List.Elements.{All-head, All-tail, All-map}
use Rattle.fractions.specs.Number.{Number, rational, zero_ℚ, ◌+ℚ◌}
use Rattle.fractions.specs.Ring.{ring, num, ◌:+◌}
use Rattle.fractions.specs.Total.{put}
use Rattle.fractions.proofs.Totals.{put-same, put-other, at_or_off}
use Rattle.lp_model.specs.declared.terms.Term.{Term}
use Rattle.lp_model.specs.Edits.{with_coefficient}
use Rattle.lp_model.specs.Flags.{Flags}
use Rattle.lp_model.specs.LinearProgram.{LinearProgram}
use Rattle.lp_model.specs.Sparse.{has}
use Rattle.problem_model.specs.declared.edit.Edit.{Edit}
use Rattle.problem_model.specs.declared.edit.Edit.TheVariants.{SetEntry}
use Rattle.problem_model.specs.Allowed.{AreAllowed, EntriesFirst, NoEntries}
use Rattle.problem_model.specs.Applied.{applied}
use Rattle.problem_model.specs.EditedPrograms.{programs_edited}
use Rattle.problem_model.specs.Edits.{entry_set}
use Rattle.problem_model.specs.Living.{all_flags_edited}
use Rattle.problem_model.specs.NewNumbers.{EditIsSided}
use Rattle.problem_model.specs.Offsets.{added_by}
use Rattle.problem_model.specs.Problems.{row_at, column_at}
use Rattle.problem_model.specs.Sparse.{Sparse}
use Rattle.problem_laws.proofs.EntriesKept.{put_column_live, put_row_live}
use Rattle.problem_laws.proofs.Terms.{has-cons_other}
use Rattle.edit_laws.proofs.Lists.{entries_first_none}

-- the program whose column k has f
abbrev pub with_column : LinearProgram → ℕ → (ℕ → Number) → LinearProgram
with_column M k f = record M { coefficient = λ i. put (M.coefficient i) k (f i) }

module _ (k : ℕ) (value : Term → Number) where
  abbrev pub set_all : List Term → List Edit
  set_all ts = map (λ t. SetEntry t.id k (value t)) ts

  -- what is live stays so
  pub set_rows : (ts : List Term) (p : Sparse) → All (λ t. (row_at p t.id).live ≡ true) ts → (i : ℕ) → (row_at (applied p (set_all ts)) i).live ≡ (row_at p i).live
  set_rows [] p h i = refl
  set_rows (t ∷ ts) p h i =
      let row = All-head (λ t. (row_at p t.id).live ≡ true) t ts h in
      set_rows ts (entry_set p t.id k (value t)) (λ x d l. put_row_live p t.id k (value t) row _ ∙ All-tail (λ t. (row_at p t.id).live ≡ true) t ts h x d l) i ∙ put_row_live p t.id k (value t) row i

  pub set_columns : (ts : List Term) (p : Sparse) → (column_at p k).live ≡ true → (j : ℕ) → (column_at (applied p (set_all ts)) j).live ≡ (column_at p j).live
  set_columns [] p h j = refl
  set_columns (t ∷ ts) p h j = set_columns ts (entry_set p t.id k (value t)) (put_column_live p t.id k (value t) h k ∙ h) j ∙ put_column_live p t.id k (value t) h j

  pub set_bounds_stay : (ts : List Term) (p : Sparse) → (applied p (set_all ts)).bounds ≡ p.bounds
  set_bounds_stay [] p = refl
  set_bounds_stay (t ∷ ts) p = set_bounds_stay ts (entry_set p t.id k (value t))

  pub set_allowed : (ts : List Term) (p : Sparse) → All (λ t. (row_at p t.id).live ≡ true) ts → (column_at p k).live ≡ true → AreAllowed p (set_all ts)
  set_allowed [] p h c = tt
  set_allowed (t ∷ ts) p h c =
      let row = All-head (λ t. (row_at p t.id).live ≡ true) t ts h in
      ((row, c), set_allowed ts (entry_set p t.id k (value t)) (λ x d l. put_row_live p t.id k (value t) row _ ∙ All-tail (λ t. (row_at p t.id).live ≡ true) t ts h x d l) (put_column_live p t.id k (value t) c k ∙ c))

  pub set_added : (ts : List Term) → added_by (set_all ts) ≡ zero_ℚ
  set_added [] = refl
  set_added (t ∷ ts) = ap (λ k. zero_ℚ +ℚ k) (set_added ts) ∙ ring rational [] (num (pos 0) :+ num (pos 0)) (num (pos 0)) refl

  pub set_flags : (ts : List Term) (f : Flags) (es : List Edit) → all_flags_edited f (set_all ts ++ es) ≡ all_flags_edited f es
  set_flags [] f es = refl
  set_flags (t ∷ ts) f es = set_flags ts f es

  pub set_first : (ts : List Term) (es : List Edit) → NoEntries es → EntriesFirst (set_all ts ++ es)
  set_first [] es h = entries_first_none es h
  set_first (t ∷ ts) es h = set_first ts es h

  pub set_sided : (ts : List Term) → All EditIsSided (set_all ts)
  set_sided ts = All-map EditIsSided (λ t. SetEntry t.id k (value t)) ts (λ x d l. tt)

  -- only coefficients change, and only in the column
  set_only : (ts : List Term) (M : LinearProgram) → programs_edited M (set_all ts) ≡ record M { coefficient = (programs_edited M (set_all ts)).coefficient }
  set_only [] M = refl
  set_only (t ∷ ts) M = set_only ts (with_coefficient M t.id k (value t))

  changed_at : (M : LinearProgram) (m : ℕ) (c : Number) → (with_coefficient M m k c).coefficient m k ≡ c
  changed_at M m c = ap (λ (f : ℕ → Number). f k) (put-same M.coefficient m (put (M.coefficient m) k c)) ∙ put-same (M.coefficient m) k c

  same_row : (M : LinearProgram) (m : ℕ) (c : Number) (i x : ℕ) → i ≢ m → (with_coefficient M m k c).coefficient i x ≡ M.coefficient i x
  same_row M m c i x n = ap (λ (f : ℕ → Number). f x) (put-other M.coefficient m (put (M.coefficient m) k c) i n)

  same_column : (M : LinearProgram) (m : ℕ) (c : Number) (i x : ℕ) → x ≢ k → (with_coefficient M m k c).coefficient i x ≡ M.coefficient i x
  same_column M m c i x n = at_or_off (λ i. (with_coefficient M m k c).coefficient i x ≡ M.coefficient i x) m
      (ap (λ (f : ℕ → Number). f x) (put-same M.coefficient m (put (M.coefficient m) k c)) ∙ put-other (M.coefficient m) k c x n)
      (λ i d. same_row M m c i x d) i

  set_off : (ts : List Term) (M : LinearProgram) (i x : ℕ) → x ≢ k → (programs_edited M (set_all ts)).coefficient i x ≡ M.coefficient i x
  set_off [] M i x n = refl
  set_off (t ∷ ts) M i x n = set_off ts (with_coefficient M t.id k (value t)) i x n ∙ same_column M t.id (value t) i x n

  -- entries by row: each row's term says them, and a row without a term has them
  set_at : (f : ℕ → Number) (ts : List Term) (M : LinearProgram) → All (λ t. value t ≡ f t.id) ts → (i : ℕ) → (has i ts ≡ true) ⊎ (M.coefficient i k ≡ f i)
      → (programs_edited M (set_all ts)).coefficient i k ≡ f i
  set_at f [] M a i (inl h) = absurd (let g = h in cc)
  set_at f [] M a i (inr h) = h
  set_at f (t ∷ ts) M a i h = set_at f ts (with_coefficient M t.id k (value t)) (All-tail (λ t. value t ≡ f t.id) t ts a) i (by (cases_eq i t.id) h)
    where
      by : (i ≡ t.id) ⊎ (i ≢ t.id) → (has i (t ∷ ts) ≡ true) ⊎ (M.coefficient i k ≡ f i) → (has i ts ≡ true) ⊎ ((with_coefficient M t.id k (value t)).coefficient i k ≡ f i)
      by (inl s) g = inr (ap (λ (x : ℕ). (with_coefficient M t.id k (value t)).coefficient x k) s ∙ changed_at M t.id (value t) ∙ All-head (λ t. value t ≡ f t.id) t ts a ∙ ap f (sym s))
      by (inr n) (inl g) = inl (sym (has-cons_other i t ts (λ s. n (sym s))) ∙ g)
      by (inr n) (inr g) = inr (same_row M t.id (value t) i k n ∙ g)

  pub set_column : (f : ℕ → Number) (ts : List Term) (M : LinearProgram) → All (λ t. value t ≡ f t.id) ts → ((i : ℕ) → (has i ts ≡ true) ⊎ (M.coefficient i k ≡ f i)) → programs_edited M (set_all ts) ≡ with_column M k f
  set_column f ts M a h = set_only ts M ∙ (λ r. record M { coefficient = λ i x. all i x r })
    where
      all : (i x : ℕ) → (programs_edited M (set_all ts)).coefficient i x ≡ put (M.coefficient i) k (f i) x
      all i = at_or_off (λ x. (programs_edited M (set_all ts)).coefficient i x ≡ put (M.coefficient i) k (f i) x) k
          (set_at f ts M a i (h i) ∙ sym (put-same (M.coefficient i) k (f i)))
          (λ x d. set_off ts M i x d ∙ sym (put-other (M.coefficient i) k (f i) x d))
