-- New sides of each row that terms name.
use Rattle.std.proofs.Common.{◌≡◌, ◌≢◌, ◌⊎◌, inl, inr, ℕ, true, List, [], ◌∷◌, ◌++◌, map, refl, sym, ap, ◌∙◌, Option, pos}
use Rattle.std.specs.List.{All}
use Rattle.std.proofs.lemmas.Bool.{cases_eq}
use Rattle.std.proofs.lemmas.List.Elements.{All-head, All-tail, All-map}
use Rattle.fractions.specs.Number.{Number, rational, zero_ℚ, ◌+ℚ◌}
use Rattle.fractions.specs.Ring.{ring, v, num, ◌:+◌}
use Rattle.fractions.specs.Total.{put}
use Rattle.fractions.proofs.Totals.{put-same, put-other}
use Rattle.lp_model.specs.declared.terms.Term.{Term}
use Rattle.lp_model.specs.LinearProgram.{LinearProgram}
use Rattle.lp_model.specs.Sparse.{has}
use Rattle.lp_model.specs.Edits.{with_sides}
use Rattle.lp_model.specs.Flags.{Flags}
use Rattle.problem_model.specs.Edits.{sides_set}
use Rattle.problem_model.specs.Problems.{row_at}
use Rattle.problem_model.specs.Sparse.{Sparse}
use Rattle.problem_laws.proofs.Terms.{has-cons_other}
use Rattle.problem_model.specs.Allowed.{AreAllowed, NoEntries}
use Rattle.problem_model.specs.Applied.{applied}
use Rattle.problem_model.specs.Living.{all_flags_edited}
use Rattle.lp_model.specs.Ends.{IsSided}
use Rattle.problem_model.specs.NewNumbers.{EditIsSided}
use Rattle.problem_model.specs.Offsets.{amount_of, added_by}
use Rattle.problem_model.specs.EditedPrograms.{edited_program, programs_edited}
use Rattle.problem_model.specs.declared.edit.Edit.{Edit}
use Rattle.problem_model.specs.declared.edit.Edit.TheVariants.{SetSides}

-- ---- two lists of edits, one after the other
pub programs_more : (es fs : List Edit) (M : LinearProgram) → programs_edited M (es ++ fs) ≡ programs_edited (programs_edited M es) fs
programs_more [] fs M = refl
programs_more (e ∷ es) fs M = programs_more es fs (edited_program M e)

pub added_more : (es fs : List Edit) → added_by (es ++ fs) ≡ added_by es +ℚ added_by fs
added_more [] fs = ring rational (added_by fs ∷ []) (v 0) (num (pos 0) :+ v 0) refl
added_more (e ∷ es) fs = ap (λ k. amount_of e +ℚ k) (added_more es fs) ∙ ring rational (amount_of e ∷ added_by es ∷ added_by fs ∷ []) (v 0 :+ (v 1 :+ v 2)) (v 0 :+ v 1 :+ v 2) refl

module _ (low high : Term → Option Number) where
  abbrev pub sweep : List Term → List Edit
  sweep ts = map (λ t. SetSides t.id (low t) (high t)) ts

  pub sweep_matrix : (ts : List Term) (p : Sparse) → (applied p (sweep ts)).matrix ≡ p.matrix
  sweep_matrix [] p = refl
  sweep_matrix (t ∷ ts) p = sweep_matrix ts (sides_set p t.id (low t) (high t))

  pub sweep_bounds : (ts : List Term) (p : Sparse) → (applied p (sweep ts)).bounds ≡ p.bounds
  sweep_bounds [] p = refl
  sweep_bounds (t ∷ ts) p = sweep_bounds ts (sides_set p t.id (low t) (high t))

  pub sweep_allowed : (ts : List Term) (p : Sparse) → All (λ t. (row_at p t.id).live ≡ true) ts → AreAllowed p (sweep ts)
  sweep_allowed [] p h = tt
  sweep_allowed (t ∷ ts) p h = (All-head (λ t. (row_at p t.id).live ≡ true) t ts h, sweep_allowed ts (sides_set p t.id (low t) (high t)) (All-tail (λ t. (row_at p t.id).live ≡ true) t ts h))

  pub sweep_added : (ts : List Term) → added_by (sweep ts) ≡ zero_ℚ
  sweep_added [] = refl
  sweep_added (t ∷ ts) = ap (λ k. zero_ℚ +ℚ k) (sweep_added ts) ∙ ring rational [] (num (pos 0) :+ num (pos 0)) (num (pos 0)) refl

  pub sweep_flags : (ts : List Term) (f : Flags) (es : List Edit) → all_flags_edited f (sweep ts ++ es) ≡ all_flags_edited f es
  sweep_flags [] f es = refl
  sweep_flags (t ∷ ts) f es = sweep_flags ts f es

  pub sweep_no_entries : (ts : List Term) (es : List Edit) → NoEntries es → NoEntries (sweep ts ++ es)
  sweep_no_entries [] es h = h
  sweep_no_entries (t ∷ ts) es h = sweep_no_entries ts es h

  pub sweep_sided : (ts : List Term) → All (λ t. IsSided (low t) (high t)) ts → All EditIsSided (sweep ts)
  sweep_sided ts h = All-map EditIsSided (λ t. SetSides t.id (low t) (high t)) ts h

  -- only sides change
  pub sweep_only : (ts : List Term) (M : LinearProgram) → programs_edited M (sweep ts) ≡ record M { lower_side = (programs_edited M (sweep ts)).lower_side; upper_side = (programs_edited M (sweep ts)).upper_side }
  sweep_only [] M = refl
  sweep_only (t ∷ ts) M = sweep_only ts (with_sides M t.id (low t) (high t))

  -- sides by row: each row's term says them, and a row without a term has them
  one_more : (low_of : ℕ → Option Number) (f : Term → Option Number) (L : ℕ → Option Number) (t : Term) (ts : List Term) (i : ℕ) → f t ≡ low_of t.id
      → (has i (t ∷ ts) ≡ true) ⊎ (L i ≡ low_of i) → (has i ts ≡ true) ⊎ (put L t.id (f t) i ≡ low_of i)
  one_more low_of f L t ts i e h = by (cases_eq i t.id) h
    where
      by : (i ≡ t.id) ⊎ (i ≢ t.id) → (has i (t ∷ ts) ≡ true) ⊎ (L i ≡ low_of i) → (has i ts ≡ true) ⊎ (put L t.id (f t) i ≡ low_of i)
      by (inl s) g = inr (ap (put L t.id (f t)) s ∙ put-same L t.id (f t) ∙ e ∙ ap low_of (sym s))
      by (inr n) (inl g) = inl (sym (has-cons_other i t ts (λ s. n (sym s))) ∙ g)
      by (inr n) (inr g) = inr (put-other L t.id (f t) i n ∙ g)

  pub sweep_lower : (low_of : ℕ → Option Number) (ts : List Term) (M : LinearProgram) → All (λ t. low t ≡ low_of t.id) ts → (i : ℕ) → (has i ts ≡ true) ⊎ (M.lower_side i ≡ low_of i)
      → (programs_edited M (sweep ts)).lower_side i ≡ low_of i
  sweep_lower low_of [] M a i (inl h) = absurd (let f = h in cc)
  sweep_lower low_of [] M a i (inr h) = h
  sweep_lower low_of (t ∷ ts) M a i h = sweep_lower low_of ts (with_sides M t.id (low t) (high t)) (All-tail (λ t. low t ≡ low_of t.id) t ts a) i
      (one_more low_of low M.lower_side t ts i (All-head (λ t. low t ≡ low_of t.id) t ts a) h)

  pub sweep_upper : (high_of : ℕ → Option Number) (ts : List Term) (M : LinearProgram) → All (λ t. high t ≡ high_of t.id) ts → (i : ℕ) → (has i ts ≡ true) ⊎ (M.upper_side i ≡ high_of i)
      → (programs_edited M (sweep ts)).upper_side i ≡ high_of i
  sweep_upper high_of [] M a i (inl h) = absurd (let f = h in cc)
  sweep_upper high_of [] M a i (inr h) = h
  sweep_upper high_of (t ∷ ts) M a i h = sweep_upper high_of ts (with_sides M t.id (low t) (high t)) (All-tail (λ t. high t ≡ high_of t.id) t ts a) i
      (one_more high_of high M.upper_side t ts i (All-head (λ t. high t ≡ high_of t.id) t ts a) h)
