-- What edits make of the linear program that is shown, where that is known.
use Rattle.std.proofs.Common.{◌≡◌, ℕ, ◌<◌, Bool, true, false, List, [], ◌∷◌, refl, sym, ◌∙◌, subst, nat_eq, if◌then◌else◌, Option, None}
use Rattle.fractions.specs.Number.{Number}
use Rattle.fractions.specs.Total.{put}
use Rattle.lp_model.specs.declared.program.Sense.TheVariants.{Min}
use Rattle.lp_model.specs.LinearProgram.{LinearProgram}
use Rattle.lp_model.specs.Optimality.{Continuous}
use Rattle.lp_model.specs.Reductions.{Priced, Reduces, ReducesPairs}
use Rattle.lp_model.specs.Vectors.{Vector}
use Rattle.problem_model.specs.declared.edit.Edit.{Edit}
use Rattle.problem_model.specs.declared.edit.Edit.TheVariants.{DeleteRow, DeleteColumn, SetSides, SetBounds, AddOffset, SetCost, SetEntry}
use Rattle.problem_model.specs.Allowed.{AreAllowed}
use Rattle.problem_model.specs.Raised.{committed}
use Rattle.problem_model.specs.EditedPrograms.{edited_program, programs_edited}
use Rattle.problem_model.specs.Offsets.{added_by}
use Rattle.problem_model.specs.Problems.{IsSparse}
use Rattle.problem_model.specs.Showing.{shown}
use Rattle.problem_model.specs.Sparse.{Sparse}
use Rattle.edit_laws.proofs.Committed.{shown_committed}
use Rattle.lp_model.specs.Gaps.{Gap}

pub by_edits : (p : Sparse) (es : List Edit) (R : LinearProgram) (f : Vector → Vector) (k : Number) → IsSparse p → AreAllowed p es → programs_edited (shown p) es ≡ R → k ≡ added_by es → Reduces Min (shown p) R f k
    → Reduces Min (shown p) (shown (committed p es)) f (added_by es)
by_edits p es R f k s on same adds h = subst (λ a. Reduces Min (shown p) (shown (committed p es)) f a) adds (subst (λ (M : LinearProgram). Reduces Min (shown p) M f k) (sym (shown_committed p es s on ∙ same)) h)

-- the same of pairs
pub pairs_by_edits : (p : Sparse) (es : List Edit) (R : LinearProgram) (f : Priced → Priced) → IsSparse p → AreAllowed p es → programs_edited (shown p) es ≡ R → ReducesPairs Min (shown p) R f
    → ReducesPairs Min (shown p) (shown (committed p es)) f
pairs_by_edits p es R f s on same h = subst (λ (M : LinearProgram). ReducesPairs Min (shown p) M f) (sym (shown_committed p es s on ∙ same)) h

-- ---- no edit makes a column whole
put_false : (f : ℕ → Bool) (j k : ℕ) → f k ≡ false → put f j false k ≡ false
unfolding put
put_false f j k e = by (nat_eq k j)
  where
    by : (b : Bool) → (if b then false else f k) ≡ false
    by true = refl
    by false = e

put_none : (f : ℕ → Option Gap) (j k : ℕ) → f k ≡ None → put f j None k ≡ None
unfolding put
put_none f j k e = by (nat_eq k j)
  where
    by : (b : Bool) → (if b then None else f k) ≡ None
    by true = refl
    by false = e

continuous_edited : (M : LinearProgram) (e : Edit) → Continuous M → Continuous (edited_program M e)
continuous_edited M (DeleteRow i) h = h
continuous_edited M (DeleteColumn j) h = λ k l. (put_false M.whole j k (h k l).0, put_none M.gap j k (h k l).1)
continuous_edited M (SetSides i l u) h = h
continuous_edited M (SetBounds j l u) h = h
continuous_edited M (AddOffset k) h = h
continuous_edited M (SetCost j c) h = h
continuous_edited M (SetEntry i j a) h = h

pub continuous_edits : (M : LinearProgram) (es : List Edit) → Continuous M → Continuous (programs_edited M es)
continuous_edits M [] h = h
continuous_edits M (e ∷ es) h = continuous_edits (edited_program M e) es (continuous_edited M e h)

pub continuous_committed : (p : Sparse) (es : List Edit) → IsSparse p → AreAllowed p es → Continuous (shown p) → Continuous (shown (committed p es))
continuous_committed p es s on h = subst Continuous (sym (shown_committed p es s on)) (continuous_edits (shown p) es h)
