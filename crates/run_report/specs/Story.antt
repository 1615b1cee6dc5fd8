-- What is told of a row or a column: a line for each reduction that concerns it, with how the reduction left it.
use Rattle.std.specs.Prelude.{◌≡◌, ◌<◌, ◌≤◌, ℕ, Bool, true, false, cond, not, ◌||◌, nat_eq, List, [], ◌∷◌, ◌++◌, length, Option, Some, None, codes}
use Rattle.number_texts.specs.Written.{written}
use Rattle.lp_model.specs.ProgramData.{ProgramData}
use Rattle.undo_records.specs.declared.undo.Undo.{Undo}
use Rattle.undo_records.specs.declared.undo.Undo.TheVariants.{EmptyRow, SingletonRow, FixedColumn, RoundedBounds, RedundantRow, RedundantSide, ForcingRow, BoundTightening, CoefficientTightening, DualFixing, DominatedColumn, DoubletonEquation, FreeColumnSingleton, SlackColumnSingleton, ParallelRows, ParallelColumns, EmptyColumn}
use Rattle.problem_model.specs.Programs.{IsProblemOf}
use Rattle.problem_model.specs.Sparse.{Sparse}
use Rattle.presolve_model.specs.declared.conclusion.Options.{Options}
use Rattle.presolve_model.specs.declared.instance.Instance.TheVariants as at
use Rattle.presolve_model.specs.declared.instance.Reduction.{Reduction}
use Rattle.presolve_model.specs.Changes.{changed}
use Rattle.presolve_model.specs.Commits.{with_instance}
use Rattle.presolve_model.specs.Ledger.{instance_count, Ledger}
use Rattle.presolve_model.specs.Replay.{CanApply, Replays}
use Rattle.run_report.specs.declared.named.Subject.{Subject}
use Rattle.run_report.specs.declared.named.Subject.TheVariants.{Row, Column}
use Rattle.run_report.specs.declared.story.View.{View}
use Rattle.run_report.specs.Naming.{instance_text, named_by_reduction, one, two}
use Rattle.run_report.specs.Views.{is_same_view, view_of, view_text, views_text}

-- ---- of what it is told
abbrev pub is_same_subject : Subject → Subject → Bool
is_same_subject (Row i) (Row k) = nat_eq i k
is_same_subject (Column j) (Column k) = nat_eq j k
is_same_subject s t = false

abbrev pub is_among : Subject → List (Option Subject) → Bool
is_among s [] = false
is_among s (None ∷ subjects) = is_among s subjects
is_among s (Some other ∷ subjects) = is_same_subject s other || is_among s subjects

-- the rows and columns of which it is told how a record's reduction left them
abbrev pub told_by : Undo → List (Option Subject)
told_by (EmptyRow u) = one (Row u.row)
told_by (SingletonRow u) = one (Column u.column)
told_by (FixedColumn u) = one (Column u.column)
told_by (RoundedBounds u) = one (Column u.column)
told_by (RedundantRow u) = one (Row u.row)
told_by (RedundantSide u) = one (Row u.row)
told_by (ForcingRow u) = one (Row u.row)
told_by (BoundTightening u) = one (Column u.column)
told_by (CoefficientTightening u) = one (Row u.row)
told_by (DualFixing u) = one (Column u.column)
told_by (DominatedColumn u) = one (Column u.column)
told_by (DoubletonEquation u) = two (Column u.column) (Column u.kept)
told_by (FreeColumnSingleton u) = two (Column u.column) (Row u.row)
told_by (SlackColumnSingleton u) = two (Column u.column) (Row u.row)
told_by (ParallelRows u) = two (Row u.row) (Row u.kept)
told_by (ParallelColumns u) = two (Column u.column) (Column u.kept)
told_by (EmptyColumn u) = one (Column u.column)

-- ---- the line of a reduction
-- the value at which a fixed column goes
abbrev pub value_text : Undo → List ℕ
value_text (FixedColumn u) = codes " at " ++ written u.value
value_text other = []

-- how the row or the column itself stands, where it is neither named nor told of
abbrev pub own_text : ProgramData → Sparse → Reduction → Undo → Subject → List ℕ
own_text program p r u s = cond (is_among s (told_by u) || is_among s (named_by_reduction r)) [] (codes ", " ++ view_text program p s)

-- of a reduction with its record, that left this problem
abbrev pub event_text : ProgramData → Sparse → Reduction → Undo → Subject → List ℕ
event_text program p r u s = instance_text program (at.Reduction r) ++ (views_text program p (codes ": ") (told_by u) ++ (value_text u ++ (own_text program p r u s ++ 10 ∷ [])))

-- it names the row or the column, or it is told how it left it, or the row or the column stands otherwise than before
abbrev pub concerns : View → Sparse → Reduction → Undo → Subject → Bool
concerns before p r u s = is_among s (named_by_reduction r) || (is_among s (told_by u) || not (is_same_view before (view_of p s)))

abbrev pub told_of : ProgramData → View → Sparse → Reduction → Undo → Subject → List ℕ
told_of program before p r u s = cond (concerns before p r u s) (event_text program p r u s) []

-- of each reduction of a history, from this problem on
abbrev pub story_text : ProgramData → Sparse → List Reduction → List Undo → Subject → List ℕ
story_text program p [] us s = []
story_text program p (r ∷ rs) [] s = []
story_text program p (r ∷ rs) (u ∷ us) s = told_of program (view_of p s) (changed r p) r u s ++ story_text program (changed r p) rs us s

-- ---- a reduction that is applied once more
-- to a book that it was applied to, as one that was found on the present problem; or to one that stays, since a verdict stands, there is no room, or it can't be applied
abbrev pub Steps : Ledger → Reduction → Bool → Ledger → Type 0
Steps b r true c = c ≡ with_instance b 0 (instance_count b) (at.Reduction r)
Steps b r false c = (c ≡ b) × (b.verdict ≡ None → length b.history < b.limit → CanApply b.numbers b.problem r → ⊥)

-- a history that replays on the program's problem, within the limit
pub record IsReplayed (options : Options) (program : ProgramData) (rs : List Reduction) (start : Sparse) : Type 0 where
  pub opened : IsProblemOf program start
  pub replays : Replays options.numbers start rs
  pub within : length rs ≤ options.limit
