-- What is found of records says what is verified.
use Rattle.std.proofs.Common.{◌≡◌, ◌≢◌, length, map, None, sym, ap, ◌∙◌, subst}
use Rattle.std.proofs.lemmas.List.{length-map}
use Rattle.lp_model.specs.declared.program.ColumnDef.{ColumnDef}
use Rattle.lp_model.specs.ProgramData.{ProgramData}
use Rattle.lp_model.specs.Turning.{signed}
use Rattle.undo_records.specs.Postsolve.{Postsolve}
use Rattle.problem_model.specs.Programs.{IsProblemOf, line_of, written_program}
use Rattle.problem_model.specs.Sparse.{Sparse}
use Rattle.history_laws.proofs.Sizes.{replay_size}
use Rattle.walk_laws.specs.declared.flaw.Flaw.{Flaw}
use Rattle.walk_laws.specs.declared.flaw.Flaw.TheVariants.{Header, Step, Program, Offset}
use Rattle.walk_laws.specs.Flaws.{IsFirstFlaw}
use Rattle.walk_laws.specs.Walk.{HasHeader, reduction_of, Walk}
use Rattle.record_verify.specs.Stepping.{FollowsAll, IsAt}

pub at_flaw : (program reduced : ProgramData) (told : Postsolve) (p : Sparse) (flaw : Flaw) → HasHeader program told → IsProblemOf program p → IsAt p told flaw → IsFirstFlaw program reduced told flaw
at_flaw program reduced told p Header h o a = absurd a
at_flaw program reduced told p (Step number why) h o a = (h, p, o, a)
at_flaw program reduced told p Program h o a = absurd a
at_flaw program reduced told p Offset h o a = absurd a

pub other_program : (program reduced : ProgramData) (told : Postsolve) (p q : Sparse) → HasHeader program told → IsProblemOf program p → FollowsAll p told None q → reduced ≢ written_program program q
    → IsFirstFlaw program reduced told Program
other_program program reduced told p q h o f d = (h, p, o, (f.0, subst (λ (z : Sparse). reduced ≢ written_program program z) f.1 d))

pub other_offset : (program reduced : ProgramData) (told : Postsolve) (p q : Sparse) → HasHeader program told → IsProblemOf program p → FollowsAll p told None q → reduced ≡ written_program program q
    → told.offset ≢ signed program.sense q.offset → IsFirstFlaw program reduced told Offset
other_offset program reduced told p q h o f e d =
    (h, p, o, (f.0, subst (λ (z : Sparse). reduced ≡ written_program program z) f.1 e, subst (λ (z : Sparse). told.offset ≢ signed program.sense z.offset) f.1 d))

pub walks : (program reduced : ProgramData) (told : Postsolve) (p q : Sparse) → HasHeader program told → IsProblemOf program p → FollowsAll p told None q → reduced ≡ written_program program q
    → told.offset ≡ signed program.sense q.offset → Walk program reduced told
walks program reduced told p q h o f e k = record {
  header = h;
  start = p;
  opened = o;
  steps = f.0;
  written = subst (λ (z : Sparse). reduced ≡ written_program program z) f.1 e;
  offset = subst (λ (z : Sparse). told.offset ≡ signed program.sense z.offset) f.1 k;
}

-- what is left has as many rows and columns as the program
pub rows_fit : (program : ProgramData) (told : Postsolve) (p q : Sparse) → IsProblemOf program p → FollowsAll p told None q → length program.rows ≡ length q.matrix.rows
rows_fit program told p q o f = sym (ap (λ (z : Sparse). length z.matrix.rows) f.1 ∙ (replay_size p (map reduction_of told.undos)).rows ∙ o.rows)

pub columns_fit : (program : ProgramData) (told : Postsolve) (p q : Sparse) → IsProblemOf program p → FollowsAll p told None q → length program.columns ≡ length q.matrix.columns
columns_fit program told p q o f = sym (ap (λ (z : Sparse). length z.matrix.columns) f.1 ∙ (replay_size p (map reduction_of told.undos)).columns
    ∙ ap length o.columns ∙ length-map program.columns (λ (c : ColumnDef). line_of c.entries))
