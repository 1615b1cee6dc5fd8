-- What is concluded of a program whose book was closed.
use Rattle.std.proofs.Common.{◌≡◌, ℕ, Bool, true, false, cond, List, [], ◌∷◌, length, ◌≤◌, Option, Some, sym, refl, ap, ap₂, ◌∙◌, subst, arith}
use Rattle.std.specs.Prelude.{drop, slice_index_or}
use Rattle.fractions.specs.declared.Numbers.{Numbers}
use Rattle.lp_model.specs.ProgramData.{ProgramData}
use Rattle.lp_model.specs.Writable.{EntriesAscend, Writable}
use Rattle.undo_records.specs.declared.label.Label.{Label}
use Rattle.undo_records.specs.Postsolve.{Postsolve}
use Rattle.undo_records.specs.Walk.{lives}
use Rattle.presolve_model.specs.declared.instance.Reduction.{Reduction}
use Rattle.problem_model.specs.declared.line.Line.{Line}
use Rattle.presolve_model.specs.Changes.{changed}
use Rattle.presolve_model.specs.Ledger.{Ledger, Stands}
use Rattle.problem_model.specs.Problems.{IsSparse}
use Rattle.problem_model.specs.Programs.{IsProblemOf, written_program}
use Rattle.presolve_model.specs.Replay.{records, replay}
use Rattle.problem_model.specs.Sparse.{Sparse}
use Rattle.presolve_model.specs.Tallies.{Open, open_by, open_on, tightenings}
use Rattle.presolve_model.proofs.Tallying.{open_same}
use Rattle.undo_records.specs.declared.side.Side.{Side}
use Rattle.undo_records.specs.declared.undo.Undo.{Undo}
use Rattle.presolve_model.specs.Stuck.{IsUndecided, skipped_on, Stuck}
use Rattle.program_laws.specs.Chosen.{names_at}
use Rattle.program_laws.proofs.Writing.{written_column_names, written_row_names}
use Rattle.history_laws.proofs.Keeping.{sparse_replay}
use Rattle.program_laws.specs.Shapes.{IsOf}
use Rattle.history_laws.proofs.Walks.{walked_pairs, walked_reduces}
use Rattle.presolve_model.specs.Telling.{are_live, IsToldOf}
use Rattle.round_laws.specs.Passing.{IsSameBook}
use Rattle.run_laws.proofs.Telling.{are_told, problem_is_of, program_ascends, program_written, walked}
use Rattle.presolve_model.specs.declared.conclusion.End.{End}
use Rattle.presolve_model.specs.declared.conclusion.End.TheVariants.{Fixpoint, LimitReached}
use Rattle.presolve_model.specs.declared.conclusion.Options.{Options}
use Rattle.undo_records.specs.Named.{live_names}
use Rattle.presolve_model.specs.Conclusions.{Concluded, HaveNames, TellsEnd}
use Rattle.presolve_model.specs.Telling.{names_in}
use Rattle.presolve_model.specs.Ordered.{Ordered, new_book, options_of, RunsTo}
use Rattle.presolve_model.specs.Workers.{IsInOrder, Workers}
use Rattle.presolve_rounds.specs.Running.{EndsWith}

-- ---- names
-- the names of the live labels are those at the live lines
pub live_names_kept : (labels : List Label) (lines : List Line) → lives labels ≡ are_live lines → live_names labels ≡ names_at (names_in labels) lines
live_names_kept [] [] e = refl
live_names_kept [] (y ∷ ys) e = refl
live_names_kept (l ∷ ls) [] e = let a = ap length e in absurd (omega (arith, a))
live_names_kept (l ∷ ls) (y ∷ ys) e = by l.live y.live (ap (λ bs. slice_index_or bs 0 false) e) (live_names_kept ls ys (ap (λ bs. drop 1 bs) e))
  where
    by : (a b : Bool) → a ≡ b → live_names ls ≡ names_at (names_in ls) ys → cond a (l.name ∷ live_names ls) (live_names ls) ≡ cond b (l.name ∷ names_at (names_in ls) ys) (names_at (names_in ls) ys)
    by true true h r = ap (λ (ns : List (List ℕ)). l.name ∷ ns) r
    by true false h r = absurd (let f = h in cc)
    by false true h r = absurd (let f = h in cc)
    by false false h r = r

-- ---- ends
records_long : (p : Sparse) (rs : List Reduction) → length (records p rs) ≡ length rs
records_long p [] = refl
records_long p (r ∷ rs) = let more = records_long (changed r p) rs in omega (arith, more)

end_told : (dual : Bool) (e : End) (b : Ledger) (us : List Undo) (q : Sparse) → us ≡ b.records → length us ≡ length b.history → open_on b.tally ≡ open_by b.records → q ≡ b.problem → EndsWith (Some e) b → TellsEnd e (options_of dual b) us q
end_told dual (Fixpoint n) b us q is long opens same h = let free : open_on b.tally ≡ open_by us = opens ∙ ap open_by (sym is) in (
  omega (arith, long, h.0),
  subst (λ (p : Sparse). Stuck b.numbers (open_by us) p) (sym same) (subst (λ (o : Open). Stuck b.numbers o b.problem) free h.1),
  h.2 ∙ ap₂ skipped_on free (sym same),
)
end_told dual LimitReached b us q is long opens same h = (long ∙ h.0, subst IsUndecided (sym same) h.1)

undecided_at : (e : End) (b : Ledger) → EndsWith (Some e) b → IsUndecided b.problem
undecided_at (Fixpoint n) b h = h.1.undecided
undecided_at LimitReached b h = h.1

-- ---- all of it
pub concluded : (dual : Bool) (workers : Workers) (program : ProgramData) (b : Ledger) (told : Postsolve) (e : End) → EntriesAscend program → Writable b.numbers program → IsProblemOf program b.start → Stands b → EndsWith (Some e) b → IsToldOf dual program b told
    → ((j : ℕ) (side : Side) → tightenings b.records j side ≤ 10) → HaveNames program (written_program program b.problem) told → (IsInOrder workers → RunsTo (options_of dual b) program (Some e) b)
    → Concluded (options_of dual b) workers program (written_program program b.problem) told e
concluded dual workers program b told e ascends writes o s h t few named runs =
    let is : IsOf program b.problem = problem_is_of program b o s in
    let sparse : IsSparse b.problem = subst IsSparse (sym s.problem) (sparse_replay b.numbers b.start b.history s.sound s.replays) in
    record {
      walked = walked dual program b told o s t;
      reduces = walked_reduces b.numbers program (written_program program b.problem) told ascends (walked dual program b told o s t);
      pairs = walked_pairs b.numbers program (written_program program b.problem) told (walked dual program b told o s t) t.sense;
      dual = t.duals;
      transactions = are_told dual program b told o s t;
      few = subst (λ (us : List Undo). (j : ℕ) (side : Side) → tightenings us j side ≤ 10) (sym t.undos) few;
      end = end_told dual e b told.undos (replay b.start b.history) t.undos (ap length (t.undos ∙ s.records) ∙ records_long b.start b.history) (open_same b.tally b.records s.tally) (sym s.problem) h;
      names = record {
        sense = t.sense;
        objective = refl;
        rows = t.row_names;
        columns = t.column_names;
        live_rows = written_row_names program b.problem sparse is ∙ ap (λ (ns : List (List ℕ)). names_at ns b.problem.matrix.rows) (sym t.row_names) ∙ sym (live_names_kept told.rows b.problem.matrix.rows t.rows);
        live_columns = written_column_names program b.problem sparse is ∙ ap (λ (ns : List (List ℕ)). names_at ns b.problem.matrix.columns) (sym t.column_names) ∙ sym (live_names_kept told.columns b.problem.matrix.columns t.columns);
      };
      named = named;
      ascends = program_ascends program b o s;
      writable = program_written program b writes o s (undecided_at e b h);
      ordered = λ on. record { book = b; runs = runs on; written = refl; tells = t };
    }

-- options with these numbers and this limit
abbrev options_with : Bool → Numbers → ℕ → Options
options_with dual numbers limit = record { numbers = numbers; limit = limit; dual = dual }

-- ---- the run of a program's problem
pub runs_to : (program : ProgramData) (options : Options) (b c : Ledger) (o p : Option End) → IsProblemOf program b.start → b ≡ new_book options b.start → IsSameBook b c → o ≡ p → Ordered b o c → RunsTo (options_of options.dual c) program p c
runs_to program options b c o p h e same f k = record {
  start = b.start;
  opened = h;
  run = subst (λ (x : Options). Ordered (new_book x b.start) p c) (ap₂ (options_with options.dual) (sym (same.numbers ∙ ap (λ (x : Ledger). x.numbers) e)) (sym (same.limit ∙ ap (λ (x : Ledger). x.limit) e)))
      (subst (λ (x : Ledger). Ordered x p c) e (subst (λ (x : Option End). Ordered b x c) f k));
}

pub same_options : (options : Options) (b c : Ledger) → b ≡ new_book options b.start → IsSameBook b c → options_of options.dual c ≡ options
same_options options b c e same = ap₂ (options_with options.dual) (same.numbers ∙ ap (λ (x : Ledger). x.numbers) e) (same.limit ∙ ap (λ (x : Ledger). x.limit) e)
