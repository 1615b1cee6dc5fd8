-- The sense of the file, undoings that agree, and programs with a whole column.
use Rattle.std.proofs.Common.{◌≡◌, ℕ, ◌<◌, List, refl, sym, ◌∙◌, subst, true≢false}
use Rattle.std.specs.Bool.{IsTrue}
use Rattle.fractions.specs.Number.{Number}
use Rattle.lp_model.specs.declared.program.Sense.{Sense}
use Rattle.lp_model.specs.declared.program.Sense.TheVariants.{Min, Max}
use Rattle.lp_model.specs.ProgramData.{ProgramData}
use Rattle.lp_model.specs.LinearProgram.{LinearProgram}
use Rattle.lp_model.specs.Reductions.{Priced, ReducesPairs}
use Rattle.lp_model.specs.Turning.{in_sense}
use Rattle.undo_records.specs.Postsolve.{Postsolve}
use Rattle.undo_pairs.specs.Numbers.{placed_pair, started, turned_for}
use Rattle.undo_pairs.specs.LiftPair.{lift_pair}

by_sense : (s : Sense) (f : Priced → Priced) (p : Priced) → turned_for s (f (turned_for s p)) ≡ in_sense s f p
by_sense Min f p = refl
by_sense Max f p = refl

pub in_files_sense : (records : Postsolve) (program : ProgramData) (xs ys : List Number) → turned_for records.sense (lift_pair records.undos (started records program xs ys)) ≡ in_sense records.sense (lift_pair records.undos) (placed_pair records program xs ys)
in_files_sense records program xs ys = by_sense records.sense (lift_pair records.undos) (placed_pair records program xs ys)

pub agreeing : (s : Sense) (M R : LinearProgram) (f g : Priced → Priced) → ((p : Priced) → f p ≡ g p) → ReducesPairs s M R g → ReducesPairs s M R f
agreeing s M R f g same h = subst (λ (u : Priced → Priced). ReducesPairs s M R u) (sym (λ i p. same p i)) h

-- nothing meets the optimality conditions of a program with a whole column
pub with_whole_column : (s : Sense) (M R : LinearProgram) (f : Priced → Priced) (j : ℕ) → j < R.columns → IsTrue (R.whole j) → ReducesPairs s M R f
with_whole_column s M R f j l w = record {
  priced = λ p priced meets. absurd (true≢false (sym w ∙ (meets.continuous j l).0));
  meets = λ p priced meets. absurd (true≢false (sym w ∙ (meets.continuous j l).0));
}
