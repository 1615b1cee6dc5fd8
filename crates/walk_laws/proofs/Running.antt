-- What a run concluded walks.
use Rattle.std.proofs.Common.{◌≡◌, true, List, [], ◌∷◌, map, Option, Some, None, inr, refl, sym, ap, ◌∙◌, subst, get_or}
use Rattle.fractions.specs.Number.{Number}
use Rattle.fractions.specs.declared.Numbers.{Numbers}
use Rattle.fractions.specs.declared.Numbers.TheVariants.{Decimal, Fractions}
use Rattle.lp_model.specs.Ends.{IsWritten, WidthIsWritten}
use Rattle.lp_model.specs.Meaning.{meaning}
use Rattle.lp_model.specs.Optimality.{Continuous}
use Rattle.lp_model.specs.ProgramData.{ProgramData}
use Rattle.lp_model.specs.Turning.{signed}
use Rattle.lp_model.specs.Writable.{WritableNumber}
use Rattle.transactions.specs.declared.transactions.PartRead.{PartRead}
use Rattle.transactions.specs.Transactions.{Transaction}
use Rattle.undo_records.specs.declared.undo.Undo.{Undo}
use Rattle.undo_records.specs.Postsolve.{Postsolve}
use Rattle.problem_model.specs.declared.edit.Edit.{Edit}
use Rattle.problem_model.specs.declared.edit.Edit.TheVariants.{DeleteRow, DeleteColumn, SetSides, SetBounds, AddOffset, SetCost, SetEntry}
use Rattle.problem_model.specs.NewNumbers.{EditIsWritten}
use Rattle.problem_model.specs.Programs.{written_program}
use Rattle.problem_model.specs.Sparse.{Sparse}
use Rattle.presolve_model.specs.declared.conclusion.End.{End}
use Rattle.presolve_model.specs.declared.conclusion.Options.{Options}
use Rattle.presolve_model.specs.declared.instance.Instance.TheVariants as at
use Rattle.presolve_model.specs.declared.instance.Reduction.{Reduction}
use Rattle.presolve_model.specs.Changes.{changed}
use Rattle.presolve_model.specs.Conclusions.{Concluded}
use Rattle.presolve_model.specs.Enabled.{enabled_on}
use Rattle.presolve_model.specs.Replay.{CanApply, records, replay, Replays}
use Rattle.presolve_model.specs.Tables.{edits, record_of}
use Rattle.presolve_model.specs.Transactions.{numbers_along, numbers_read}
use Rattle.presolve_model.specs.Workers.{Workers}
use Rattle.walk_laws.specs.Walk.{AreSteps, HasChange, IsStep, reduction_of, Walk}
use Rattle.walk_laws.proofs.Naming.{named, named_along}

-- ---- what can be written can be with fractions
as_fraction : (numbers : Numbers) (q : Number) → WritableNumber numbers q → WritableNumber Fractions q
as_fraction Decimal q w = w.0
as_fraction Fractions q w = w

ends_fraction : (numbers : Numbers) (l u : Option Number) → IsWritten numbers l u → IsWritten Fractions l u
ends_fraction numbers None None w = w
ends_fraction numbers None (Some u) w = (w.0, as_fraction numbers u w.1)
ends_fraction numbers (Some l) None w = (as_fraction numbers l w.0, w.1)
ends_fraction numbers (Some l) (Some u) w = (as_fraction numbers l w.0, as_fraction numbers u w.1)

width_fraction : (numbers : Numbers) (l u : Option Number) → WidthIsWritten numbers l u → WidthIsWritten Fractions l u
width_fraction numbers None u w = w
width_fraction numbers (Some l) None w = w
width_fraction numbers (Some l) (Some u) w = λ apart. as_fraction numbers _ (w apart)

edit_fraction : (numbers : Numbers) (e : Edit) → EditIsWritten numbers e → EditIsWritten Fractions e
edit_fraction numbers (SetSides i l u) w = (ends_fraction numbers l u w.0, width_fraction numbers l u w.1)
edit_fraction numbers (SetBounds j l u) w = ends_fraction numbers l u w
edit_fraction numbers (SetCost j c) w = as_fraction numbers c w
edit_fraction numbers (SetEntry i j a) w = as_fraction numbers a w
edit_fraction numbers (DeleteRow i) w = w
edit_fraction numbers (DeleteColumn j) w = w
edit_fraction numbers (AddOffset k) w = w

change_fraction : (numbers : Numbers) (p : Sparse) (r : Reduction) → CanApply numbers p r → HasChange p r
change_fraction numbers p r c = record { fits = c.fits; written = λ k d lt. edit_fraction numbers (get_or (edits r p) k d) (c.written k d lt) }

-- ---- steps
-- a reduction that can be applied is a step, with its record and what it reads
step_of : (numbers : Numbers) (p : Sparse) (r s : Reduction) (reads : List PartRead) → s ≡ r → CanApply numbers p r → reads ≡ numbers_read p (at.Reduction r)
    → reduction_of (record_of r p) ≡ s → IsStep p (record_of r p) reads
step_of numbers p r s reads same c is names =
    let e : reduction_of (record_of r p) ≡ r = names ∙ same in
    record {
      enabled = subst (λ (x : Reduction). enabled_on p (at.Reduction x) ≡ true) (sym e) c.enabled;
      reading = inr (is ∙ ap (λ (x : Reduction). numbers_read p (at.Reduction x)) (sym e));
      change = subst (HasChange p) (sym e) (change_fraction numbers p r c);
      fields = ap (λ (x : Reduction). record_of x p) e;
    }

steps_of : (numbers : Numbers) (p : Sparse) (rs : List Reduction) (ts : List Transaction) → Replays numbers p rs → map (λ t. t.reads) ts ≡ numbers_along p rs → AreSteps p (records p rs) ts
steps_of numbers p [] ts h e = tt
steps_of numbers p (r ∷ rs) [] h e = absurd (let f = e in cc)
steps_of numbers p (r ∷ rs) (t ∷ ts) h e = (
  step_of numbers p r r t.reads refl h.0 (let f : t.reads ∷ map (λ (x : Transaction). x.reads) ts ≡ numbers_read p (at.Reduction r) ∷ numbers_along (changed r p) rs = e in cc) (named r p),
  subst (λ (x : Reduction). AreSteps (changed x p) (records (changed r p) rs) ts) (sym (named r p))
      (steps_of numbers (changed r p) rs ts h.1 (let f : t.reads ∷ map (λ (x : Transaction). x.reads) ts ≡ numbers_read p (at.Reduction r) ∷ numbers_along (changed r p) rs = e in cc)),
)

pub run_walks : (options : Options) (workers : Workers) (program reduced : ProgramData) (told : Postsolve) (ended : End) → Concluded options workers program reduced told ended
    → (options.dual ≡ true → Continuous (meaning program)) → Walk program reduced told
run_walks options workers program reduced told ended c continuous =
    let w = c.walked in
    let same : map reduction_of told.undos ≡ w.history = ap (map reduction_of) w.undos ∙ named_along w.start w.history in
    record {
      header = record { sense = c.names.sense; rows = c.names.rows; columns = c.names.columns; duals = λ on. continuous (sym c.dual ∙ on) };
      start = w.start;
      opened = w.opened;
      steps = subst (λ (us : List Undo). AreSteps w.start us told.transactions) (sym w.undos)
          (steps_of options.numbers w.start w.history told.transactions w.replays w.transactions.reads);
      written = w.written ∙ ap (λ (rs : List Reduction). written_program program (replay w.start rs)) (sym same);
      offset = w.offset ∙ ap (λ (rs : List Reduction). signed program.sense (replay w.start rs).offset) (sym same);
    }
