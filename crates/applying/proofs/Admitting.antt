-- What applying a reduction may answer.
use Rattle.std.proofs.Common.{◌≡◌, [], ◌∷◌, refl, List, Result, Ok, Err, sym, subst, ℕ}
use Rattle.std.specs.Prelude.{IfErr, ⊤}
use Rattle.std.proofs.lemmas.List.Elements.{All-head, All-cons, All-nil}
use Rattle.fractions.specs.declared.Numbers.{Numbers}
use Rattle.undo_records.specs.declared.side.Side.{Side}
use Rattle.undo_records.specs.declared.side.Side.TheVariants.{Lower, Upper}
use Rattle.problem_model.specs.declared.edit.Edit.{Edit}
use Rattle.problem_model.specs.declared.refusal.Refusal.{Refusal}
use Rattle.problem_model.specs.declared.refusal.Refusal.TheVariants.{Past, NotDecimal, NoMemory}
use Rattle.problem_model.specs.NewNumbers.{EditFits, EditIsWritten, EditsAreWritten, EditsFit}
use Rattle.problem_model.specs.Offsets.{OffsetFits}
use Rattle.problem_model.specs.Problems.{bounds_at}
use Rattle.problem_model.specs.Sparse.{Sparse}
use Rattle.rule_words.specs.Answers.{Answers, Changes}
use Rattle.rule_words.specs.declared.change.Change.{Change}
use Rattle.activity_laws.specs.BoundTightening.{bound_set, new_bound}
use Rattle.presolve_model.specs.declared.instance.Reduction.{Reduction}
use Rattle.presolve_model.specs.declared.instance.Reduction.TheVariants as reduction
use Rattle.presolve_model.specs.After.{AfterAllows}
use Rattle.presolve_model.specs.Changes.{ChangeFits, ChangeIsWritten}
use Rattle.presolve_model.specs.Tables.{Computes, edits, record_of}
use Rattle.applying.specs.Prepared.{IsPrepared}

-- ---- the one edit of a tightened bound decides
module _ (numbers : Numbers) (p : Sparse) (i j : ℕ) (side : Side) where
  abbrev pub edit : Edit
  edit = bound_set side j (bounds_at p j) (new_bound p i j side)

  no_offset : (s : Side) → OffsetFits p.offset (bound_set s j (bounds_at p j) (new_bound p i j s) ∷ [])
  no_offset Lower = tt
  no_offset Upper = tt

  fits_by : EditFits edit → ChangeFits (reduction.BoundTightening i j side) p
  unfolding Computes edits
  fits_by f = record { computes = tt; edits = record { each = All-cons EditFits edit [] f (All-nil EditFits); offset = no_offset side } }

  pub refused_bound : (e : Edit) (u : Result (Unit {0}) Refusal) → e ≡ edit → Answers (EditFits e) (EditIsWritten numbers e) (λ v. ⊤) u
      → IfErr u (λ refusal. AfterAllows numbers (reduction.BoundTightening i j side) p (Err refusal) p)
  unfolding edits
  refused_bound e u h a = by u (subst (λ (x : Edit). Answers (EditFits x) (EditIsWritten numbers x) (λ v. ⊤) u) h a)
    where
      by : (u : Result (Unit {0}) Refusal) → Answers (EditFits edit) (EditIsWritten numbers edit) (λ v. ⊤) u → IfErr u (λ refusal. AfterAllows numbers (reduction.BoundTightening i j side) p (Err refusal) p)
      by (Ok v) b = tt
      by (Err Past) b = ((λ f. b (All-head EditFits edit [] f.edits.each)), refl)
      by (Err NotDecimal) b = (fits_by b.0, (λ w. b.1 (All-head (EditIsWritten numbers) edit [] w)), refl)
      by (Err NoMemory) b = refl

  pub tightened_by : (e : Edit) (x : Result Change Refusal) → e ≡ edit → EditFits e × EditIsWritten numbers e × ⊤
      → Changes (Computes (reduction.BoundTightening i j side) p) (edits (reduction.BoundTightening i j side) p) (record_of (reduction.BoundTightening i j side) p) x
      → IsPrepared numbers (reduction.BoundTightening i j side) p x
  unfolding Computes edits
  tightened_by e (Ok change) h a c = let b = subst (λ (x : Edit). EditFits x × EditIsWritten numbers x × ⊤) h a in (fits_by b.0, All-cons (EditIsWritten numbers) edit [] b.1 (All-nil (EditIsWritten numbers)), c.2)
  tightened_by e (Err Past) h a c = absurd (c tt)
  tightened_by e (Err NotDecimal) h a c = absurd (c.1 tt)
  tightened_by e (Err NoMemory) h a c = refl

-- ---- a change that is made before its numbers are asked
module _ (numbers : Numbers) (p : Sparse) (r : Reduction) where
  pub refused_change : (x : Refusal) → Changes (Computes r p) (edits r p) (record_of r p) (Err x) → AfterAllows numbers r p (Err x) p
  refused_change Past c = ((λ f. c f.computes), refl)
  refused_change NotDecimal c = absurd (c.1 tt)
  refused_change NoMemory c = refl

  module _ (es : List Edit) (is : es ≡ edits r p) (computes : Computes r p) where
    pub refused_numbers : (x : Refusal) → Answers (EditsFit p es) (EditsAreWritten numbers es) (λ (v : Unit {0}). ⊤) (Err x) → AfterAllows numbers r p (Err x) p
    refused_numbers Past a = ((λ f. a (subst (EditsFit p) (sym is) f.edits)), refl)
    refused_numbers NotDecimal a = (record { computes = computes; edits = subst (EditsFit p) is a.0 }, (λ w. a.1 (subst (EditsAreWritten numbers) (sym is) w)), refl)
    refused_numbers NoMemory a = refl

    pub admitted_numbers : EditsFit p es → EditsAreWritten numbers es → ChangeFits r p × ChangeIsWritten numbers r p
    admitted_numbers f w = (record { computes = computes; edits = subst (EditsFit p) is f }, subst (EditsAreWritten numbers) is w)
