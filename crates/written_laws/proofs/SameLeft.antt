-- What is left to be done is the same without what was deleted.
use Rattle.std.proofs.Common.{◌≡◌, ◌↔◌, Bool, true, false, refl, sym, ap, ◌∙◌, subst}
use Rattle.fractions.specs.declared.Numbers.{Numbers}
use Rattle.lp_model.specs.ProgramData.{ProgramData}
use Rattle.problem_model.specs.Edits.{offset_set}
use Rattle.problem_model.specs.Problems.{IsSparse}
use Rattle.problem_model.specs.Programs.{IsProblemOf, written_program}
use Rattle.problem_model.specs.Sparse.{Sparse}
use Rattle.problem_laws.proofs.Terms.{not_both}
use Rattle.edit_laws.specs.Sizes.{SameSize}
use Rattle.presolve_model.specs.declared.instance.Instance.{Instance}
use Rattle.presolve_model.specs.declared.instance.Instance.TheVariants as at
use Rattle.presolve_model.specs.declared.instance.Reduction.{Reduction}
use Rattle.presolve_model.specs.Enabled.{enabled_on}
use Rattle.presolve_model.specs.Replay.{CanApply}
use Rattle.presolve_model.specs.Stuck.{IsUndecided, Stuck}
use Rattle.presolve_model.specs.Instances.{is_open}
use Rattle.presolve_model.specs.Tallies.{Open}
use Rattle.written_laws.specs.Left.{AreOpenAlike, HaveSameLeft}
use Rattle.written_ids.specs.NewIds.{new_ids}
use Rattle.written_ids.specs.Standing.{IsLeft}
use Rattle.written_ids.proofs.NewIds.{old_ids}
use Rattle.written_ids.proofs.Standing.{AreThere}
use Rattle.written_ids.proofs.WrittenStand.{still_of, written_left}
use Rattle.written_laws.proofs.ByCases.{instance_at, open_stands, own, own_of, reduction_at, verdict_at}
use Rattle.written_laws.proofs.Counting.{skipped_same}
use Rattle.written_laws.proofs.Tabled.{applies_stand, enabled_stands, own_back, instances_back, reductions_back, there_where_enabled}

no_true : (b : Bool) → (b ≡ true → ⊥) → b ≡ false
no_true true h = absurd (h refl)
no_true false h = refl

module _ (p q : Sparse) (l : IsLeft p q) where
  enabled_there : (e : Instance) → enabled_on p e ≡ true → enabled_on q (instance_at (new_ids p) e) ≡ true
  enabled_there e on = enabled_stands (new_ids p) p q l.stands e (there_where_enabled p e on) ∙ on

  enabled_back : (e : Instance) → enabled_on q e ≡ true → enabled_on p (instance_at (old_ids p) e) ≡ true
  enabled_back e on =
      let h : AreThere q (own e) = there_where_enabled q e on in
      sym (enabled_stands (new_ids p) p q l.stands (instance_at (old_ids p) e) (own_back p q l e h)) ∙ ap (enabled_on q) (instances_back p q l e h) ∙ on

  undecided_same : IsUndecided p ↔ IsUndecided q
  undecided_same = (
    λ u v. no_true (enabled_on q (at.Verdict v)) (λ on. not_both (enabled_back (at.Verdict v) on) (u (verdict_at (old_ids p) v))),
    λ u v. no_true (enabled_on p (at.Verdict v)) (λ on. not_both (enabled_there (at.Verdict v) on) (u (verdict_at (new_ids p) v))),
  )

  module _ (numbers : Numbers) where
    applies_there : (r : Reduction) → CanApply numbers p r → CanApply numbers q (reduction_at (new_ids p) r)
    applies_there r c = (applies_stand (new_ids p) p q l.stands numbers r l.offset (there_where_enabled p (at.Reduction r) c.enabled)).0 c

    applies_back : (r : Reduction) → CanApply numbers q r → CanApply numbers p (reduction_at (old_ids p) r)
    applies_back r c =
        let h : AreThere q (own_of r) = there_where_enabled q (at.Reduction r) c.enabled in
        (applies_stand (new_ids p) p q l.stands numbers (reduction_at (old_ids p) r) l.offset (own_back p q l (at.Reduction r) h)).1
        (subst (CanApply numbers q) (sym (reductions_back p q l r h)) c)

    module _ (old new : Open) (a : AreOpenAlike old p new) where
      open_there : (r : Reduction) → CanApply numbers p r → is_open new (at.Reduction (reduction_at (new_ids p) r)) ≡ is_open old (at.Reduction r)
      open_there r c = open_stands old p new a r (there_where_enabled p (at.Reduction r) c.enabled)

      open_back : (r : Reduction) → CanApply numbers q r → is_open old (at.Reduction (reduction_at (old_ids p) r)) ≡ is_open new (at.Reduction r)
      open_back r c =
          let h : AreThere q (own_of r) = there_where_enabled q (at.Reduction r) c.enabled in
          sym (open_stands old p new a (reduction_at (old_ids p) r) (own_back p q l (at.Reduction r) h)) ∙ ap (λ (s : Reduction). is_open new (at.Reduction s)) (reductions_back p q l r h)

      stuck_same : Stuck numbers old p ↔ Stuck numbers new q
      stuck_same = (
        λ s. record { undecided = undecided_same.0 s.undecided; reductions = λ r o c. s.reductions (reduction_at (old_ids p) r) (open_back r c ∙ o) (applies_back r c) },
        λ s. record { undecided = undecided_same.1 s.undecided; reductions = λ r o c. s.reductions (reduction_at (new_ids p) r) (open_there r c ∙ o) (applies_there r c) },
      )

      pub same_left : HaveSameLeft numbers old p new q
      same_left = record { undecided = undecided_same; stuck = stuck_same; skipped = skipped_same old p new q l a }

pub written_same_left : (numbers : Numbers) (program : ProgramData) (start p q : Sparse) (old new : Open) → IsProblemOf program start → SameSize start p → IsSparse p → IsProblemOf (written_program program p) q → AreOpenAlike old p new
    → HaveSameLeft numbers old p new (offset_set q p.offset)
written_same_left numbers program start p q old new h z s w a = same_left p (offset_set q p.offset) (written_left program p q s (still_of program start p h z) w) numbers old new a
