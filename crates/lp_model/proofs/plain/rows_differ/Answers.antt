use Rattle.std.proofs.Common.{refl}
use Rattle.lp_model.specs.declared.program.RowDef.{RowDef}
use Rattle.lp_model.specs.Meaning.{no_row}
use Rattle.lp_model.proofs.Differing.{differ_empty, differ_less, differ_more}
use Rattle.lp_model.proofs.Sums.{not_so}
use Rattle.lp_model.proofs.plain.rows_differ.Goals as goal

pub returns-then-not-is_no_row : goal.returns-then-not-is_no_row
returns-then-not-is_no_row c = (
  λ t. absurd (not_so t),
  λ h. absurd (not_so (c.if-not-is_no_row.ensures.1 (differ_less (λ (one : RowDef). one.name) no_row c.in-Some.first.now c.in-Some.after.now c.loop-first.rest.now c.in-Some.ensures.cases.0 (c.loop-first.invariant.1 h)).0)),
)

pub loop-first-preserved : goal.loop-first-preserved
loop-first-preserved c = (
  λ h. c.loop-first.invariant.0 (differ_more (λ (one : RowDef). one.name) no_row c.in-Some.first.now c.in-Some.after.now c.loop-first.rest.now c.in-Some.ensures.cases.0 (c.is_no_row.ensures.0 c.if-not-is_no_row.false) h),
  λ h. (differ_less (λ (one : RowDef). one.name) no_row c.in-Some.first.now c.in-Some.after.now c.loop-first.rest.now c.in-Some.ensures.cases.0 (c.loop-first.invariant.1 h)).1,
)

pub returns : goal.returns
returns c = (λ _. c.loop-first.invariant.0 (differ_empty (λ (one : RowDef). one.name) c.loop-first.rest.now c.in_default.ensures.cases), λ _. refl)
