use Rattle.std.proofs.Common.{refl}
use Rattle.lp_model.specs.declared.program.ColumnDef.{ColumnDef}
use Rattle.lp_model.specs.Meaning.{no_column}
use Rattle.lp_model.proofs.Differing.{differ_empty, differ_less, differ_more}
use Rattle.lp_model.proofs.Sums.{not_so}
use Rattle.lp_model.proofs.plain.columns_differ.Goals as goal

pub returns-then-not-is_no_column : goal.returns-then-not-is_no_column
returns-then-not-is_no_column c = (
  λ t. absurd (not_so t),
  λ h. absurd (not_so (c.if-not-is_no_column.ensures.1 (differ_less (λ (one : ColumnDef). one.name) no_column c.in-Some.first.now c.in-Some.after.now c.loop-first.rest.now c.in-Some.ensures.cases.0 (c.loop-first.invariant.1 h)).0)),
)

pub loop-first-preserved : goal.loop-first-preserved
loop-first-preserved c = (
  λ h. c.loop-first.invariant.0 (differ_more (λ (one : ColumnDef). one.name) no_column c.in-Some.first.now c.in-Some.after.now c.loop-first.rest.now c.in-Some.ensures.cases.0 (c.is_no_column.ensures.0 c.if-not-is_no_column.false) h),
  λ h. (differ_less (λ (one : ColumnDef). one.name) no_column c.in-Some.first.now c.in-Some.after.now c.loop-first.rest.now c.in-Some.ensures.cases.0 (c.loop-first.invariant.1 h)).1,
)

pub returns : goal.returns
returns c = (λ _. c.loop-first.invariant.0 (differ_empty (λ (one : ColumnDef). one.name) c.loop-first.rest.now c.in_default.ensures.cases), λ _. refl)
