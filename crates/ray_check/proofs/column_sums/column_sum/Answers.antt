use Rattle.std.proofs.Common.{IfOk, IsOk, refl, ◌≡◌, ◌∙◌, ap, subst, sym}
use Rattle.std.proofs.lemmas.Result.{err_from_is_err_and}
use Rattle.lp_model.specs.Meaning.{no_column}
use Rattle.lp_model.proofs.Sums.{not_so, read_at}
use Rattle.lp_model.specs.declared.program.ColumnDef.{ColumnDef}
use Rattle.lp_rays.specs.RayData.{weights_of}
use Rattle.ray_check.proofs.LoopReads.{within}
use Rattle.ray_check.proofs.SumSteps.{summed, sum_is, sum_fits, lower_past}
use Rattle.ray_check.proofs.column_sums.column_sum.Goals as goal

pub returns-in_err-sum-2-clause-fits : goal.returns-in_err-sum-2-clause-fits
returns-in_err-sum-2-clause-fits c =
    let w = weights_of c.args.ray.now in
    let there = within c.args.program.now.columns c.columns.result.now c.args.column (sym c.columns.ensures) c.requires.within in
    let column = read_at c.columns.result.now c.args.program.now.columns c.args.column c.index-columns-column.result no_column c.columns.ensures there in
    let so_far = summed c.args.program.now w c.args.column c.as_slice.result.now c.in_ok-sum.sum (c.as_slice.ensures ∙ ap (λ (k : ColumnDef). k.entries) column) (c.requires.ascends c.args.column no_column c.requires.within) c.in_ok-sum.ensures.value in
    let p = err_from_is_err_and c.from_residual-in_err-sum-2.result c.from_residual-in_err-sum-2.ensures.1 in
    rw p.1 (
      (λ k. absurd (not_so k)),
      λ f. absurd (lower_past _ _ _ _ _ c.lower_bound.result so_far c.lower_bound.ensures (λ h. not_so (c.in_err-sum-2.ensures.fits.1 h)) f),
    )

pub returns-clause-value : goal.returns-clause-value
returns-clause-value c =
    let w = weights_of c.args.ray.now in
    let there = within c.args.program.now.columns c.columns.result.now c.args.column (sym c.columns.ensures) c.requires.within in
    let column = read_at c.columns.result.now c.args.program.now.columns c.args.column c.index-columns-column.result no_column c.columns.ensures there in
    let so_far = summed c.args.program.now w c.args.column c.as_slice.result.now c.in_ok-sum.sum (c.as_slice.ensures ∙ ap (λ (k : ColumnDef). k.entries) column) (c.requires.ascends c.args.column no_column c.requires.within) c.in_ok-sum.ensures.value in
    subst (λ z. IfOk c.sub.result (λ r. r ≡ z)) (sum_is _ _ _ _ _ c.lower_bound.result c.in_ok-sum-2.sum c.upper_bound.result so_far c.lower_bound.ensures c.in_ok-sum-2.ensures.value c.upper_bound.ensures) c.sub.ensures.value

pub returns-clause-fits : goal.returns-clause-fits
returns-clause-fits c =
    let w = weights_of c.args.ray.now in
    let there = within c.args.program.now.columns c.columns.result.now c.args.column (sym c.columns.ensures) c.requires.within in
    let column = read_at c.columns.result.now c.args.program.now.columns c.args.column c.index-columns-column.result no_column c.columns.ensures there in
    let so_far = summed c.args.program.now w c.args.column c.as_slice.result.now c.in_ok-sum.sum (c.as_slice.ensures ∙ ap (λ (k : ColumnDef). k.entries) column) (c.requires.ascends c.args.column no_column c.requires.within) c.in_ok-sum.ensures.value in
    sum_fits _ _ _ _ _ c.lower_bound.result c.in_ok-sum-2.sum c.upper_bound.result (IsOk c.sub.result) so_far c.lower_bound.ensures c.in_ok-sum-2.ensures.value c.upper_bound.ensures
    (c.in_ok-sum.ensures.fits.0 refl) (c.in_ok-sum-2.ensures.fits.0 refl) c.sub.ensures.fits
