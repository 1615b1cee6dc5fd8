use Rattle.std.proofs.Common.{◌≡◌, ◌<◌, length, refl, le_antisymm, sym, ap, ◌∙◌, subst}
use Rattle.std.proofs.lemmas.Result.{err_from_is_err_and}
use Rattle.fractions.specs.Number.{zero_ℚ}
use Rattle.fractions.specs.FracWords.{SumFits}
use Rattle.lp_model.specs.Vectors.{vector_of}
use Rattle.lp_model.specs.Meaning.{no_column, meaning}
use Rattle.lp_model.proofs.Sums.{Summed, summed_none, summed_more, no_room, not_so, read_at}
use Rattle.lp_model.proofs.plain.cost.Goals as goal

pub loop-j-init : goal.loop-j-init
loop-j-init c = summed_none _ _ _ c.zero-sum.ensures.value

pub loop-j-preserved : goal.loop-j-preserved
loop-j-preserved c =
    let long : c.loop-j.j < length c.as_slice-numbers.result.now = subst (λ n. c.loop-j.j < n) (ap length c.columns-columns.ensures ∙ sym c.requires ∙ ap length (sym c.as_slice-numbers.ensures)) c.loop-j-test.true in
    summed_more _ _ _ _ _ _ _ c.loop-j.invariant
    (ap (λ d. d.cost) (read_at _ c.args.program.now.columns c.loop-j.j _ no_column c.columns-columns.ensures c.loop-j-test.true))
    (c.index-numbers-j.is ∙ read_at _ c.args.point.now c.loop-j.j _ zero_ℚ c.as_slice-numbers.ensures long)
    c.in_ok-sum.ensures.value
    (c.in_ok-sum.ensures.fits.0 refl)

pub returns-in_err-sum-clause-fits : goal.returns-in_err-sum-clause-fits
returns-in_err-sum-clause-fits c =
    let p = err_from_is_err_and c.from_residual.result c.from_residual.ensures.1 in
    let long : c.loop-j.j < length c.as_slice-numbers.result.now = subst (λ n. c.loop-j.j < n) (ap length c.columns-columns.ensures ∙ sym c.requires ∙ ap length (sym c.as_slice-numbers.ensures)) c.loop-j-test.true in
    let inside : c.loop-j.j < length c.args.program.now.columns = subst (λ n. c.loop-j.j < n) (ap length c.columns-columns.ensures) c.loop-j-test.true in
    rw p.1 (
      (λ k. absurd (not_so k)),
      λ f. absurd (no_room _ _ _ _ _ _ _ c.loop-j.invariant
          (ap (λ d. d.cost) (read_at _ c.args.program.now.columns c.loop-j.j _ no_column c.columns-columns.ensures c.loop-j-test.true))
          (c.index-numbers-j.is ∙ read_at _ c.args.point.now c.loop-j.j _ zero_ℚ c.as_slice-numbers.ensures long)
          inside (λ h. not_so (c.in_err-sum.ensures.fits.1 h)) f.0),
    )

pub returns-clause-fits : goal.returns-clause-fits
returns-clause-fits c =
    let n : c.loop-j.j ≡ length c.args.program.now.columns = le_antisymm c.loop-j.auto.j-end c.loop-j-test.false ∙ ap length c.columns-columns.ensures in
    let s : Summed (length c.args.program.now.columns) (meaning c.args.program.now).costs (vector_of c.args.point.now) c.loop-j.sum = subst (λ m. Summed m (meaning c.args.program.now).costs (vector_of c.args.point.now) c.loop-j.sum) n c.loop-j.invariant in (
      λ k. (s.fits, subst (λ t. SumFits t c.args.program.now.constant) s.is (subst (λ b. SumFits c.loop-j.sum b) c.constant-constant.ensures (c.add.ensures.fits.0 k))),
      λ h. c.add.ensures.fits.1 (subst (λ b. SumFits c.loop-j.sum b) (sym c.constant-constant.ensures) (subst (λ t. SumFits t c.args.program.now.constant) (sym s.is) h.1)),
    )
