use Rattle.std.proofs.Common.{sym, ◌∙◌, refl}
use Rattle.mps_numbers.proofs.Sums.{sum_in-err, sum_in-ok}
use Rattle.mps_numbers.proofs.sides.sum_in.Goals as goal

pub returns-in_err-sum : goal.returns-in_err-sum
returns-in_err-sum c = sum_in-err c.args.numbers c.args.left.now c.args.right.now c.from_residual.result c.from_residual.ensures.0 c.in_err-sum.ensures.fits.1

pub returns-then-is_taken : goal.returns-then-is_taken
returns-then-is_taken c = sum_in-ok c.args.numbers c.args.left.now c.args.right.now c.in_ok-sum.sum c.in_ok-sum.ensures.value (c.in_ok-sum.ensures.fits.0 refl) (sym c.is_taken.ensures ∙ c.if-is_taken.true)
