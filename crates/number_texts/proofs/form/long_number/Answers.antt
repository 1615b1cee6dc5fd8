use Rattle.std.proofs.Common.{◌≤◌, arith}
use Rattle.number_texts.specs.Form.{number}
use Rattle.number_texts.proofs.Digits.{past_digit}
use Rattle.number_texts.proofs.form.long_number.Goals as goal

pub returns-in_err-n : goal.returns-in_err-n
returns-in_err-n c = rw c.from_residual.ensures (λ h. let p : c.args.limit ≤ number c.args.digits.now = past_digit c.args.digits.now c.loop-rest.rest.now c.loop-rest.n c.args.limit c.in-len1-up.len_at_least c.loop-rest.invariant.value (omega (arith, c.in_err-n.ensures)) in omega arith)
