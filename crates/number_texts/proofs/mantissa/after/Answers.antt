use Rattle.std.proofs.Common.{◌≡◌, ◌≤◌, ◌^◌, arith, ap}
use Rattle.number_texts.specs.declared.mantissa.Mantissa.{Mantissa}
use Rattle.number_texts.specs.Mantissas.{mantissa_after}
use Rattle.number_texts.proofs.MantissaLaws.{past_mantissa}
use Rattle.number_texts.proofs.mantissa.after.Goals as goal

pub returns-in_err-mantissa-clause-value : goal.returns-in_err-mantissa-clause-value
returns-in_err-mantissa-clause-value c = rw c.from_residual.ensures (λ h.
    let p : 2 ^ 127 ≤ (mantissa_after c.loop-rest.mantissa c.loop-rest.rest.now).number = past_mantissa c.loop-rest.mantissa c.loop-rest.rest.now (2 ^ 127) c.in-len1-up.len_at_least (omega (arith, c.in_err-mantissa.ensures.value)) in
    let e : (mantissa_after c.loop-rest.mantissa c.loop-rest.rest.now).number ≡ (mantissa_after c.args.mantissa c.args.digits.now).number = ap (λ (s : Mantissa). s.number) c.loop-rest.invariant.value in
    omega arith)
