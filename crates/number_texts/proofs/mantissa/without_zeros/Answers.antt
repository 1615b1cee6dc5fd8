use Rattle.std.proofs.Common.{arith}
use Rattle.number_texts.specs.Mantissas.{mantissa_of}
use Rattle.number_texts.proofs.MantissaLaws.{mantissa_after-append, mantissa_after_ge}
use Rattle.number_texts.proofs.mantissa.without_zeros.Goals as goal

pub returns-in_err-first-clause-value : goal.returns-in_err-first-clause-value
returns-in_err-first-clause-value c = rw (c.from_residual.ensures, mantissa_after-append) (λ h.
    let p = mantissa_after_ge (mantissa_of c.args.whole.now) c.args.decimals.now in
    c.in_err-first.ensures.value (omega arith))

pub returns-clause-value : goal.returns-clause-value
returns-clause-value c = rw (mantissa_after-append, ← c.in_ok-first.ensures.value.1) c.after-2.ensures.value
