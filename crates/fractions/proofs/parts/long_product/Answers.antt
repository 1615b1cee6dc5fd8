use Rattle.std.proofs.Common.{refl, rules}
use Rattle.fractions.specs.Gcd.{gcd-IsGcd}
use Rattle.fractions.proofs.ProductSteps.{product_lowest, product_of_steps, Fits-is}
use Rattle.fractions.proofs.parts.long_product.Goals as goal

pub over-left-requires-clause-divides : goal.over-left-requires-clause-divides
over-left-requires-clause-divides c = rw (c.gcd-across.ensures.value, c.size.ensures.value) (gcd-IsGcd _ _).0

pub over-right-requires-clause-divides : goal.over-right-requires-clause-divides
over-right-requires-clause-divides c = rw (c.gcd-back.ensures.value, c.size-2.ensures.value) (gcd-IsGcd _ _).0

pub returns-in_err-num-clause-fits : goal.returns-in_err-num-clause-fits
returns-in_err-num-clause-fits c =
    let p = product_lowest c.args.a.num c.args.b.num c.over-left.result c.over-right.result c.args.a.den c.args.b.den c.gcd-across.result c.gcd-back.result c.requires.left c.requires.right (rw (c.gcd-across.ensures.value, c.size.ensures.value)) (rw (c.gcd-back.ensures.value, c.size-2.ensures.value)) c.over-left.ensures.exact c.over-right.ensures.exact in
    (search rules, λ h. absurd (c.in_err-num.ensures ((Fits-is _ _ _ p.positive p.coprime p.equal).1 h).0))

pub returns-in_err-den-clause-fits : goal.returns-in_err-den-clause-fits
returns-in_err-den-clause-fits c =
    let p = product_of_steps c.args.a.num c.args.b.num c.over-left.result c.over-right.result c.args.a.den c.args.b.den c.gcd-across.result c.gcd-back.result c.quotient.result c.quotient-2.result c.requires.left c.requires.right (rw (c.gcd-across.ensures.value, c.size.ensures.value)) (rw (c.gcd-back.ensures.value, c.size-2.ensures.value)) c.over-left.ensures.exact c.over-right.ensures.exact c.quotient.ensures c.quotient-2.ensures in
    (search rules, λ h. absurd (c.in_err-den.ensures ((Fits-is _ _ _ p.positive p.coprime p.equal).1 h).1))

pub returns-clause-lowest : goal.returns-clause-lowest
returns-clause-lowest c =
    let p = product_of_steps c.args.a.num c.args.b.num c.over-left.result c.over-right.result c.args.a.den c.args.b.den c.gcd-across.result c.gcd-back.result c.quotient.result c.quotient-2.result c.requires.left c.requires.right (rw (c.gcd-across.ensures.value, c.size.ensures.value)) (rw (c.gcd-back.ensures.value, c.size-2.ensures.value)) c.over-left.ensures.exact c.over-right.ensures.exact c.quotient.ensures c.quotient-2.ensures in
    rw (c.in_ok-num.ensures.1, c.in_ok-den.ensures.1) (record { over_fits = c.in_ok-num.ensures.0; under_fits = c.in_ok-den.ensures.0; positive = p.positive; coprime = p.coprime })

pub returns-clause-value : goal.returns-clause-value
returns-clause-value c =
    let p = product_of_steps c.args.a.num c.args.b.num c.over-left.result c.over-right.result c.args.a.den c.args.b.den c.gcd-across.result c.gcd-back.result c.quotient.result c.quotient-2.result c.requires.left c.requires.right (rw (c.gcd-across.ensures.value, c.size.ensures.value)) (rw (c.gcd-back.ensures.value, c.size-2.ensures.value)) c.over-left.ensures.exact c.over-right.ensures.exact c.quotient.ensures c.quotient-2.ensures in
    rw (c.in_ok-num.ensures.1, c.in_ok-den.ensures.1) p.equal

pub returns-clause-fits : goal.returns-clause-fits
returns-clause-fits c =
    let p = product_of_steps c.args.a.num c.args.b.num c.over-left.result c.over-right.result c.args.a.den c.args.b.den c.gcd-across.result c.gcd-back.result c.quotient.result c.quotient-2.result c.requires.left c.requires.right (rw (c.gcd-across.ensures.value, c.size.ensures.value)) (rw (c.gcd-back.ensures.value, c.size-2.ensures.value)) c.over-left.ensures.exact c.over-right.ensures.exact c.quotient.ensures c.quotient-2.ensures in
    (λ h. (Fits-is _ _ _ p.positive p.coprime p.equal).0 (c.in_ok-num.ensures.0, c.in_ok-den.ensures.0), λ h. refl)
