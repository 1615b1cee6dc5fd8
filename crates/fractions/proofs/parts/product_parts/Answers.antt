use Rattle.std.proofs.Common.{refl, rules, lit<}
use Rattle.fractions.proofs.ProductSteps.{Fits-is}
use Rattle.fractions.proofs.WholeSteps.{whole_product}
use Rattle.fractions.proofs.parts.product_parts.Goals as goal

pub returns-in_err-num-clause-fits : goal.returns-in_err-num-clause-fits
returns-in_err-num-clause-fits c =
    let p = whole_product _ _ _ _ c.if-a-ne1.false c.if-b-ne1.false c.requires.left c.requires.right in
    (search rules, λ h. absurd (c.in_err-num.ensures ((Fits-is _ _ _ p.positive p.coprime p.equal).1 h).0))

pub returns-clause-lowest : goal.returns-clause-lowest
returns-clause-lowest c =
    let p = whole_product _ _ _ _ c.if-a-ne1.false c.if-b-ne1.false c.requires.left c.requires.right in
    rw c.in_ok-num.ensures.1 (record { over_fits = c.in_ok-num.ensures.0; under_fits = lit< tt; positive = p.positive; coprime = p.coprime })

pub returns-clause-value : goal.returns-clause-value
returns-clause-value c = rw c.in_ok-num.ensures.1 (whole_product _ _ _ _ c.if-a-ne1.false c.if-b-ne1.false c.requires.left c.requires.right).equal

pub returns-clause-fits : goal.returns-clause-fits
returns-clause-fits c =
    let p = whole_product _ _ _ _ c.if-a-ne1.false c.if-b-ne1.false c.requires.left c.requires.right in
    (λ h. (Fits-is _ _ _ p.positive p.coprime p.equal).0 (c.in_ok-num.ensures.0, lit< tt), λ h. refl)
