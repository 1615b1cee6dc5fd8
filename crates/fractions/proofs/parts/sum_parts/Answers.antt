use Rattle.std.proofs.Common.{refl, rules}
use Rattle.fractions.proofs.WholeSteps.{whole_sum}
use Rattle.fractions.proofs.parts.sum_parts.Goals as goal

pub returns-in_err-num-clause-fits : goal.returns-in_err-num-clause-fits
returns-in_err-num-clause-fits c =
    let s = whole_sum _ _ _ _ c.if-a-ne1.false c.if-b-ne1.false c.requires.left c.requires.right in
    (search rules, λ h. absurd (c.in_err-num.ensures (s.fits.0 h)))

pub returns-clause-lowest : goal.returns-clause-lowest
returns-clause-lowest c =
    let s = whole_sum _ _ _ _ c.if-a-ne1.false c.if-b-ne1.false c.requires.left c.requires.right in
    rw c.in_ok-num.ensures.1 (s.lowest c.in_ok-num.ensures.0)

pub returns-clause-value : goal.returns-clause-value
returns-clause-value c =
    let s = whole_sum _ _ _ _ c.if-a-ne1.false c.if-b-ne1.false c.requires.left c.requires.right in
    rw c.in_ok-num.ensures.1 (s.equal c.in_ok-num.ensures.0)

pub returns-clause-fits : goal.returns-clause-fits
returns-clause-fits c =
    let s = whole_sum _ _ _ _ c.if-a-ne1.false c.if-b-ne1.false c.requires.left c.requires.right in
    (λ h. s.fits.1 c.in_ok-num.ensures.0, λ h. refl)
