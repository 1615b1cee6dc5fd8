use Rattle.std.proofs.Common.{◌≡◌, ◌*◌, ◌/◌, ◌^◌, ◌<◌, ℕ, ap, ◌∙◌, subst, sym}
use Rattle.fractions.specs.Gcd.{gcd}
use Rattle.kept_sums.specs.CommonSums.{IsCommonMultiple}
use Rattle.kept_sums.proofs.Numerators.{common_is}
use Rattle.kept_sums.proofs.common.common_multiple.Goals as goal

pub returns-in-Some : goal.returns-in-Some
returns-in-Some c =
    let e : c.in-Some.all ≡ c.args.common * (c.args.other / gcd c.args.common c.args.other) = c.in-Some.ensures.1 ∙ ap (λ (n : ℕ). c.args.common * n) (c.quotient-part.ensures ∙ ap (λ (n : ℕ). c.args.other / n) c.gcd.ensures.value) in
    subst (IsCommonMultiple c.args.common c.args.other) (sym e) (common_is c.args.common c.args.other c.requires.common c.requires.other (subst (λ (n : ℕ). n < 2 ^ 127) e c.if-all.true))
