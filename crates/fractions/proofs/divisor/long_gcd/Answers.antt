use Rattle.std.proofs.Common.{◌≡◌, ℕ, sym, ap, ◌∙◌}
use Rattle.fractions.specs.Gcd.{gcd}
use Rattle.fractions.proofs.GcdSteps.{gcd_comm, gcd-%, gcd_zero}
use Rattle.fractions.proofs.divisor.long_gcd.Goals as goal
use Rattle.fractions.proofs.divisor.long_gcd.Goals.{then-long, else-long}

pub returns-then-short-eq0 : goal.returns-then-short-eq0
returns-then-short-eq0 c = sym (gcd_zero c.shortened-long.result.0) ∙ ap (gcd c.shortened-long.result.0) (sym c.if-short-eq0.true) ∙ c.shortened-long.ensures.same

pub returns : goal.returns
returns c =
    let long : ℕ = c.shortened-long.result.0 in
    let short : ℕ = c.shortened-long.result.1 in
    let e : gcd c.if-long.rest short ≡ gcd long short = elim c.if-long.branch [
      | then-long w ↦ ap (λ (n : ℕ). gcd n short) w.rest-is
      | else-long w ↦ ap (λ (n : ℕ). gcd n short) w.rest-is ∙ gcd_comm _ _ ∙ sym (gcd-% long short)
    ] in
    c.short_gcd.ensures ∙ e ∙ c.shortened-long.ensures.same
