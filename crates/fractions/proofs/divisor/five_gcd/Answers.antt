use Rattle.std.proofs.Common.{◌≡◌, ◌≢◌, ◌≤◌, ◌*◌, ◌/◌, ◌%◌, ℕ, ap, ◌∙◌, sym, arith, div-add-mod', mul-le-mul_left}
use Rattle.fractions.specs.Gcd.{gcd}
use Rattle.fractions.proofs.GcdSteps.{odd_fifth, five_of_one, five_of_both, gcd_one}
use Rattle.fractions.proofs.divisor.five_gcd.Goals as goal

pub loop-y-preserved-then-x-eq0 : goal.loop-y-preserved-then-x-eq0
loop-y-preserved-then-x-eq0 c =
    let g : c.loop-y.x % 5 ≡ 0 = omega arith in
    let h : c.loop-y.y % 5 ≡ 0 = omega arith in
    let e : c.loop-y.y / 5 * 5 ≡ c.loop-y.y = omega (arith, div-add-mod' c.loop-y.y 5, h) in
    let same : gcd (c.loop-y.x / 5) (c.loop-y.y / 5) * (c.loop-y.fives * 5) ≡ gcd (c.loop-y.x / 5) (c.loop-y.y / 5) * 5 * c.loop-y.fives = omega arith in
    record {
      same = same ∙ ap (λ (n : ℕ). n * c.loop-y.fives) (five_of_both c.loop-y.x c.loop-y.y g h) ∙ c.loop-y.invariant.same;
      left = odd_fifth c.loop-y.x c.loop-y.invariant.left g;
      right = odd_fifth c.loop-y.y c.loop-y.invariant.right h;
      below = omega (arith, ap (λ (n : ℕ). c.loop-y.fives * n) e, c.loop-y.invariant.below);
    }

pub loop-y-preserved : goal.loop-y-preserved
loop-y-preserved c =
    let g : c.loop-y.x % 5 ≢ 0 = λ e. omega (arith, e) in
    let h : c.loop-y.y % 5 ≡ 0 = omega arith in
    let l : c.loop-y.y / 5 ≤ c.loop-y.y = omega (arith, div-add-mod' c.loop-y.y 5) in
    record {
      same = ap (λ (n : ℕ). n * c.loop-y.fives) (five_of_one c.loop-y.x c.loop-y.y g h) ∙ c.loop-y.invariant.same;
      left = c.loop-y.invariant.left;
      right = odd_fifth c.loop-y.y c.loop-y.invariant.right h;
      below = omega (arith, mul-le-mul_left c.loop-y.fives l, c.loop-y.invariant.below);
    }

pub returns-then-y-eq1 : goal.returns-then-y-eq1
returns-then-y-eq1 c =
    let e : c.loop-y.y ≡ 1 = omega arith in
    let s : gcd c.loop-y.x 1 * c.loop-y.fives ≡ gcd c.args.a c.args.b = ap (λ (n : ℕ). gcd c.loop-y.x n * c.loop-y.fives) (sym e) ∙ c.loop-y.invariant.same in
    let t : c.loop-y.fives ≡ 1 * c.loop-y.fives = omega arith in
    t ∙ ap (λ (n : ℕ). n * c.loop-y.fives) (sym (gcd_one c.loop-y.x)) ∙ s
