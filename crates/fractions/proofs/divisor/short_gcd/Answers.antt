use Rattle.std.proofs.Common.{◌≡◌, ◌<◌, ◌^◌, ◌%◌, ◌*◌, ℕ, ap, ap₂, ◌∙◌, sym, arith, lt_of_le_of_lt}
use Rattle.std.specs.Int.Count.{count_trailing_zeros}
use native.Mathlib.Nat.{mod-eq_of_lt}
use Rattle.fractions.specs.Gcd.{gcd}
use Rattle.fractions.proofs.GcdSteps.{OddPart, odd_part, part_is, twos_of_both, gcd_comm, gcd_zero, gcd-≤}
use Rattle.fractions.proofs.divisor.short_gcd.Goals as goal

pub returns-then-a-eq0 : goal.returns-then-a-eq0
returns-then-a-eq0 c =
    let z : c.args.a ≡ 0 = omega arith in
    sym (ap (λ (n : ℕ). gcd n c.args.b) z ∙ gcd_comm 0 c.args.b ∙ gcd_zero c.args.b)

pub odd_gcd-requires-clause-left : goal.odd_gcd-requires-clause-left
odd_gcd-requires-clause-left c =
    let o : OddPart c.args.a (count_trailing_zeros 64 c.args.a) = odd_part 64 c.args.a (omega arith) (omega arith) in
    ap (λ (n : ℕ). n % 2) (part_is _ _ o) ∙ o.odd

pub odd_gcd-requires-clause-right : goal.odd_gcd-requires-clause-right
odd_gcd-requires-clause-right c =
    let o : OddPart c.args.b (count_trailing_zeros 64 c.args.b) = odd_part 64 c.args.b (omega arith) (omega arith) in
    ap (λ (n : ℕ). n % 2) (part_is _ _ o) ∙ o.odd

pub returns : goal.returns
returns c =
    let o : OddPart c.args.a (count_trailing_zeros 64 c.args.a) = odd_part 64 c.args.a (omega arith) (omega arith) in
    let p : OddPart c.args.b (count_trailing_zeros 64 c.args.b) = odd_part 64 c.args.b (omega arith) (omega arith) in
    let e : c.odd_gcd.result * 2 ^ c.min.result ≡ gcd c.args.a c.args.b =
    ap₂ (λ (n k : ℕ). n * 2 ^ k) (c.odd_gcd.ensures ∙ ap₂ gcd (part_is _ _ o) (part_is _ _ p)) c.min.ensures ∙ twos_of_both _ _ _ _ o p in
    let small : gcd c.args.a c.args.b < 2 ^ 64 = lt_of_le_of_lt (gcd-≤ c.args.a c.args.b c.requires) (omega arith) in
    ap (λ (n : ℕ). n % 2 ^ 64) e ∙ mod-eq_of_lt small
