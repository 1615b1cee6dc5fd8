-- Verdicts go back along reductions.
use Rattle.std.proofs.Common.{sym, refl, [], ◌∷◌, subst}
use Rattle.fractions.specs.Ring.{ring, v, ◌:+◌, ◌:-◌}
use Rattle.fractions.specs.Number.{Number, rational, ◌+ℚ◌, ◌-ℚ◌}
use Rattle.fractions.specs.Order.{≤ℚ-by, <ℚ-not}
use Rattle.lp_model.specs.declared.program.Sense.{Sense}
use Rattle.lp_model.specs.declared.program.Sense.TheVariants.{Min, Max}
use Rattle.lp_model.specs.Vectors.{Vector}
use Rattle.lp_model.specs.LinearProgram.{LinearProgram, cost_at}
use Rattle.lp_model.specs.Senses.{Better}
use Rattle.lp_model.specs.Reductions.{Reduces}
use Rattle.lp_model.specs.Verdicts.{NoPoint, Endless, NoPointOrEndless}
use Rattle.lp_theory.proofs.Pairs.{below_if_not}

pub no_point_back : (s : Sense) (M R : LinearProgram) (f : Vector → Vector) (k : Number) → Reduces s M R f k → NoPoint R → NoPoint M
no_point_back s M R f k r n w h = let p = r.keeps w h in n p.0 p.1

-- better by as much
better_more : (s : Sense) (a b k : Number) → Better s a (b -ℚ k) → Better s (a +ℚ k) b
better_more Min a b k h = below_if_not (λ q. <ℚ-not h (≤ℚ-by b (a +ℚ k) (b -ℚ k) a (ring rational (a ∷ b ∷ k ∷ []) (v 0 :+ v 2 :- v 1) (v 0 :- (v 1 :- v 2)) refl) q))
better_more Max a b k h = below_if_not (λ q. <ℚ-not h (≤ℚ-by (a +ℚ k) b a (b -ℚ k) (ring rational (a ∷ b ∷ k ∷ []) (v 1 :- (v 0 :+ v 2)) (v 1 :- v 2 :- v 0) refl) q))

pub endless_back : (s : Sense) (M R : LinearProgram) (f : Vector → Vector) (k : Number) → Reduces s M R f k → Endless s R → Endless s M
endless_back s M R f k r e K = let p = e (K -ℚ k) in
    (f p.0, r.lifts p.0 p.1, subst (λ c. Better s c K) (sym (r.costs p.0 p.1)) (better_more s (cost_at R p.0) K k p.2))

pub no_point_or_endless_back : (s : Sense) (M R : LinearProgram) (f : Vector → Vector) (k : Number) → Reduces s M R f k → NoPointOrEndless s R → NoPointOrEndless s M
no_point_or_endless_back s M R f k r e w h = let p = r.keeps w h in endless_back s M R f k r (e p.0 p.1)
