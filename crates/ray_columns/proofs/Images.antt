-- Weights of the image of bounds by an equation, as weights of the bounds.
use Rattle.std.proofs.Common.{◌≡◌, pos, sym, refl, ap, ap₂, ◌∙◌, [], ◌∷◌, Option, Some, None, Bool, true, false}
use Rattle.std.specs.Prelude.{if◌then◌else◌}
use Rattle.fractions.specs.Ring.{ring, v, num, ◌:+◌, ◌:-◌, ◌:*◌, inv}
use Rattle.fractions.specs.Number.{Number, rational, zero_ℚ, ◌+ℚ◌, ◌-ℚ◌, ◌*ℚ◌, neg_ℚ}
use Rattle.fractions.specs.Order.{◌≤ℚ◌, <ℚ-≤ℚ}
use Rattle.fractions.specs.Compare.{lt_ℚ}
use Rattle.fractions.specs.Inverse.{inv_ℚ}
use Rattle.fractions.specs.Division.{◌/ℚ◌}
use Rattle.fractions.specs.Signs.{*ℚ_pos}
use Rattle.lp_theory.proofs.ActivityLaws.{lt_true, lt_false}
use Rattle.lp_substitutions.specs.DoubletonEquation.{image, image_lower, image_upper}
use Rattle.lp_rays.specs.Ray.{IsWeight, worth}
use Rattle.lp_rays.specs.Handing.{image_low_part, image_high_part}
use Rattle.lp_rays.proofs.Handing.{Parted, negative_pos'}

image_weight : (o : Option Number) (a b r f w : Number) → zero_ℚ ≤ℚ f → IsWeight (image a b r o) w → IsWeight o (w *ℚ f)
image_weight None a b r f w h k = ap (λ c. c *ℚ f) k ∙ ring rational (f ∷ []) (num (pos 0) :* v 0) (num (pos 0)) refl
image_weight (Some c) a b r f w h k = *ℚ_pos k h

image_worth : (o : Option Number) (a b r w : Number) → IsWeight (image a b r o) w → worth (image a b r o) w ≡ w *ℚ (r /ℚ b) -ℚ worth o (w *ℚ (a /ℚ b))
image_worth None a b r w k = ring rational ((r /ℚ b) ∷ []) (num (pos 0)) (num (pos 0) :* v 0 :- num (pos 0)) refl ∙ ap (λ c. c *ℚ (r /ℚ b) -ℚ zero_ℚ) (sym k)
image_worth (Some c) a b r w k = ring rational (w ∷ a ∷ inv_ℚ b ∷ r ∷ c ∷ []) (v 0 :* ((v 3 :- v 1 :* v 4) :* v 2)) (v 0 :* (v 3 :* v 2) :- v 0 :* (v 1 :* v 2) :* v 4) refl

image_worth' : (o : Option Number) (a b r w : Number) → IsWeight (image a b r o) w → worth (image a b r o) w ≡ w *ℚ (r /ℚ b) +ℚ worth o (w *ℚ neg_ℚ (a /ℚ b))
image_worth' None a b r w k = ring rational ((r /ℚ b) ∷ []) (num (pos 0)) (num (pos 0) :* v 0 :+ num (pos 0)) refl ∙ ap (λ c. c *ℚ (r /ℚ b) +ℚ zero_ℚ) (sym k)
image_worth' (Some c) a b r w k = ring rational (w ∷ a ∷ inv_ℚ b ∷ r ∷ c ∷ []) (v 0 :* ((v 3 :- v 1 :* v 4) :* v 2)) (v 0 :* (v 3 :* v 2) :+ v 0 :* inv (v 1 :* v 2) :* v 4) refl

pub imaged : (a b r : Number) (l u : Option Number) (p q : Number) → IsWeight (image_lower a b r l u) p → IsWeight (image_upper a b r l u) q
    → Parted l u (neg_ℚ (a /ℚ b) *ℚ (p -ℚ q)) (image_low_part (a /ℚ b) p q) (image_high_part (a /ℚ b) p q) ((worth (image_lower a b r l u) p -ℚ worth (image_upper a b r l u) q) -ℚ (p -ℚ q) *ℚ (r /ℚ b))
imaged a b r l u p q = by (lt_ℚ zero_ℚ (a /ℚ b)) refl
  where
    by : (t : Bool) → lt_ℚ zero_ℚ (a /ℚ b) ≡ t → IsWeight (if t then image a b r u else image a b r l) p → IsWeight (if t then image a b r l else image a b r u) q
        → Parted l u (neg_ℚ (a /ℚ b) *ℚ (p -ℚ q)) (if t then q *ℚ (a /ℚ b) else p *ℚ neg_ℚ (a /ℚ b)) (if t then p *ℚ (a /ℚ b) else q *ℚ neg_ℚ (a /ℚ b))
        ((worth (if t then image a b r u else image a b r l) p -ℚ worth (if t then image a b r l else image a b r u) q) -ℚ (p -ℚ q) *ℚ (r /ℚ b))
    by true e h k = let g = <ℚ-≤ℚ (lt_true _ _ e) in record {
      low = image_weight l a b r (a /ℚ b) q g k;
      high = image_weight u a b r (a /ℚ b) p g h;
      net = ring rational ((a /ℚ b) ∷ p ∷ q ∷ []) (v 2 :* v 0 :- v 1 :* v 0) (inv (v 0) :* (v 1 :- v 2)) refl;
      worths = ring rational (worth l (q *ℚ (a /ℚ b)) ∷ worth u (p *ℚ (a /ℚ b)) ∷ p ∷ q ∷ (r /ℚ b) ∷ []) (v 0 :- v 1) (((v 2 :* v 4 :- v 1) :- (v 3 :* v 4 :- v 0)) :- (v 2 :- v 3) :* v 4) refl
          ∙ ap₂ (λ x y. (x -ℚ y) -ℚ (p -ℚ q) *ℚ (r /ℚ b)) (sym (image_worth u a b r p h)) (sym (image_worth l a b r q k));
    }
    by false e h k = let g = negative_pos' _ (lt_false _ _ e) in record {
      low = image_weight l a b r (neg_ℚ (a /ℚ b)) p g h;
      high = image_weight u a b r (neg_ℚ (a /ℚ b)) q g k;
      net = ring rational ((a /ℚ b) ∷ p ∷ q ∷ []) (v 1 :* inv (v 0) :- v 2 :* inv (v 0)) (inv (v 0) :* (v 1 :- v 2)) refl;
      worths = ring rational (worth l (p *ℚ neg_ℚ (a /ℚ b)) ∷ worth u (q *ℚ neg_ℚ (a /ℚ b)) ∷ p ∷ q ∷ (r /ℚ b) ∷ []) (v 0 :- v 1) (((v 2 :* v 4 :+ v 0) :- (v 3 :* v 4 :+ v 1)) :- (v 2 :- v 3) :* v 4) refl
          ∙ ap₂ (λ x y. (x -ℚ y) -ℚ (p -ℚ q) *ℚ (r /ℚ b)) (sym (image_worth' l a b r p h)) (sym (image_worth' u a b r q k));
    }
