-- The bounds that are left at a cursor, as it moves on.
use Rattle.std.proofs.Common.{◌≡◌, ℕ, zero, suc, ◌+◌, ◌<◌, ◌≤◌, List, [], ◌∷◌, ◌++◌, length, drop, refl, ap, ◌∙◌, arith}
use Rattle.problem_model.specs.declared.line.Sides.{Sides}
use Rattle.row_spans.specs.declared.span.Span.{Span}
use Rattle.row_spans.specs.Spans.{span_at}
use Rattle.activity_rules.specs.Tightened.{found_among, found_at}

-- none is left behind the last entry
pub none_left : (b : Sides) (ss ts : List Span) (k : ℕ) → length ts ≤ k → found_among b ss (drop k ts) ≡ []
none_left b ss [] zero l = refl
none_left b ss [] (suc k) l = refl
none_left b ss (t ∷ ts) zero l = absurd (omega (arith, l))
none_left b ss (t ∷ ts) (suc k) l = none_left b ss ts k (omega (arith, l))

-- those at an entry come before those at the entries behind it
behind : (b : Sides) (ss ts : List Span) (k : ℕ) → k < length ts → found_among b ss (drop k ts) ≡ found_at b ss (span_at ts k) ++ found_among b ss (drop (suc k) ts)
behind b ss [] k l = absurd (omega (arith, l))
behind b ss (t ∷ ts) zero l = refl
behind b ss (t ∷ ts) (suc k) l = behind b ss ts k (omega (arith, l))

pub first_left : (b : Sides) (ss ts : List Span) (k : ℕ) → k < length ts → found_among b ss (drop k ts) ≡ found_at b ss (span_at ts k) ++ found_among b ss (drop (k + 1) ts)
first_left b ss ts k l = let one : suc k ≡ k + 1 = omega arith in behind b ss ts k l ∙ ap (λ n. found_at b ss (span_at ts k) ++ found_among b ss (drop n ts)) one
