-- One more line of a written text.
use Rattle.std.proofs.Common.{◌≡◌, ℕ, ◌+◌, ◌<◌, List, [], ◌∷◌, ◌++◌, length, get_or, drop, cond, refl, sym, ap, ap₂, ◌∙◌, arith, add-one, append_assoc}
use Rattle.std.proofs.Math.Seq.{drop-cons}
use Rattle.fractions.specs.Number.{Number}
use Rattle.mps_profile.specs.Texts.{Text}
use Rattle.ray_text.specs.RayText.{are_zero, weight_line, weight_lines}

abbrev line_or_none : Text → Text → Number → Number → List ℕ
line_or_none word name x y = cond (are_zero x y) [] (weight_line word name x y)

weights_at : (word : Text) (names others : List Text) (lower lowers upper uppers : List Number) (name : Text) (x y : Number) → names ≡ name ∷ others → lower ≡ x ∷ lowers → upper ≡ y ∷ uppers
    → weight_lines word names lower upper ≡ line_or_none word name x y ++ weight_lines word others lowers uppers
weights_at word names others lower lowers upper uppers name x y en el eu = rw (en, el, eu) refl

next_of : {X : Type 0} (xs : List X) (i : ℕ) (x d : X) → i < length xs → x ≡ get_or xs i d → drop i xs ≡ x ∷ drop (i + 1) xs
next_of xs i x d l is = drop-cons xs i d l ∙ ap₂ (λ y ys. y ∷ ys) (sym is) (ap (λ k. drop k xs) (sym (add-one i)))

pub one_more : (word : Text) (names : List Text) (lower upper : List Number) (i : ℕ) (before after out : List ℕ) (name : Text) (x y : Number) → i < length names → length lower ≡ length names → length upper ≡ length names
    → name ≡ get_or names i [] → x ≡ get_or lower i x → y ≡ get_or upper i y → after ≡ before ++ line_or_none word name x y
    → before ++ weight_lines word (drop i names) (drop i lower) (drop i upper) ≡ out → after ++ weight_lines word (drop (i + 1) names) (drop (i + 1) lower) (drop (i + 1) upper) ≡ out
one_more word names lower upper i before after out name x y l el eu is ix iy ia so_far =
    ap (λ (bs : List ℕ). bs ++ weight_lines word (drop (i + 1) names) (drop (i + 1) lower) (drop (i + 1) upper)) ia
    ∙ append_assoc before (line_or_none word name x y) (weight_lines word (drop (i + 1) names) (drop (i + 1) lower) (drop (i + 1) upper))
    ∙ ap (λ (bs : List ℕ). before ++ bs) (sym (weights_at word (drop i names) (drop (i + 1) names) (drop i lower) (drop (i + 1) lower) (drop i upper) (drop (i + 1) upper) name x y
    (next_of names i name [] l is) (next_of lower i x x (omega (arith, l, el)) ix) (next_of upper i y y (omega (arith, l, eu)) iy)))
    ∙ so_far
