-- As many numbers, the same by id, are the same.
use Rattle.std.proofs.Common.{◌≡◌, zero, suc, List, [], ◌∷◌, length, refl, ap, ap₂, arith}
use Rattle.fractions.specs.Number.{Number}
use Rattle.lp_model.specs.Vectors.{Vector, vector_of}

pub numbers_same : (xs ys : List Number) → length xs ≡ length ys → vector_of xs ≡ vector_of ys → xs ≡ ys
numbers_same [] [] e h = refl
numbers_same [] (y ∷ ys) e h = absurd (omega (arith, e))
numbers_same (x ∷ xs) [] e h = absurd (omega (arith, e))
numbers_same (x ∷ xs) (y ∷ ys) e h =
    let rest : Vector → Vector = λ v k. v (suc k) in
    ap₂ (λ (z : Number) (zs : List Number). z ∷ zs) (ap (λ (v : Vector). v zero) h) (numbers_same xs ys (omega (arith, e)) (ap rest h))
