-- Reduced costs, listed.
use Rattle.std.proofs.Common.{◌≡◌, ◌⊎◌, inl, inr, ℕ, zero, suc, ◌+◌, ◌<◌, ◌≤◌, [], ◌∷◌, ◌++◌, length, refl, ap, ◌∙◌, arith}
use Rattle.std.proofs.lemmas.Bool.{cases_lt}
use Rattle.std.proofs.lemmas.List.{get_or_append_left, length-append}
use Rattle.std.proofs.Math.Seq.{get_or-append_seam}
use Rattle.fractions.specs.Number.{zero_ℚ}
use Rattle.lp_model.specs.Vectors.{Vector, vector_of}
use Rattle.lp_model.specs.LinearProgram.{LinearProgram}
use Rattle.lp_model.specs.Optimality.{reduced_cost}
use Rattle.lp_model.specs.Reductions.{IsPriced}
use Rattle.undo_pairs.specs.Numbers.{reduced_costs_of}

pub size : (M : LinearProgram) (y : Vector) (n : ℕ) → length (reduced_costs_of M y n) ≡ n
size M y zero = refl
size M y (suc n) =
    let one : length (reduced_costs_of M y n ++ reduced_cost M y n ∷ []) ≡ length (reduced_costs_of M y n) + 1 = length-append (reduced_costs_of M y n) (reduced_cost M y n ∷ []) in
    let before = size M y n in
    omega (arith, one, before)

each : (M : LinearProgram) (y : Vector) (n j : ℕ) → j < n → vector_of (reduced_costs_of M y n) j ≡ reduced_cost M y j
each M y zero j l = absurd (omega (arith, l))
each M y (suc n) j l = by (each M y n j) (cases_lt j n)
  where
    by : (j < n → vector_of (reduced_costs_of M y n) j ≡ reduced_cost M y j) → (j < n) ⊎ (n ≤ j) → vector_of (reduced_costs_of M y n ++ reduced_cost M y n ∷ []) j ≡ reduced_cost M y j
    by ih (inl k) = get_or_append_left (reduced_costs_of M y n) (reduced_cost M y n ∷ []) zero_ℚ j (let s = size M y n in omega (arith, k, s)) ∙ ih k
    by ih (inr k) =
        let s = size M y n in
        let at : j ≡ length (reduced_costs_of M y n) = omega (arith, k, l, s) in
        let own : n ≡ j = omega (arith, k, l) in
        ap (vector_of (reduced_costs_of M y n ++ reduced_cost M y n ∷ [])) at
        ∙ get_or-append_seam (reduced_costs_of M y n) (reduced_cost M y n) [] zero_ℚ
        ∙ ap (reduced_cost M y) own

pub priced : (M : LinearProgram) (x y : Vector) → IsPriced M (record { x = x; y = y; z = vector_of (reduced_costs_of M y M.columns) })
priced M x y j l = each M y M.columns j l

pub ruleset priced_laws = (size, priced)
