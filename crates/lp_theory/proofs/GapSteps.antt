-- The gaps of a program where one column moves, goes or comes back. A column that does any of this has none.
use Rattle.std.proofs.Common.{◌≡◌, ◌≢◌, ℕ, ◌<◌, sym, subst, Option, None}
use Rattle.fractions.specs.Number.{Number}
use Rattle.fractions.specs.Total.{put}
use Rattle.fractions.proofs.Totals.{put-same, put-other, at_or_off}
use Rattle.lp_model.specs.Gaps.{Gap, Clears}
use Rattle.lp_model.specs.Vectors.{Vector}
use Rattle.lp_model.specs.LinearProgram.{LinearProgram}

-- where there is no gap nothing is asked
pub solid : (g : Option Gap) (x : Number) → g ≡ None → Clears g x
solid g x e = subst (λ o. Clears o x) (sym e) tt

-- each number is 0 or between its column's ends
abbrev pub AllClear : LinearProgram → Vector → Type 0
AllClear M x = (k : ℕ) → k < M.columns → Clears (M.gap k) (x k)

module _ (M : LinearProgram) (j : ℕ) where
  -- x_j becomes b
  pub gaps_moved : (x : Vector) (b : Number) → M.gap j ≡ None → AllClear M x → AllClear M (put x j b)
  gaps_moved x b e h = at_or_off (λ k. k < M.columns → Clears (M.gap k) (put x j b k)) j
      (λ l. solid (M.gap j) (put x j b j) e)
      (λ k n l. subst (Clears (M.gap k)) (sym (put-other x j b k n)) (h k l))

  -- column j goes
  pub gaps_off : (x : Vector) → AllClear M x → (k : ℕ) → k < M.columns → Clears (put M.gap j None k) (x k)
  gaps_off x h = at_or_off (λ k. k < M.columns → Clears (put M.gap j None k) (x k)) j
      (λ l. solid (put M.gap j None j) (x j) (put-same M.gap j None))
      (λ k n l. subst (λ o. Clears o (x k)) (sym (put-other M.gap j None k n)) (h k l))

  -- and comes back
  pub gaps_back : (x : Vector) → M.gap j ≡ None → ((k : ℕ) → k < M.columns → Clears (put M.gap j None k) (x k)) → AllClear M x
  gaps_back x e h = at_or_off (λ k. k < M.columns → Clears (M.gap k) (x k)) j
      (λ l. solid (M.gap j) (x j) e)
      (λ k n l. subst (λ o. Clears o (x k)) (put-other M.gap j None k n) (h k l))
