-- There is one verdict on a ray.
use Rattle.std.proofs.Common.{◌≡◌, ◌⊎◌, inl, inr, ℕ, ◌<◌, ◌≤◌, length, refl, sym, ap, ◌∙◌, subst, arith}
use Rattle.std.proofs.lemmas.Bool.{cases_lt}
use Rattle.fractions.specs.Number.{Number, zero_ℚ}
use Rattle.fractions.specs.Order.{◌≤ℚ◌, <ℚ-not}
use Rattle.lp_model.specs.Meaning.{meaning}
use Rattle.lp_model.specs.ProgramData.{ProgramData}
use Rattle.lp_rays.specs.Ray.{Weights, Ray}
use Rattle.ray_check.specs.declared.verdict.RayChecked.{RayChecked}
use Rattle.ray_check.specs.declared.verdict.RayChecked.TheVariants.{Yes, NoRow, NoColumn, NoTotal, PastColumn, PastTotal}
use Rattle.ray_check.specs.Deciding.{ColumnPasses, RowsPass, ColumnsPass, DecidesRay}

pub yes_is_ray : (d : ProgramData) (w : Weights) → DecidesRay d w Yes → Ray (meaning d) w
yes_is_ray d w h = record {
  weighting = record {
    rows = h.0.0;
    columns = λ j l. (h.0.1 j l).0;
    nets = λ j l. (h.0.1 j l).2;
  };
  positive = h.2;
}

by_order : (P : Type 0) (j k : ℕ) → (j < k → P) → (k < j → P) → (j ≡ k → P) → P
by_order P j k f g h = by (cases_lt j k) (cases_lt k j)
  where
    by : (j < k) ⊎ (k ≤ j) → (k < j) ⊎ (j ≤ k) → P
    by (inl l) other = f l
    by (inr m) (inl l) = g l
    by (inr m) (inr n) = h (omega (arith, m, n))

-- the verdict is on no row, and it is on neither a row nor a column
abbrev IsLater : RayChecked → Type 0
IsLater Yes = Unit {0}
IsLater (NoRow i) = ⊥
IsLater (NoColumn j) = Unit {0}
IsLater (NoTotal t) = Unit {0}
IsLater (PastColumn j) = Unit {0}
IsLater PastTotal = Unit {0}

abbrev IsLast : RayChecked → Type 0
IsLast Yes = Unit {0}
IsLast (NoRow i) = ⊥
IsLast (NoColumn j) = ⊥
IsLast (NoTotal t) = Unit {0}
IsLast (PastColumn j) = ⊥
IsLast PastTotal = Unit {0}

module _ (d : ProgramData) (w : Weights) where
  rows_passed : (v : RayChecked) → IsLater v → DecidesRay d w v → RowsPass d w (length d.rows)
  rows_passed Yes l h = h.0.0
  rows_passed (NoRow i) l h = absurd l
  rows_passed (NoColumn j) l h = h.0.0
  rows_passed (NoTotal t) l h = h.0.0
  rows_passed (PastColumn j) l h = h.0.0
  rows_passed PastTotal l h = h.0.0

  columns_passed : (v : RayChecked) → IsLast v → DecidesRay d w v → ColumnsPass d w (length d.columns)
  columns_passed Yes l h = h.0.1
  columns_passed (NoRow i) l h = absurd l
  columns_passed (NoColumn j) l h = absurd l
  columns_passed (NoTotal t) l h = h.0.1
  columns_passed (PastColumn j) l h = absurd l
  columns_passed PastTotal l h = h.0.1

  -- what decides does not pass
  row_not : (i : ℕ) → DecidesRay d w (NoRow i) → (v : RayChecked) → IsLater v → DecidesRay d w v → ⊥
  row_not i h v l k = h.2 (rows_passed v l k i h.1)

  column_fails : (j : ℕ) → DecidesRay d w (NoColumn j) → ColumnPasses d w j → ⊥
  column_fails j h k = elim h.2 [ inl not_held ↦ not_held k.0 | inr (held, fits, unbalanced) ↦ unbalanced k.2 ]

  column_past : (j : ℕ) → DecidesRay d w (PastColumn j) → ColumnPasses d w j → ⊥
  column_past j h k = h.3 k.1

  column_not : (j : ℕ) → DecidesRay d w (NoColumn j) → (v : RayChecked) → IsLast v → DecidesRay d w v → ⊥
  column_not j h v l k = column_fails j h (columns_passed v l k j h.1)

  past_not : (j : ℕ) → DecidesRay d w (PastColumn j) → (v : RayChecked) → IsLast v → DecidesRay d w v → ⊥
  past_not j h v l k = column_past j h (columns_passed v l k j h.1)

  row_row : (i k : ℕ) → DecidesRay d w (NoRow i) → DecidesRay d w (NoRow k) → NoRow i ≡ NoRow k
  row_row i k h g = by_order (NoRow i ≡ NoRow k) i k (λ l. absurd (h.2 (g.0 i l))) (λ l. absurd (g.2 (h.0 k l))) (λ same. ap (λ (m : ℕ). NoRow m) same)

  column_column : (j k : ℕ) → DecidesRay d w (NoColumn j) → DecidesRay d w (NoColumn k) → NoColumn j ≡ NoColumn k
  column_column j k h g = by_order (NoColumn j ≡ NoColumn k) j k (λ l. absurd (column_fails j h (g.0.1 j l))) (λ l. absurd (column_fails k g (h.0.1 k l))) (λ same. ap (λ (m : ℕ). NoColumn m) same)

  past_past : (j k : ℕ) → DecidesRay d w (PastColumn j) → DecidesRay d w (PastColumn k) → PastColumn j ≡ PastColumn k
  past_past j k h g = by_order (PastColumn j ≡ PastColumn k) j k (λ l. absurd (column_past j h (g.0.1 j l))) (λ l. absurd (column_past k g (h.0.1 k l))) (λ same. ap (λ (m : ℕ). PastColumn m) same)

  at_one : (j : ℕ) → DecidesRay d w (NoColumn j) → DecidesRay d w (PastColumn j) → ⊥
  at_one j h g = elim h.2 [ inl not_held ↦ not_held g.2 | inr (held, fits, unbalanced) ↦ g.3 fits ]

  column_and_past : (j k : ℕ) → DecidesRay d w (NoColumn j) → DecidesRay d w (PastColumn k) → ⊥
  column_and_past j k h g = by_order ⊥ j k (λ l. column_fails j h (g.0.1 j l)) (λ l. column_past k g (h.0.1 k l)) (λ same. at_one k (subst (λ (m : ℕ). DecidesRay d w (NoColumn m)) same h) g)

  yes_no : (t : Number) → DecidesRay d w Yes → DecidesRay d w (NoTotal t) → ⊥
  yes_no t h g = <ℚ-not h.2 (subst (λ q. q ≤ℚ zero_ℚ) g.2 g.3)

  pub verdict_same : (one other : RayChecked) → DecidesRay d w one → DecidesRay d w other → one ≡ other
  verdict_same (NoRow i) (NoRow k) h g = row_row i k h g
  verdict_same (NoRow i) Yes h g = absurd (row_not i h Yes tt g)
  verdict_same (NoRow i) (NoColumn j) h g = absurd (row_not i h (NoColumn j) tt g)
  verdict_same (NoRow i) (NoTotal t) h g = absurd (row_not i h (NoTotal t) tt g)
  verdict_same (NoRow i) (PastColumn j) h g = absurd (row_not i h (PastColumn j) tt g)
  verdict_same (NoRow i) PastTotal h g = absurd (row_not i h PastTotal tt g)
  verdict_same (NoColumn j) (NoColumn k) h g = column_column j k h g
  verdict_same (NoColumn j) (NoRow i) h g = absurd (row_not i g (NoColumn j) tt h)
  verdict_same (NoColumn j) (PastColumn k) h g = absurd (column_and_past j k h g)
  verdict_same (NoColumn j) Yes h g = absurd (column_not j h Yes tt g)
  verdict_same (NoColumn j) (NoTotal t) h g = absurd (column_not j h (NoTotal t) tt g)
  verdict_same (NoColumn j) PastTotal h g = absurd (column_not j h PastTotal tt g)
  verdict_same (PastColumn j) (PastColumn k) h g = past_past j k h g
  verdict_same (PastColumn j) (NoRow i) h g = absurd (row_not i g (PastColumn j) tt h)
  verdict_same (PastColumn j) (NoColumn k) h g = absurd (column_and_past k j g h)
  verdict_same (PastColumn j) Yes h g = absurd (past_not j h Yes tt g)
  verdict_same (PastColumn j) (NoTotal t) h g = absurd (past_not j h (NoTotal t) tt g)
  verdict_same (PastColumn j) PastTotal h g = absurd (past_not j h PastTotal tt g)
  verdict_same Yes (NoRow i) h g = absurd (row_not i g Yes tt h)
  verdict_same Yes (NoColumn j) h g = absurd (column_not j g Yes tt h)
  verdict_same Yes (PastColumn j) h g = absurd (past_not j g Yes tt h)
  verdict_same Yes Yes h g = refl
  verdict_same Yes (NoTotal t) h g = absurd (yes_no t h g)
  verdict_same Yes PastTotal h g = absurd (g.1 h.1)
  verdict_same (NoTotal t) (NoRow i) h g = absurd (row_not i g (NoTotal t) tt h)
  verdict_same (NoTotal t) (NoColumn j) h g = absurd (column_not j g (NoTotal t) tt h)
  verdict_same (NoTotal t) (PastColumn j) h g = absurd (past_not j g (NoTotal t) tt h)
  verdict_same (NoTotal t) Yes h g = absurd (yes_no t g h)
  verdict_same (NoTotal t) (NoTotal u) h g = ap (λ (q : Number). NoTotal q) (h.2 ∙ sym g.2)
  verdict_same (NoTotal t) PastTotal h g = absurd (g.1 h.1)
  verdict_same PastTotal (NoRow i) h g = absurd (row_not i g PastTotal tt h)
  verdict_same PastTotal (NoColumn j) h g = absurd (column_not j g PastTotal tt h)
  verdict_same PastTotal (PastColumn j) h g = absurd (past_not j g PastTotal tt h)
  verdict_same PastTotal Yes h g = absurd (h.1 g.1)
  verdict_same PastTotal (NoTotal t) h g = absurd (h.1 g.1)
  verdict_same PastTotal PastTotal h g = refl
