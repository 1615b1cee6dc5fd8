-- The sum of a column by its steps.
use Rattle.std.proofs.Common.{◌≡◌, ◌↔◌, ℕ, List, length, sym, ap, ap₂, ◌∙◌, subst}
use Rattle.fractions.specs.Number.{Number, zero_ℚ, neg_ℚ, ◌+ℚ◌, ◌-ℚ◌}
use Rattle.fractions.specs.FracWords.{SumFits}
use Rattle.lp_model.specs.declared.terms.Term.{Term}
use Rattle.lp_model.specs.ProgramData.{ProgramData}
use Rattle.lp_model.specs.Meaning.{meaning, column_at}
use Rattle.lp_model.specs.Sparse.{Ascends}
use Rattle.lp_rays.specs.Nets.{net_of, NetFits}
use Rattle.lp_rays.proofs.Netting.{net_is}
use Rattle.lp_rays.specs.Ray.{Weights, net_at}
use Rattle.ray_check.specs.Room.{ColumnFits, rows_net}

-- what was read and summed so far of column j
pub record Summed (d : ProgramData) (w : Weights) (j : ℕ) (es : List Term) (sum : Number) : Type 0 where
  pub entries : es ≡ (column_at d j).entries
  pub value : sum ≡ rows_net (meaning d) w j

pub summed : (d : ProgramData) (w : Weights) (j : ℕ) (es : List Term) (sum : Number) → es ≡ (column_at d j).entries → Ascends 0 (length d.rows) (column_at d j).entries → sum ≡ net_of es w → Summed d w j es sum
summed d w j es sum ee ascends is = record {
  entries = ee;
  value = is ∙ ap (λ ts. net_of ts w) ee ∙ net_is (length d.rows) (column_at d j).entries w ascends;
}

pub sum_is : (d : ProgramData) (w : Weights) (j : ℕ) (es : List Term) (sum x two y : Number) → Summed d w j es sum → x ≡ w.p j → two ≡ sum +ℚ x → y ≡ w.q j → two -ℚ y ≡ net_at (meaning d) w j
sum_is d w j es sum x two y h ex e ey = ap₂ ◌-ℚ◌ (e ∙ ap₂ ◌+ℚ◌ h.value ex) ey

pub sum_fits : (d : ProgramData) (w : Weights) (j : ℕ) (es : List Term) (sum x two y : Number) (Z : Type 0) → Summed d w j es sum → x ≡ w.p j → two ≡ sum +ℚ x → y ≡ w.q j
    → NetFits zero_ℚ es w → SumFits sum x → (Z ↔ SumFits two (neg_ℚ y)) → (Z ↔ ColumnFits d w j)
sum_fits d w j es sum x two y Z h ex e ey entries lower upper =
    let there : two ≡ rows_net (meaning d) w j +ℚ w.p j = e ∙ ap₂ ◌+ℚ◌ h.value ex in (
      λ z. record {
        entries = subst (λ ts. NetFits zero_ℚ ts w) h.entries entries;
        lower = subst (λ q. SumFits q (w.p j)) h.value (subst (λ q. SumFits sum q) ex lower);
        upper = subst (λ q. SumFits q (neg_ℚ (w.q j))) there (subst (λ q. SumFits two (neg_ℚ q)) ey (upper.0 z));
      },
      λ f. upper.1 (subst (λ q. SumFits q (neg_ℚ y)) (sym there) (subst (λ q. SumFits (rows_net (meaning d) w j +ℚ w.p j) (neg_ℚ q)) (sym ey) f.upper)),
    )

pub lower_past : (d : ProgramData) (w : Weights) (j : ℕ) (es : List Term) (sum x : Number) → Summed d w j es sum → x ≡ w.p j → (SumFits sum x → ⊥) → ColumnFits d w j → ⊥
lower_past d w j es sum x h ex none f = none (subst (λ q. SumFits q x) (sym h.value) (subst (λ q. SumFits (rows_net (meaning d) w j) q) (sym ex) f.lower))
