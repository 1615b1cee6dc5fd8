-- The net of a column's rows over a list of its entries, and when the numbers on the way to it have room.
use Rattle.std.specs.Prelude.{List, [], ◌∷◌, ⊤}
use Rattle.fractions.specs.Number.{Number, neg_ℚ, ◌+ℚ◌, ◌-ℚ◌, ◌*ℚ◌}
use Rattle.fractions.specs.Lowest.{Fits}
use Rattle.fractions.specs.FracWords.{SumFits}
use Rattle.lp_model.specs.declared.terms.Term.{Term}
use Rattle.lp_model.specs.Sparse.{sparse_total}
use Rattle.lp_rays.specs.Ray.{Weights}

-- the sum of (s_m - t_m) a_m over the terms
abbrev pub net_of : List Term → Weights → Number
net_of ts w = sparse_total ts (λ m. w.s m -ℚ w.t m)

-- (s_m - t_m) a_m, and r plus it: the difference, the product and the sum
abbrev pub net_term : Weights → Term → Number
net_term w e = (w.s e.id -ℚ w.t e.id) *ℚ e.value

abbrev pub TermFits : Number → Term → Weights → Type 0
TermFits r e w = SumFits (w.s e.id) (neg_ℚ (w.t e.id)) × Fits (net_term w e) × SumFits r (net_term w e)

-- r plus those of all terms
abbrev pub NetFits : Number → List Term → Weights → Type 0
NetFits r [] w = ⊤
NetFits r (e ∷ es) w = TermFits r e w × NetFits (r +ℚ net_term w e) es w
