-- When the limits of an entering variable have room.
use Rattle.std.specs.Prelude.{◌≡◌, ◌≢◌, ⊤, ℕ, ◌<◌, Option, Some, None}
use Rattle.fractions.specs.Number.{Number, ◌*ℚ◌, neg_ℚ}
use Rattle.fractions.specs.Ends.{less}
use Rattle.fractions.specs.FracWords.{SumFits}
use Rattle.fractions.specs.EndWords.{LessFits, OverFits}
use Rattle.lp_model.specs.LinearProgram.{LinearProgram}
use Rattle.tableau_laws.specs.Variables.{lower_end, upper_end}
use Rattle.tableau_laws.specs.Tableaus.{Tableau}
use Rattle.simplex_laws.specs.Choices.{end_ahead}

abbrev pub WidthFits : Option Number → Option Number → Type 0
WidthFits None u = ⊤
WidthFits (Some l) None = ⊤
WidthFits (Some l) (Some u) = SumFits u (neg_ℚ l)

-- the limit of e by f at the variable m
abbrev pub LimitFitsAt : LinearProgram → Tableau → ℕ → Number → ℕ → Type 0
LimitFitsAt M t e f m = (m ≡ e → WidthFits (lower_end M e) (upper_end M e))
    × (m ≢ e → LessFits (end_ahead M t e f m) (t.values m) × OverFits (less (end_ahead M t e f m) (t.values m)) (t.table m e *ℚ f))

-- all its limits
abbrev pub LimitsFit : LinearProgram → Tableau → ℕ → Number → Type 0
LimitsFit M t e f = (m : ℕ) → m < t.size → LimitFitsAt M t e f m
