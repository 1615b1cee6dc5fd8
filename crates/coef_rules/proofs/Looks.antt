-- What the look at a row says of the rule.
use Rattle.std.proofs.Common.{◌≡◌, ℕ, ◌&&◌, List, [], ◌∷◌, Some, is_some, sym, ap, ap₂, ◌∙◌}
use Rattle.fractions.specs.Number.{Number}
use Rattle.problem_model.specs.declared.edit.Edit.{Edit}
use Rattle.problem_model.specs.declared.edit.Edit.TheVariants.{SetEntry}
use Rattle.problem_model.specs.Sparse.{Sparse}
use Rattle.activities.specs.Rows.{is_uncrossed}
use Rattle.activities.proofs.RowLooks.{split}
use Rattle.coef_laws.specs.CoefficientTightening.{edits, edits_by, enabled, is_coefficient_tightening, new_coefficient, new_limit, side_set, tightening_of, turned}
use Rattle.coef_laws.specs.declared.tightening.Tightening.{Tightening}

pub enabled_is : (p : Sparse) (i j : ℕ) → enabled p i j ≡ (is_uncrossed p i && is_some (tightening_of p i j))
enabled_is p i j = split (is_coefficient_tightening j) p i

-- the edits, by their numbers
pub edits_are : (p : Sparse) (i j : ℕ) (t : Tightening) (c b : Number) (side : Edit) (es : List Edit) → tightening_of p i j ≡ Some t → c ≡ turned t.side (new_coefficient t) → b ≡ turned t.side (new_limit t) → side ≡ side_set t.side i b
    → es ≡ SetEntry i j c ∷ side ∷ [] → es ≡ edits p i j
edits_are p i j t c b side es e f g h k = k ∙ ap₂ (λ (q : Number) (s : Edit). SetEntry i j q ∷ s ∷ []) f (h ∙ ap (side_set t.side i) g) ∙ ap (edits_by i j) (sym e)
