-- Instances of a rule with a first id that read the same parts, of which the first one that is applied changes one.
use Rattle.std.proofs.Common.{◌≡◌, ℕ, true, false, map, refl, sym, ◌∙◌, true≢false}
use Rattle.std.specs.List.{Contains, filter}
use Rattle.problem_model.specs.declared.part.Part.{Part}
use Rattle.problem_model.specs.declared.part.Part.TheVariants as part
use Rattle.problem_model.specs.Parts.{changes_of}
use Rattle.problem_model.specs.Problems.{IsSparse, row_entries}
use Rattle.problem_model.specs.Raised.{risen}
use Rattle.problem_model.specs.Sparse.{Sparse}
use Rattle.rule_words.specs.Reading.{bounds_named, parts_on}
use Rattle.activity_laws.specs.Rows.{heads}
use Rattle.activity_laws.specs.BoundTightening.{bounds_of}
use Rattle.presolve_model.specs.declared.instance.Instance.{Instance}
use Rattle.presolve_model.specs.declared.instance.Instance.TheVariants as at
use Rattle.presolve_model.specs.declared.instance.Reduction.{Reduction}
use Rattle.presolve_model.specs.declared.instance.Reduction.TheVariants.{BoundTightening, CoefficientTightening}
use Rattle.presolve_model.specs.declared.instance.Rule.{Rule}
use Rattle.presolve_model.specs.declared.instance.Rule.TheVariants as rule
use Rattle.presolve_model.specs.declared.instance.Verdict.{Verdict}
use Rattle.presolve_model.specs.declared.instance.Verdict.TheVariants.{CrossedBounds, CrossedSides, InfeasibleRow, UnboundedColumn}
use Rattle.presolve_model.specs.Changes.{changed}
use Rattle.presolve_model.specs.Enabled.{enabled_on, reads}
use Rattle.presolve_model.specs.Instances.{goes_by_form, instances_from, reach_of, rule_at, rule_of, shares_reading, verdict_rule}
use Rattle.presolve_model.specs.Tallies.{Open}
use Rattle.presolve_model.proofs.Lists.{each_mapped}
use Rattle.presolve_model.proofs.Tightened.{coefficient_read, coefficient_rises, tightened_read, tightened_rise}

-- it reads a row, its sides and the bounds of its columns, and looks at what they hold
abbrev ReadsRow : ℕ → Instance → Type 0
ReadsRow i x = ((s : Sparse) → reads s x ≡ parts_on (heads i) bounds_named s) × (goes_by_form (reach_of (rule_at x)) ≡ false)

row_read : (opens : Open) (p : Sparse) (r : Rule) (i : ℕ) (x : Instance) → shares_reading r ≡ true → Contains (instances_from opens p r i) x → ReadsRow i x
row_read opens p rule.BoundTightening i x t c = each_mapped (ReadsRow i) (λ y. at.Reduction (BoundTightening i y.0 y.1)) (filter (λ y. opens y.0 y.1) (bounds_of (row_entries p i))) x (λ y. ((λ s. refl), refl)) c
row_read opens p rule.CoefficientTightening i x t c = each_mapped (ReadsRow i) (λ j. at.Reduction (CoefficientTightening i j)) (map (λ t. t.id) (row_entries p i)) x (λ j. ((λ s. refl), refl)) c
row_read opens p r i x t c = absurd (true≢false (sym t))

pub read_alike : (opens : Open) (p s : Sparse) (r : Rule) (k : ℕ) (x y : Instance) → shares_reading r ≡ true → Contains (instances_from opens p r k) x → Contains (instances_from opens p r k) y → reads s x ≡ reads s y
read_alike opens p s r k x y t c d = (row_read opens p r k x t c).0 s ∙ sym ((row_read opens p r k y t d).0 s)

pub read_by_value : (opens : Open) (p : Sparse) (r : Rule) (k : ℕ) (x : Instance) → shares_reading r ≡ true → Contains (instances_from opens p r k) x → goes_by_form (reach_of (rule_at x)) ≡ false
read_by_value opens p r k x t c = (row_read opens p r k x t c).1

-- a part that it reads has changed once more
pub one_rises : (p : Sparse) (r : Reduction) → IsSparse p → shares_reading (rule_of r) ≡ true → enabled_on p (at.Reduction r) ≡ true → (a : Part) × Contains (reads p (at.Reduction r)) a × (changes_of (changed r p) a ≡ risen (changes_of p a))
one_rises p (BoundTightening i j side) s t on = (part.Bounds j, tightened_read p i j side on, tightened_rise p i j side s on)
one_rises p (CoefficientTightening i j) s t on = (part.Row i, coefficient_read p i j, coefficient_rises p i j s on)
one_rises p r s t on = absurd (true≢false (sym t))

pub verdicts_share_none : (v : Verdict) → shares_reading (verdict_rule v) ≡ true → ⊥
verdicts_share_none (CrossedBounds j) t = true≢false (sym t)
verdicts_share_none (CrossedSides i) t = true≢false (sym t)
verdicts_share_none (InfeasibleRow i) t = true≢false (sym t)
verdicts_share_none (UnboundedColumn j) t = true≢false (sym t)
