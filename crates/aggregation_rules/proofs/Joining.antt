-- What is computed for an equation, and the edits by it.
use Rattle.std.proofs.Common.{◌≡◌, ℕ, length, true, List, ◌++◌, map, Option, sym, ap, ◌∙◌, subst}
use Rattle.std.specs.List.{All}
use Rattle.std.proofs.lemmas.List.{append_assoc}
use Rattle.std.proofs.lemmas.List.Elements.{All-filter}
use Rattle.std.specs.Prelude.{not, nat_eq}
use Rattle.fractions.specs.Number.{Number, ◌-ℚ◌, ◌*ℚ◌}
use Rattle.fractions.specs.Division.{◌/ℚ◌}
use Rattle.fractions.specs.Ends.{meet_low, meet_high}
use Rattle.fractions.specs.Lowest.{Fits}
use Rattle.lp_model.specs.declared.terms.Term.{Term}
use Rattle.lp_model.specs.Sparse.{Ascends}
use Rattle.lp_substitutions.specs.DoubletonEquation.{image_lower, image_upper}
use Rattle.undo_records.specs.Fitting.{LessProductFits}
use Rattle.problem_model.specs.declared.edit.Edit.{Edit}
use Rattle.problem_model.specs.Problems.{IsSparse, row_at, column_entries, bounds_at, cost_at}
use Rattle.problem_model.specs.Sparse.{Sparse}
use Rattle.problem_laws.proofs.Entries.{column_entries-ascend, column_entries-live}
use Rattle.problem_laws.proofs.Terms.{ascends-filter}
use Rattle.aggregation_laws.specs.DoubletonEquation.{column_joined, edits, entry_less, factor, joined_cost, joined_lower, joined_upper, others, shift, Computes, ImageFits}
use Rattle.aggregation_rules.specs.declared.equation.Equation.{Equation}
use Rattle.aggregation_rules.specs.Looks.{equation_at}
use Rattle.aggregation_rules.specs.Parts.{EntryFits}
use Rattle.rule_words.specs.MovedSides.{sides_less, SidesFit}

-- ---- the other entries of the column that goes
pub others_live : (p : Sparse) (i j : ℕ) (ts : List Term) → ts ≡ others p i j → All (λ (t : Term). (row_at p t.id).live ≡ true) ts
others_live p i j ts e = subst (All (λ (t : Term). (row_at p t.id).live ≡ true)) (sym e) (All-filter (λ t. not (nat_eq t.id i)) (λ (t : Term). (row_at p t.id).live ≡ true) (column_entries p j) (column_entries-live p j))

pub others_ascend : (p : Sparse) (i j : ℕ) (ts : List Term) → IsSparse p → ts ≡ others p i j → Ascends 0 (length p.matrix.rows) ts
others_ascend p i j ts s e = subst (Ascends 0 (length p.matrix.rows)) (sym e) (ascends-filter (λ t. not (nat_eq t.id i)) (column_entries p j) 0 (length p.matrix.rows) (column_entries-ascend p j s))

-- ---- by the equation and its quotients
module _ (p : Sparse) (i j k : ℕ) (x : Equation) (q s : Number) (e : x ≡ equation_at p i j k) (g : q ≡ x.kept_value /ℚ x.value) (h : s ≡ x.equal /ℚ x.value) where
  factor_is : q ≡ factor p i j k
  factor_is = g ∙ ap (λ (y : Equation). y.kept_value /ℚ y.value) e

  shift_is : s ≡ shift p i j
  shift_is = h ∙ ap (λ (y : Equation). y.equal /ℚ y.value) e

  pub computes : (ts : List Term) → ts ≡ others p i j → Fits (x.kept_value /ℚ x.value) → Fits (x.equal /ℚ x.value) → All (EntryFits p k q) ts → All (SidesFit p s) ts
      → LessProductFits (cost_at p k) (cost_at p j) q → Fits (cost_at p j *ℚ s) → ImageFits x.value x.kept_value x.equal (bounds_at p j).lower → ImageFits x.value x.kept_value x.equal (bounds_at p j).upper → Computes p i j k
  computes ts f a b entries sides cost amount low high = record {
    entries_quotient = subst (λ (y : Equation). Fits (y.kept_value /ℚ y.value)) e a;
    sides_quotient = subst (λ (y : Equation). Fits (y.equal /ℚ y.value)) e b;
    terms = λ n d l. record {
      entry = (subst (λ (z : Number). All (EntryFits p k z) (others p i j)) factor_is (subst (All (EntryFits p k q)) f entries)) n d l;
      sides = all_sides n d l;
    };
    cost = subst (LessProductFits (cost_at p k) (cost_at p j)) factor_is cost;
    amount = subst (λ (z : Number). Fits (cost_at p j *ℚ z)) shift_is amount;
    lower = subst (λ (y : Equation). ImageFits y.value y.kept_value y.equal (bounds_at p j).lower) e low;
    upper = subst (λ (y : Equation). ImageFits y.value y.kept_value y.equal (bounds_at p j).upper) e high;
  }
    where
      all_sides : All (SidesFit p (shift p i j)) (others p i j)
      all_sides = subst (λ (z : Number). All (SidesFit p z) (others p i j)) shift_is (subst (All (SidesFit p s)) f sides)

  pub edits_are : (ts : List Term) (first second all : List Edit) (cost amount : Number) (l u : Option Number) → ts ≡ others p i j
      → first ≡ map (entry_less p k q) ts → second ≡ first ++ map (sides_less p s) ts → all ≡ second ++ column_joined i j k cost l u amount
      → cost ≡ cost_at p k -ℚ cost_at p j *ℚ q → amount ≡ cost_at p j *ℚ s
      → l ≡ meet_low (bounds_at p k).lower (image_lower x.value x.kept_value x.equal (bounds_at p j).lower (bounds_at p j).upper)
      → u ≡ meet_high (bounds_at p k).upper (image_upper x.value x.kept_value x.equal (bounds_at p j).lower (bounds_at p j).upper) → all ≡ edits p i j k
  edits_are ts first second all cost amount l u f a b c d m low high =
      c ∙ ap (λ (es : List Edit). es ++ column_joined i j k cost l u amount) (b ∙ ap (λ (es : List Edit). es ++ map (sides_less p s) ts) a)
      ∙ append_assoc (map (entry_less p k q) ts) (map (sides_less p s) ts) (column_joined i j k cost l u amount)
      ∙ (λ r. map (entry_less p k (factor_is r)) (f r) ++ (map (sides_less p (shift_is r)) (f r) ++ column_joined i j k (cost_is r) (lower_is r) (upper_is r) (amount_is r)))
    where
      cost_is : cost ≡ joined_cost p i j k
      cost_is = d ∙ ap (λ (z : Number). cost_at p k -ℚ cost_at p j *ℚ z) factor_is

      amount_is : amount ≡ cost_at p j *ℚ shift p i j
      amount_is = m ∙ ap (λ (z : Number). cost_at p j *ℚ z) shift_is

      lower_is : l ≡ joined_lower p i j k
      lower_is = low ∙ ap (λ (y : Equation). meet_low (bounds_at p k).lower (image_lower y.value y.kept_value y.equal (bounds_at p j).lower (bounds_at p j).upper)) e

      upper_is : u ≡ joined_upper p i j k
      upper_is = high ∙ ap (λ (y : Equation). meet_high (bounds_at p k).upper (image_upper y.value y.kept_value y.equal (bounds_at p j).lower (bounds_at p j).upper)) e
