-- V3.
use Rattle.std.proofs.Common.{◌≡◌, ◌⊎◌, inl, inr, ℕ, Bool, true, false, ◌&&◌, ◌||◌, List, map, Option, None, is_none, refl, sym, ◌∙◌, subst}
use Rattle.std.specs.Prelude.{if◌then◌else◌}
use Rattle.std.proofs.lemmas.Bool.{and_parts}
use Rattle.fractions.specs.Number.{Number, zero_ℚ}
use Rattle.fractions.specs.Order.{◌<ℚ◌}
use Rattle.fractions.specs.Compare.{lt_ℚ}
use Rattle.fractions.specs.Comparisons.{lt_ℚ-is}
use Rattle.lp_model.specs.declared.program.Sense.TheVariants.{Min}
use Rattle.lp_model.specs.declared.terms.Term.{Term}
use Rattle.lp_model.specs.EndTests.{is_in_order}
use Rattle.lp_model.specs.Verdicts.{NoPointOrEndless}
use Rattle.lp_columns.specs.UnboundedColumn.{FallsForEver, RisesForEver}
use Rattle.lp_columns.proofs.UnboundedColumn.{unbounded_column}
use Rattle.problem_model.specs.declared.part.Contents.{Contents}
use Rattle.problem_model.specs.declared.part.Contents.TheVariants as holding
use Rattle.problem_model.specs.declared.part.Part.{Part}
use Rattle.problem_model.specs.Parts.{contents_of, bounds_held}
use Rattle.problem_model.specs.Problems.{column_at, bounds_at, cost_at, column_entries, IsSparse}
use Rattle.problem_model.specs.Showing.{shown}
use Rattle.problem_model.specs.Sparse.{Sparse}
use Rattle.problem_laws.proofs.AtIds.{column_inside}
use Rattle.rule_words.specs.Owed.{RuleDecides}
use Rattle.rule_words.specs.Reading.{sides_of, terms_in}
use Rattle.rule_words.proofs.Coefficients.{end_live}
use Rattle.rule_words.proofs.EndTestsSay.{not_true}
use Rattle.dual_laws.specs.Locks.{all_take, are_uncrossed, sides_on, takes_down, takes_up}
use Rattle.dual_laws.specs.UnboundedColumn.{enabled, falls, is_unbounded_column, rises}
use Rattle.dual_laws.proofs.Locks.{cost_live, none_is, no_down_lock, no_up_lock}
use Rattle.rule_words.proofs.Solid.{gap_solid, low_shown, high_shown}

-- what it says that a column rises, and that it falls
pub record Rises (ts : List Term) (c : Number) (u : Option Number) (sides : List Contents) : Type 0 where
  pub cost : c <ℚ zero_ℚ
  pub upper : u ≡ None
  pub rows : all_take takes_up ts sides ≡ true

pub record Falls (ts : List Term) (c : Number) (l : Option Number) (sides : List Contents) : Type 0 where
  pub cost : zero_ℚ <ℚ c
  pub lower : l ≡ None
  pub rows : all_take takes_down ts sides ≡ true

-- what the condition says: a live column that rises or falls
pub record Said (on semi : Bool) (ts : List Term) (c : Number) (l u : Option Number) (sides : List Contents) : Type 0 where
  pub live : on ≡ true
  pub solid : semi ≡ false
  pub goes : Rises ts c u sides ⊎ Falls ts c l sides

module _ (ts : List Term) (c : Number) (l u : Option Number) (sides : List Contents) where
  rises_said : rises ts c u sides ≡ true → Rises ts c u sides
  rises_said e =
      let a = and_parts (lt_ℚ c zero_ℚ) (is_none u && all_take takes_up ts sides) e in
      let b = and_parts (is_none u) (all_take takes_up ts sides) a.1 in
      record { cost = (lt_ℚ-is c zero_ℚ).0 a.0; upper = none_is u b.0; rows = b.1 }

  falls_said : falls ts c l sides ≡ true → Falls ts c l sides
  falls_said e =
      let a = and_parts (lt_ℚ zero_ℚ c) (is_none l && all_take takes_down ts sides) e in
      let b = and_parts (is_none l) (all_take takes_down ts sides) a.1 in
      record { cost = (lt_ℚ-is zero_ℚ c).0 a.0; lower = none_is l b.0; rows = b.1 }

  goes_said : (b : Bool) → rises ts c u sides ≡ b → (b || falls ts c l sides) ≡ true → Rises ts c u sides ⊎ Falls ts c l sides
  goes_said true e h = inl (rises_said e)
  goes_said false e h = inr (falls_said h)

says : (on semi : Bool) (f : Part → Contents) (ts : List Term) (c : Number) (l u : Option Number) (w : Bool)
    → is_unbounded_column (if on then holding.Column ts c else holding.Gone) (if on then bounds_held semi l u w else holding.Gone) (map f (sides_of (terms_in (if on then holding.Column ts c else holding.Gone)))) ≡ true
    → Said on semi ts c l u (map f (sides_of ts))
says true true f ts c l u w e = absurd (not_true e)
says true false f ts c l u w e =
    let sides : List Contents = map f (sides_of ts) in
    let a = and_parts (is_in_order l u) (are_uncrossed sides && (rises ts c u sides || falls ts c l sides)) e in
    let b = and_parts (are_uncrossed sides) (rises ts c u sides || falls ts c l sides) a.1 in
    record { live = refl; solid = refl; goes = goes_said ts c l u sides (rises ts c u sides) refl b.1 }
says false semi f ts c l u w e = absurd (not_true e)

abbrev SaidAt : Sparse → ℕ → Type 0
SaidAt p j = Said (column_at p j).live (bounds_at p j).semi (column_entries p j) (cost_at p j) (bounds_at p j).lower (bounds_at p j).upper (sides_on p j)

pub said : (p : Sparse) (j : ℕ) → enabled p j ≡ true → SaidAt p j
said p j = says (column_at p j).live (bounds_at p j).semi (contents_of p) (column_entries p j) (cost_at p j) (bounds_at p j).lower (bounds_at p j).upper (bounds_at p j).whole

module _ (p : Sparse) (j : ℕ) (s : IsSparse p) (live : (column_at p j).live ≡ true) (solid : (bounds_at p j).semi ≡ false) where
  goes_shown : Rises (column_entries p j) (cost_at p j) (bounds_at p j).upper (sides_on p j) ⊎ Falls (column_entries p j) (cost_at p j) (bounds_at p j).lower (sides_on p j)
      → RisesForEver (shown p) j ⊎ FallsForEver (shown p) j
  goes_shown (inl r) = inl (record {
    cost = subst (λ (c : Number). c <ℚ zero_ℚ) (sym (cost_live (column_at p j).live (cost_at p j) live)) r.cost;
    upper = high_shown p j live solid ∙ r.upper;
    rows = no_up_lock p j s live r.rows;
  })
  goes_shown (inr r) = inr (record {
    cost = subst (λ (c : Number). zero_ℚ <ℚ c) (sym (cost_live (column_at p j).live (cost_at p j) live)) r.cost;
    lower = low_shown p j live solid ∙ r.lower;
    rows = no_down_lock p j s live r.rows;
  })

pub decides : RuleDecides enabled (NoPointOrEndless Min)
decides p j s e = let r = said p j e in unbounded_column (shown p) j (record { column = column_inside p j r.live; solid = gap_solid (column_at p j).live (bounds_at p j) r.solid; goes = goes_shown p j s r.live r.solid r.goes })
