-- K10 and V3 at new ids: what the rows of a column take, and where it goes.
use Rattle.std.proofs.Common.{◌≡◌, ℕ, Bool, true, not, ◌&&◌, ◌||◌, List, [], ◌∷◌, map, Option, is_none, refl, ap, ap₂, ◌∙◌}
use Rattle.std.specs.Prelude.{if◌then◌else◌}
use Rattle.std.proofs.lemmas.List.Elements.{All-map}
use Rattle.fractions.specs.Number.{Number, zero_ℚ}
use Rattle.fractions.specs.Compare.{lt_ℚ}
use Rattle.lp_model.specs.declared.terms.Term.{Term}
use Rattle.lp_model.specs.EndTests.{is_apart, is_in_order, is_place}
use Rattle.problem_model.specs.declared.part.Contents.{Contents}
use Rattle.problem_model.specs.declared.part.Contents.TheVariants as holding
use Rattle.problem_model.specs.declared.part.Part.TheVariants.{Sides}
use Rattle.problem_model.specs.Parts.{contents_of}
use Rattle.problem_model.specs.Problems.{bounds_at, column_at, column_entries, cost_at}
use Rattle.problem_model.specs.Sparse.{Sparse}
use Rattle.problem_laws.proofs.Entries.{column_entries-live}
use Rattle.rule_words.specs.Reading.{sides_of}
use Rattle.dual_laws.specs.DualFixing.{end_kept, goes_down, goes_up, is_dual_fixing, place_of}
use Rattle.dual_laws.specs.Locks.{all_take, are_uncrossed, is_uncrossed, sides_on, takes_down, takes_up}
use Rattle.dual_laws.specs.UnboundedColumn.{falls, is_unbounded_column, rises}
use Rattle.written_ids.specs.NewIds.{Ids, terms_at}
use Rattle.written_ids.specs.Standing.{LinesStand}
use Rattle.written_ids.proofs.Naming.{sides_of_at}
use Rattle.written_ids.proofs.NewIds.{contents_at}
use Rattle.written_ids.proofs.Standing.{IsThere, all_stand}

module _ (n : Ids) where
  -- ---- one row
  takes_down_at : (a : Number) (s : Contents) → takes_down a (contents_at n s) ≡ takes_down a s
  takes_down_at a (holding.Sides l u) = refl
  takes_down_at a s = refl

  takes_up_at : (a : Number) (s : Contents) → takes_up a (contents_at n s) ≡ takes_up a s
  takes_up_at a (holding.Sides l u) = refl
  takes_up_at a s = refl

  uncrossed_at : (s : Contents) → is_uncrossed (contents_at n s) ≡ is_uncrossed s
  uncrossed_at (holding.Sides l u) = refl
  uncrossed_at s = refl

  -- ---- all rows
  pub are_uncrossed_at : (ss : List Contents) → are_uncrossed (map (contents_at n) ss) ≡ are_uncrossed ss
  are_uncrossed_at [] = refl
  are_uncrossed_at (s ∷ ss) = ap₂ (λ (a b : Bool). a && b) (uncrossed_at s) (are_uncrossed_at ss)

  all_take_at : (takes : Number → Contents → Bool) → ((a : Number) (s : Contents) → takes a (contents_at n s) ≡ takes a s)
      → (ts : List Term) (ss : List Contents) → all_take takes (terms_at n.row ts) (map (contents_at n) ss) ≡ all_take takes ts ss
  all_take_at takes e [] ss = refl
  all_take_at takes e (t ∷ ts) [] = refl
  all_take_at takes e (t ∷ ts) (s ∷ ss) = ap₂ (λ (a b : Bool). a && b) (e t.value s) (all_take_at takes e ts ss)

  module _ (ts : List Term) (c : Number) (l u : Option Number) (w : Bool) (ss : List Contents) where
    all_down : all_take takes_down (terms_at n.row ts) (map (contents_at n) ss) ≡ all_take takes_down ts ss
    all_down = all_take_at takes_down takes_down_at ts ss

    all_up : all_take takes_up (terms_at n.row ts) (map (contents_at n) ss) ≡ all_take takes_up ts ss
    all_up = all_take_at takes_up takes_up_at ts ss

    goes_down_at : goes_down (terms_at n.row ts) c l w (map (contents_at n) ss) ≡ goes_down ts c l w ss
    goes_down_at = ap (λ (y : Bool). is_place l w && (not (lt_ℚ c zero_ℚ) && y)) all_down

    goes_up_at : goes_up (terms_at n.row ts) c u w (map (contents_at n) ss) ≡ goes_up ts c u w ss
    goes_up_at = ap (λ (y : Bool). is_place u w && (not (lt_ℚ zero_ℚ c) && y)) all_up

    rises_at : rises (terms_at n.row ts) c u (map (contents_at n) ss) ≡ rises ts c u ss
    rises_at = ap (λ (y : Bool). lt_ℚ c zero_ℚ && (is_none u && y)) all_up

    falls_at : falls (terms_at n.row ts) c l (map (contents_at n) ss) ≡ falls ts c l ss
    falls_at = ap (λ (y : Bool). lt_ℚ zero_ℚ c && (is_none l && y)) all_down

    end_kept_at : end_kept (terms_at n.row ts) c l u w (map (contents_at n) ss) ≡ end_kept ts c l u w ss
    end_kept_at = ap (λ (y : Bool). if y then l else u) goes_down_at

  -- ---- the conditions look at no id
  pub dual_fixing_alike : (a b : Contents) (ss : List Contents) → is_dual_fixing (contents_at n a) (contents_at n b) (map (contents_at n) ss) ≡ is_dual_fixing a b ss
  dual_fixing_alike (holding.Column ts c) (holding.Bounds l u w) ss = λ t. is_apart l u && (are_uncrossed_at ss t && (goes_down_at ts c l u w ss t || goes_up_at ts c l u w ss t))
  dual_fixing_alike a b ss = refl

  pub unbounded_column_alike : (a b : Contents) (ss : List Contents) → is_unbounded_column (contents_at n a) (contents_at n b) (map (contents_at n) ss) ≡ is_unbounded_column a b ss
  unbounded_column_alike (holding.Column ts c) (holding.Bounds l u w) ss = λ t. is_in_order l u && (are_uncrossed_at ss t && (rises_at ts c l u w ss t || falls_at ts c l u w ss t))
  unbounded_column_alike a b ss = refl

-- ---- where K10 leaves a column
module _ (n : Ids) (p q : Sparse) (s : LinesStand n p q) (j : ℕ) (on : (column_at p j).live ≡ true) where
  sides_on_stand : map (contents_of q) (sides_of (terms_at n.row (column_entries p j))) ≡ map (contents_at n) (sides_on p j)
  sides_on_stand = ap (map (contents_of q)) (sides_of_at n (column_entries p j))
      ∙ all_stand n p q s (sides_of (column_entries p j)) (All-map (IsThere p) (λ t. Sides t.id) (column_entries p j) (column_entries-live p j))

  pub place_kept : place_of q (n.column j) ≡ place_of p j
  place_kept = let c = s.column j on in
      (λ t. end_kept (c.entries t) (c.cost t) (c.lower t) (c.upper t) (c.whole t) (map (contents_of q) (sides_of (c.entries t))))
      ∙ ap (end_kept (terms_at n.row (column_entries p j)) (cost_at p j) (bounds_at p j).lower (bounds_at p j).upper (bounds_at p j).whole) sides_on_stand
      ∙ end_kept_at n (column_entries p j) (cost_at p j) (bounds_at p j).lower (bounds_at p j).upper (bounds_at p j).whole (sides_on p j)
