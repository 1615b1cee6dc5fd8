-- A problem without what was deleted: what stands at a live line stands at its new id.
use Rattle.std.proofs.Common.{◌≡◌, ◌↔◌, Bool, true, false, List, [], ◌∷◌, map, Option, refl, ap, ap₂, sym, ◌∙◌}
use Rattle.std.specs.Prelude.{if◌then◌else◌}
use Rattle.std.specs.List.{All}
use Rattle.std.proofs.lemmas.List.Elements.{All-head, All-tail}
use Rattle.fractions.specs.Number.{Number}
use Rattle.problem_model.specs.declared.part.Contents.{Contents}
use Rattle.problem_model.specs.declared.part.Contents.TheVariants as holds
use Rattle.problem_model.specs.declared.part.Part.{Part}
use Rattle.problem_model.specs.declared.part.Part.TheVariants.{Row, Sides, Col, Bounds}
use Rattle.problem_model.specs.Parts.{bounds_held, contents_of}
use Rattle.problem_model.specs.Problems.{bounds_at, column_at, column_entries, cost_at, row_at, row_entries, sides_at}
use Rattle.problem_model.specs.Sparse.{Sparse}
use Rattle.written_ids.specs.NewIds.{Ids}
use Rattle.written_ids.specs.Standing.{LinesStand}
use Rattle.written_ids.proofs.Lists.{all_one, all_two}
use Rattle.written_ids.proofs.NewIds.{contents_at, part_at}

-- a part's row or column is live
abbrev pub IsThere : Sparse → Part → Type 0
IsThere p (Row i) = (row_at p i).live ≡ true
IsThere p (Sides i) = (row_at p i).live ≡ true
IsThere p (Col j) = (column_at p j).live ≡ true
IsThere p (Bounds j) = (column_at p j).live ≡ true

abbrev pub AreThere : Sparse → List Part → Type 0
AreThere p parts = All (IsThere p) parts

-- one or two parts of a line
pub one_part : (p : Sparse) (a : Part) → IsThere p a ↔ All (IsThere p) (a ∷ [])
one_part p a = (all_one (IsThere p) a, All-head (IsThere p) a [])

pub two_parts : (p : Sparse) (a b : Part) → (IsThere p a → IsThere p b) → IsThere p a ↔ All (IsThere p) (a ∷ b ∷ [])
two_parts p a b f = (λ h. all_two (IsThere p) a b h (f h), All-head (IsThere p) a (b ∷ []))

-- what a line holds, if it is live
abbrev pub held : Bool → Contents → Contents
held on c = if on then c else holds.Gone

-- bounds of either kind name no line
bounds_held_at : (n : Ids) (semi : Bool) (l u : Option Number) (w : Bool) → contents_at n (bounds_held semi l u w) ≡ bounds_held semi l u w
bounds_held_at n true l u w = refl
bounds_held_at n false l u w = refl

module _ (n : Ids) (p q : Sparse) (s : LinesStand n p q) where
  pub contents_stand : (a : Part) → IsThere p a → contents_of q (part_at n a) ≡ contents_at n (contents_of p a)
  contents_stand (Row i) h = let r = s.row i h in
      (λ t. held (r.live t) (holds.Entries (r.entries t))) ∙ sym (ap (λ (on : Bool). contents_at n (held on (holds.Entries (row_entries p i)))) h)
  contents_stand (Sides i) h = let r = s.row i h in
      (λ t. held (r.live t) (holds.Sides (r.lower t) (r.upper t))) ∙ sym (ap (λ (on : Bool). contents_at n (held on (holds.Sides (sides_at p i).lower (sides_at p i).upper))) h)
  contents_stand (Col j) h = let c = s.column j h in
      (λ t. held (c.live t) (holds.Column (c.entries t) (c.cost t))) ∙ sym (ap (λ (on : Bool). contents_at n (held on (holds.Column (column_entries p j) (cost_at p j)))) h)
  contents_stand (Bounds j) h = let c = s.column j h in
      (λ t. held (c.live t) (bounds_held (c.semi t) (c.lower t) (c.upper t) (c.whole t)))
      ∙ sym (bounds_held_at n (bounds_at p j).semi (bounds_at p j).lower (bounds_at p j).upper (bounds_at p j).whole)
      ∙ sym (ap (λ (on : Bool). contents_at n (held on (bounds_held (bounds_at p j).semi (bounds_at p j).lower (bounds_at p j).upper (bounds_at p j).whole))) h)

  pub all_stand : (ps : List Part) → AreThere p ps → map (contents_of q) (map (part_at n) ps) ≡ map (contents_at n) (map (contents_of p) ps)
  all_stand [] h = refl
  all_stand (a ∷ ps) h = ap₂ ◌∷◌ (contents_stand a (All-head (IsThere p) a ps h)) (all_stand ps (All-tail (IsThere p) a ps h))
