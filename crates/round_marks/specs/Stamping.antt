-- How often parts had changed when a round began.
use Rattle.std.specs.Prelude.{◌≡◌, ℕ, List, [], ◌∷◌, length, map, slice_index_or, slice_set}
use Rattle.problem_model.specs.declared.part.Part.{Part}
use Rattle.problem_model.specs.declared.part.Part.TheVariants as part
use Rattle.problem_model.specs.Parts.{changes_of, contents_of}
use Rattle.problem_model.specs.Sparse.{Sparse}
use Rattle.undo_records.specs.declared.side.Side.TheVariants.{Lower}
use Rattle.presolve_model.specs.declared.instance.Instance.TheVariants as at
use Rattle.presolve_model.specs.declared.instance.Reduction.TheVariants.{BoundTightening}
use Rattle.presolve_model.specs.Enabled.{reads}
use Rattle.presolve_model.specs.Tables.{more}

-- by row and by column
pub record Stamped : Type 0 where
  pub rows : List ℕ
  pub sides : List ℕ
  pub columns : List ℕ
  pub bounds : List ℕ

abbrev pub stamp_at : Stamped → Part → ℕ
stamp_at s (part.Row i) = slice_index_or s.rows i 0
stamp_at s (part.Sides i) = slice_index_or s.sides i 0
stamp_at s (part.Col j) = slice_index_or s.columns j 0
stamp_at s (part.Bounds j) = slice_index_or s.bounds j 0

abbrev pub stamp_put : Stamped → Part → ℕ → Stamped
stamp_put s (part.Row i) n = record s { rows = slice_set s.rows i n }
stamp_put s (part.Sides i) n = record s { sides = slice_set s.sides i n }
stamp_put s (part.Col j) n = record s { columns = slice_set s.columns j n }
stamp_put s (part.Bounds j) n = record s { bounds = slice_set s.bounds j n }

-- the numbers of a problem's parts
abbrev pub stamps_of : Sparse → Stamped
stamps_of p = record {
  rows = map (λ l. l.changes) p.matrix.rows;
  sides = map (λ s. s.changes) p.sides;
  columns = map (λ l. l.changes) p.matrix.columns;
  bounds = map (λ b. b.changes) p.bounds;
}

-- with the numbers of these parts put right
abbrev pub restamped : Stamped → Sparse → List Part → Stamped
restamped s p [] = s
restamped s p (a ∷ ps) = restamped (stamp_put s a (changes_of p a)) p ps

-- they tell how often each part of a problem has changed
pub record AreStampsOf (s : Stamped) (p : Sparse) : Type 0 where
  pub tell : (a : Part) → stamp_at s a ≡ changes_of p a
  pub rows : length s.rows ≡ length p.matrix.rows
  pub sides : length s.sides ≡ length p.sides
  pub columns : length s.columns ≡ length p.matrix.columns
  pub bounds : length s.bounds ≡ length p.bounds

-- the parts that each instance reads that tightens a bound by row i: the row, its sides, and the bounds of its columns
abbrev pub tightening_parts : Sparse → ℕ → List Part
tightening_parts p i = reads p (at.Reduction (BoundTightening i 0 Lower))

-- the last of these
abbrev pub bounds_beside : Sparse → ℕ → List Part
bounds_beside p i = more (at.Reduction (BoundTightening i 0 Lower)) (contents_of p (part.Row i) ∷ contents_of p (part.Sides i) ∷ [])
