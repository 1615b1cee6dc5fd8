-- Other ids of rows and columns, in all that names rows and columns.
use Rattle.std.proofs.Common.{◌≡◌, ℕ, List, [], ◌∷◌, refl, slice_index}
use Rattle.lp_model.specs.declared.terms.Term.{Term}
use Rattle.problem_model.specs.declared.edit.Edit.{Edit}
use Rattle.problem_model.specs.declared.edit.Edit.TheVariants.{DeleteRow, DeleteColumn, SetSides, SetBounds, AddOffset, SetCost, SetEntry}
use Rattle.problem_model.specs.declared.part.Contents.{Contents}
use Rattle.problem_model.specs.declared.part.Contents.TheVariants as holds
use Rattle.problem_model.specs.declared.part.Part.{Part}
use Rattle.problem_model.specs.declared.part.Part.TheVariants.{Row, Sides, Col, Bounds}
use Rattle.problem_model.specs.Programs.{live_ids}
use Rattle.problem_model.specs.Sparse.{Sparse}
use Rattle.rule_words.specs.Entries.{has_none, has_one}
use Rattle.written_ids.specs.NewIds.{Ids, terms_at}

-- the ids that live lines had
abbrev pub old_ids : Sparse → Ids
old_ids p = record { row = slice_index (live_ids p.matrix.rows); column = slice_index (live_ids p.matrix.columns) }

-- ---- what names rows and columns
abbrev pub part_at : Ids → Part → Part
part_at n (Row i) = Row (n.row i)
part_at n (Sides i) = Sides (n.row i)
part_at n (Col j) = Col (n.column j)
part_at n (Bounds j) = Bounds (n.column j)

abbrev pub contents_at : Ids → Contents → Contents
contents_at n holds.Gone = holds.Gone
contents_at n (holds.Entries ts) = holds.Entries (terms_at n.column ts)
contents_at n (holds.Sides l u) = holds.Sides l u
contents_at n (holds.Column ts c) = holds.Column (terms_at n.row ts) c
contents_at n (holds.Bounds l u w) = holds.Bounds l u w
contents_at n (holds.Semi l u w) = holds.Semi l u w

abbrev pub edit_at : Ids → Edit → Edit
edit_at n (DeleteRow i) = DeleteRow (n.row i)
edit_at n (DeleteColumn j) = DeleteColumn (n.column j)
edit_at n (SetSides i l u) = SetSides (n.row i) l u
edit_at n (SetBounds j l u) = SetBounds (n.column j) l u
edit_at n (AddOffset k) = AddOffset k
edit_at n (SetCost j c) = SetCost (n.column j) c
edit_at n (SetEntry i j a) = SetEntry (n.row i) (n.column j) a

-- the id of a part
abbrev pub id_of : Part → ℕ
id_of (Row i) = i
id_of (Sides i) = i
id_of (Col j) = j
id_of (Bounds j) = j

-- ---- how many terms there are
pub none_at : (id : ℕ → ℕ) (ts : List Term) → has_none (terms_at id ts) ≡ has_none ts
none_at id [] = refl
none_at id (t ∷ ts) = refl

pub one_at : (id : ℕ → ℕ) (ts : List Term) → has_one (terms_at id ts) ≡ has_one ts
one_at id [] = refl
one_at id (t ∷ ts) = none_at id ts
