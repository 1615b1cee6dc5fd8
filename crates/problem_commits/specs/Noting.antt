-- Notes of parts that edits touch, as they stood before, and the numbers that rise by them.
use Rattle.std.specs.Prelude.{ℕ, nat_eq, Bool, true, false, not, List, [], ◌∷◌, ◌++◌, map, if◌then◌else◌}
use Rattle.fractions.specs.Number.{Number}
use Rattle.fractions.specs.Compare.{eq_ℚ}
use Rattle.lp_model.specs.declared.terms.Term.{Term}
use Rattle.problem_model.specs.declared.edit.Edit.{Edit}
use Rattle.problem_model.specs.declared.edit.Edit.TheVariants.{DeleteRow, DeleteColumn, SetSides, SetBounds, AddOffset, SetCost, SetEntry}
use Rattle.problem_model.specs.declared.part.Part.{Part}
use Rattle.problem_model.specs.declared.part.Part.TheVariants as part
use Rattle.problem_model.specs.declared.part.Contents.{Contents}
use Rattle.problem_model.specs.declared.part.Contents.TheVariants as holds
use Rattle.problem_model.specs.Parts.{contents_of, changes_of}
use Rattle.problem_model.specs.Problems.{column_at, row_entries, column_entries, cost_at}
use Rattle.problem_model.specs.Raised.{risen, same_contents}
use Rattle.problem_model.specs.Sparse.{Sparse}
use Rattle.problem_data.specs.Renumbered.{changes_put}
use Rattle.problem_commits.specs.declared.notes.Held.{Held}
use Rattle.problem_commits.specs.declared.notes.Held.TheVariants.{Certain, Whole, Cost}
use Rattle.problem_commits.specs.declared.notes.Note.{Note}

-- a part that may change, one that changes for certain, and a column whose cost is set
abbrev pub asked : Sparse → Part → Note
asked p a = record { part = a; changes = changes_of p a; held = Whole (contents_of p a) }

abbrev pub certain : Sparse → Part → Note
certain p a = record { part = a; changes = changes_of p a; held = Certain }

abbrev pub costed : Sparse → ℕ → Note
costed p j = record { part = part.Col j; changes = changes_of p (part.Col j); held = Cost (cost_at p j) }

abbrev pub columns_noted : Sparse → List Term → List Note
columns_noted p ts = map (λ t. certain p (part.Col t.id)) ts

abbrev pub rows_noted : Sparse → List Term → List Note
rows_noted p ts = map (λ t. certain p (part.Row t.id)) ts

-- whether edits begin with one that sets an entry of column j
abbrev pub goes_on : ℕ → List Edit → Bool
goes_on j [] = false
goes_on j (SetEntry i k a ∷ es) = nat_eq k j
goes_on j (DeleteRow i ∷ es) = false
goes_on j (DeleteColumn k ∷ es) = false
goes_on j (SetSides i l u ∷ es) = false
goes_on j (SetBounds k l u ∷ es) = false
goes_on j (AddOffset k ∷ es) = false
goes_on j (SetCost k c ∷ es) = false

-- a column in which entries are set one after the other is noted once, with the last of them
abbrev pub column_noted : Sparse → ℕ → List Edit → List Note
column_noted p j es = if goes_on j es then [] else asked p (part.Col j) ∷ []

-- a cost is noted where the column is there
abbrev pub cost_noted : Sparse → ℕ → List Note
cost_noted p j = if (column_at p j).live then costed p j ∷ [] else []

-- the notes of one edit, behind which others come, on the problem before all of them
abbrev pub noted : Sparse → Edit → List Edit → List Note
noted p (DeleteRow i) es = certain p (part.Row i) ∷ certain p (part.Sides i) ∷ columns_noted p (row_entries p i)
noted p (DeleteColumn j) es = certain p (part.Col j) ∷ certain p (part.Bounds j) ∷ rows_noted p (column_entries p j)
noted p (SetSides i l u) es = asked p (part.Sides i) ∷ []
noted p (SetBounds j l u) es = asked p (part.Bounds j) ∷ []
noted p (AddOffset k) es = []
noted p (SetCost j c) es = cost_noted p j
noted p (SetEntry i j a) es = asked p (part.Row i) ∷ column_noted p j es

abbrev pub all_noted : Sparse → List Edit → List Note
all_noted p [] = []
all_noted p (e ∷ es) = noted p e es ++ all_noted p es

-- whether contents are those of a column of this cost
abbrev pub costs : Number → Contents → Bool
costs c holds.Gone = false
costs c (holds.Entries ts) = false
costs c (holds.Sides l u) = false
costs c (holds.Column ts d) = eq_ℚ c d
costs c (holds.Bounds l u w) = false
costs c (holds.Semi l u w) = false

-- whether contents are other ones than those of which this was kept, by what was kept
abbrev pub is_other : Held → Contents → Bool
is_other Certain d = true
is_other (Whole c) d = not (same_contents c d)
is_other (Cost c) d = not (costs c d)

abbrev pub has_changed : Sparse → Note → Bool
has_changed q n = is_other n.held (contents_of q n.part)

-- its number is one more than it was before
abbrev pub raised_note : Sparse → Note → Sparse
raised_note q n = if has_changed q n then changes_put q n.part (risen n.changes) else q

abbrev pub all_raised : Sparse → List Note → Sparse
all_raised q [] = q
all_raised q (n ∷ ns) = all_raised (raised_note q n) ns
