-- K1: a row without entries is deleted.
use Rattle.std.specs.Prelude.{ℕ, ⊤, Bool, false, ◌&&◌, List, [], ◌∷◌}
use Rattle.undo_records.specs.declared.undo.Undo.{Undo}
use Rattle.undo_records.specs.declared.undo.Undo.TheVariants as undo
use Rattle.problem_model.specs.declared.edit.Edit.{Edit}
use Rattle.problem_model.specs.declared.edit.Edit.TheVariants.{DeleteRow}
use Rattle.problem_model.specs.declared.part.Contents.{Contents}
use Rattle.problem_model.specs.declared.part.Contents.TheVariants.{Entries, Sides}
use Rattle.problem_model.specs.declared.part.Part.{Part}
use Rattle.problem_model.specs.declared.part.Part.TheVariants as part
use Rattle.lp_model.specs.EndTests.{holds_zero}
use Rattle.problem_model.specs.Sparse.{Sparse}
use Rattle.rule_words.specs.Entries.{has_none}
use Rattle.rule_words.specs.Reading.{found_on, no_more}

-- it reads the row and its sides
abbrev pub heads : ℕ → List Part
heads i = part.Row i ∷ part.Sides i ∷ []

-- the row has no entries, and its sides hold 0
abbrev pub is_empty_row : Contents → Contents → Bool
is_empty_row (Entries ts) (Sides l u) = has_none ts && holds_zero l u
is_empty_row row sides = false

abbrev pub holds : List Contents → Bool
holds (a ∷ b ∷ []) = is_empty_row a b
holds other = false

abbrev pub enabled : Sparse → ℕ → Bool
enabled p i = holds (found_on (heads i) no_more p)

-- the row goes
abbrev pub edits : Sparse → ℕ → List Edit
edits p i = DeleteRow i ∷ []

abbrev pub record_of : Sparse → ℕ → Undo
record_of p i = undo.EmptyRow (record { row = i })

-- nothing is computed
abbrev pub Computes : Sparse → ℕ → Type 0
Computes p i = ⊤
