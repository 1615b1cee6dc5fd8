-- One edit keeps what is asked of a problem, and what it makes of the linear program that is shown.
use Rattle.std.proofs.Common.{◌≡◌, refl}
use Rattle.fractions.specs.Number.{◌+ℚ◌}
use Rattle.problem_model.specs.Problems.{IsSparse}
use Rattle.problem_model.specs.Showing.{shown}
use Rattle.problem_model.specs.Sparse.{Sparse}
use Rattle.problem_laws.proofs.Keeping.{row_deleted_sparse, column_deleted_sparse, sides_set_sparse, bounds_set_sparse, offset_set_sparse}
use Rattle.problem_laws.proofs.ShowingEdits.{shown-row_deleted, shown-column_deleted, shown-sides_set, shown-bounds_set}
use Rattle.problem_model.specs.Allowed.{IsAllowed}
use Rattle.problem_model.specs.Applied.{edited}
use Rattle.problem_model.specs.EditedPrograms.{edited_program}
use Rattle.problem_model.specs.declared.edit.Edit.{Edit}
use Rattle.problem_model.specs.declared.edit.Edit.TheVariants.{DeleteRow, DeleteColumn, SetSides, SetBounds, AddOffset, SetCost, SetEntry}
use Rattle.problem_laws.proofs.EntriesKept.{entry_set_sparse, cost_set_sparse}
use Rattle.problem_laws.proofs.EntriesShown.{shown-entry_set, shown-cost_set}

-- ---- sound
pub sparse_edited : (p : Sparse) (e : Edit) → IsSparse p → IsAllowed p e → IsSparse (edited p e)
sparse_edited p (DeleteRow i) s a = row_deleted_sparse p i s a
sparse_edited p (DeleteColumn j) s a = column_deleted_sparse p j s a
sparse_edited p (SetSides i l u) s a = sides_set_sparse p i l u s
sparse_edited p (SetBounds j l u) s a = bounds_set_sparse p j l u s
sparse_edited p (AddOffset k) s a = offset_set_sparse p (p.offset +ℚ k) s
sparse_edited p (SetCost j c) s a = cost_set_sparse p j c s
sparse_edited p (SetEntry i j w) s a = entry_set_sparse p i j w s a.0 a.1

-- ---- shown
pub shown_edited : (p : Sparse) (e : Edit) → IsSparse p → IsAllowed p e → shown (edited p e) ≡ edited_program (shown p) e
shown_edited p (DeleteRow i) s a = shown-row_deleted p i s a
shown_edited p (DeleteColumn j) s a = shown-column_deleted p j s a
shown_edited p (SetSides i l u) s a = shown-sides_set p i l u s a
shown_edited p (SetBounds j l u) s a = shown-bounds_set p j l u s a.0 a.1
shown_edited p (AddOffset k) s a = refl
shown_edited p (SetCost j c) s a = shown-cost_set p j c s a
shown_edited p (SetEntry i j w) s a = shown-entry_set p i j w s a.0 a.1
