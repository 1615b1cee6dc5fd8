-- What a commit of edits keeps and makes: what its edits do, since numbers of changes are nothing that is shown or written.
use Rattle.std.proofs.Common.{◌≡◌, List, ◌∙◌}
use Rattle.std.specs.List.{All}
use Rattle.fractions.specs.Number.{◌+ℚ◌}
use Rattle.fractions.specs.declared.Numbers.{Numbers}
use Rattle.problem_model.specs.declared.edit.Edit.{Edit}
use Rattle.problem_model.specs.Allowed.{AreAllowed}
use Rattle.problem_model.specs.Applied.{applied}
use Rattle.problem_model.specs.EditedPrograms.{programs_edited}
use Rattle.problem_model.specs.Flags.{flags_of}
use Rattle.problem_model.specs.Living.{all_flags_edited}
use Rattle.problem_model.specs.NewNumbers.{EditFits, EditIsSided, EditsAreWritten}
use Rattle.problem_model.specs.Offsets.{added_by}
use Rattle.problem_model.specs.Problems.{IsSparse}
use Rattle.problem_model.specs.Raised.{changes_after, committed}
use Rattle.problem_model.specs.Showing.{shown}
use Rattle.problem_model.specs.Sparse.{Sparse}
use Rattle.problem_model.specs.Writing.{IsWritable}
use Rattle.edit_laws.specs.Sizes.{SameSize}
use Rattle.edit_laws.proofs.Lists.{shown_applied, offset_applied, flags_applied, size_applied, writable_applied}
use Rattle.problem_laws.proofs.Numbering.{shown-numbered, flags-numbered, writable-numbered, rows_like, columns_like}

pub shown_committed : (p : Sparse) (es : List Edit) → IsSparse p → AreAllowed p es → shown (committed p es) ≡ programs_edited (shown p) es
shown_committed p es s h = shown-numbered (applied p es) (changes_after p (applied p es)) ∙ shown_applied p es s h

pub offset_committed : (p : Sparse) (es : List Edit) → (committed p es).offset ≡ p.offset +ℚ added_by es
offset_committed p es = offset_applied p es

pub flags_committed : (p : Sparse) (es : List Edit) → flags_of (committed p es) ≡ all_flags_edited (flags_of p) es
flags_committed p es = flags-numbered (applied p es) (changes_after p (applied p es)) ∙ flags_applied p es

pub size_committed : (p : Sparse) (es : List Edit) → SameSize p (committed p es)
size_committed p es = let z = size_applied p es in record {
  rows = (rows_like (applied p es) (changes_after p (applied p es))).long ∙ z.rows;
  columns = (columns_like (applied p es) (changes_after p (applied p es))).long ∙ z.columns;
  constant = z.constant;
}

pub writable_committed : (numbers : Numbers) (p : Sparse) (es : List Edit) → IsSparse p → IsWritable numbers p → AreAllowed p es → All EditFits es → EditsAreWritten numbers es → All EditIsSided es → IsWritable numbers (committed p es)
writable_committed numbers p es s w h f d g = writable-numbered (applied p es) (changes_after p (applied p es)) numbers (writable_applied numbers p es s w h f d g)
