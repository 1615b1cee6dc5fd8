-- What single edits keep, make and tell, lists of edits do: by induction.
use Rattle.std.proofs.Common.{◌≡◌, ℕ, zero, suc, Bool, true, false, ◌||◌, List, [], ◌∷◌, ◌++◌, map, slice_set, refl, ap, ap₂, ◌∙◌, pos}
use Rattle.std.specs.List.{All}
use Rattle.std.proofs.lemmas.List.{length-set, length-map, map-set}
use Rattle.std.proofs.lemmas.List.Elements.{All-head, All-tail}
use Rattle.fractions.specs.Number.{Number, rational, zero_ℚ, ◌+ℚ◌}
use Rattle.fractions.specs.Ring.{ring, v, num, ◌:+◌}
use Rattle.fractions.specs.declared.Numbers.{Numbers}
use Rattle.problem_model.specs.declared.line.Line.{Line}
use Rattle.problem_model.specs.declared.part.Part.{Part}
use Rattle.problem_model.specs.Edits.{deleted, losing, lines_without, lines_losing, row_deleted, column_deleted, line_put, lines_put}
use Rattle.problem_model.specs.Flags.{flags_of}
use Rattle.problem_model.specs.Matrices.{line_at}
use Rattle.problem_model.specs.Parts.{contents_of}
use Rattle.problem_model.specs.Problems.{IsSparse}
use Rattle.problem_model.specs.Showing.{shown}
use Rattle.problem_model.specs.Sparse.{Sparse}
use Rattle.problem_model.specs.Writing.{IsWritable}
use Rattle.problem_laws.proofs.AtIds.{losing_live}
use Rattle.problem_model.specs.Allowed.{AreAllowed, NoEntries, EntriesFirst}
use Rattle.problem_model.specs.Applied.{edited, applied}
use Rattle.problem_model.specs.Living.{flags_edited, all_flags_edited}
use Rattle.problem_model.specs.NewNumbers.{EditFits, EditIsWritten, EditsAreWritten, EditIsSided}
use Rattle.problem_model.specs.Offsets.{amount_of, added_by}
use Rattle.problem_model.specs.EditedPrograms.{programs_edited}
use Rattle.problem_model.specs.Touching.{touches, touched_by}
use Rattle.problem_model.specs.declared.edit.Edit.{Edit}
use Rattle.problem_model.specs.declared.edit.Edit.TheVariants.{DeleteRow, DeleteColumn, SetSides, SetBounds, AddOffset, SetCost, SetEntry}
use Rattle.problem_laws.proofs.Single.{sparse_edited, shown_edited}
use Rattle.edit_laws.specs.Sizes.{SameSize}
use Rattle.problem_laws.proofs.EntriesKept.{put_long}
use Rattle.edit_laws.proofs.Untouched.{stays_edited}
use Rattle.edit_laws.proofs.Writing.{writable_edited}

-- ---- sound
pub sparse_applied : (p : Sparse) (es : List Edit) → IsSparse p → AreAllowed p es → IsSparse (applied p es)
sparse_applied p [] s a = s
sparse_applied p (e ∷ es) s a = sparse_applied (edited p e) es (sparse_edited p e s a.0) a.1

-- ---- shown
pub shown_applied : (p : Sparse) (es : List Edit) → IsSparse p → AreAllowed p es → shown (applied p es) ≡ programs_edited (shown p) es
shown_applied p [] s a = refl
shown_applied p (e ∷ es) s a = shown_applied (edited p e) es (sparse_edited p e s a.0) a.1 ∙ ap (λ M. programs_edited M es) (shown_edited p e s a.0)

-- ---- the offset
adds_nothing : (o : Number) → o ≡ o +ℚ zero_ℚ
adds_nothing o = ring rational (o ∷ []) (v 0) (v 0 :+ num (pos 0)) refl

offset_edited : (p : Sparse) (e : Edit) → (edited p e).offset ≡ p.offset +ℚ amount_of e
offset_edited p (DeleteRow i) = adds_nothing p.offset
offset_edited p (DeleteColumn j) = adds_nothing p.offset
offset_edited p (SetSides i l u) = adds_nothing p.offset
offset_edited p (SetBounds j l u) = adds_nothing p.offset
offset_edited p (AddOffset k) = refl
offset_edited p (SetCost j c) = adds_nothing p.offset
offset_edited p (SetEntry i j w) = adds_nothing p.offset

pub offset_applied : (p : Sparse) (es : List Edit) → (applied p es).offset ≡ p.offset +ℚ added_by es
offset_applied p [] = adds_nothing p.offset
offset_applied p (e ∷ es) = offset_applied (edited p e) es ∙ ap (λ o. o +ℚ added_by es) (offset_edited p e)
    ∙ ring rational (p.offset ∷ amount_of e ∷ added_by es ∷ []) (v 0 :+ v 1 :+ v 2) (v 0 :+ (v 1 :+ v 2)) refl

-- ---- what is live
lives_losing : (others : List Line) (k : ℕ) (lines : List Line) → map (λ l. l.live) (lines_losing others lines k) ≡ map (λ l. l.live) lines
lives_losing others k [] = refl
lives_losing others k (l ∷ ls) = ap₂ ◌∷◌ (losing_live others k l) (lives_losing others k ls)

lives_without : (lines : List Line) (k : ℕ) → map (λ l. l.live) (lines_without lines k) ≡ slice_set (map (λ l. l.live) lines) k false
lives_without lines k = map-set (λ (l : Line). l.live) lines k (deleted (line_at lines k))

lives_same : (lines : List Line) (k : ℕ) → slice_set (map (λ l. l.live) lines) k (line_at lines k).live ≡ map (λ l. l.live) lines
lives_same [] k = refl
lives_same (l ∷ ls) zero = refl
lives_same (l ∷ ls) (suc k) = ap (λ bs. l.live ∷ bs) (lives_same ls k)

lives_put : (lines : List Line) (m k : ℕ) (a : Number) → map (λ l. l.live) (lines_put lines m k a) ≡ map (λ l. l.live) lines
lives_put lines m k a = map-set (λ (l : Line). l.live) lines m (line_put k a (line_at lines m)) ∙ lives_same lines m

flags_edit : (p : Sparse) (e : Edit) → flags_of (edited p e) ≡ flags_edited (flags_of p) e
flags_edit p (DeleteRow i) t = record { rows = lives_without p.matrix.rows i t; columns = lives_losing (row_deleted p i).matrix.rows i p.matrix.columns t }
flags_edit p (DeleteColumn j) t = record { rows = lives_losing (column_deleted p j).matrix.columns j p.matrix.rows t; columns = lives_without p.matrix.columns j t }
flags_edit p (SetSides i l u) t = flags_of p
flags_edit p (SetBounds j l u) t = flags_of p
flags_edit p (AddOffset k) t = flags_of p
flags_edit p (SetCost j c) t = flags_of p
flags_edit p (SetEntry i j a) t = record { rows = lives_put p.matrix.rows i j a t; columns = lives_put p.matrix.columns j i a t }

pub flags_applied : (p : Sparse) (es : List Edit) → flags_of (applied p es) ≡ all_flags_edited (flags_of p) es
flags_applied p [] = refl
flags_applied p (e ∷ es) = flags_applied (edited p e) es ∙ ap (λ f. all_flags_edited f es) (flags_edit p e)

-- ---- sizes
size_edited : (p : Sparse) (e : Edit) → SameSize p (edited p e)
size_edited p (DeleteRow i) = record { rows = length-set p.matrix.rows i _; columns = length-map p.matrix.columns (losing (row_deleted p i).matrix.rows i); constant = refl }
size_edited p (DeleteColumn j) = record { rows = length-map p.matrix.rows (losing (column_deleted p j).matrix.columns j); columns = length-set p.matrix.columns j _; constant = refl }
size_edited p (SetSides i l u) = record { rows = refl; columns = refl; constant = refl }
size_edited p (SetBounds j l u) = record { rows = refl; columns = refl; constant = refl }
size_edited p (AddOffset k) = record { rows = refl; columns = refl; constant = refl }
size_edited p (SetCost j c) = record { rows = refl; columns = refl; constant = refl }
size_edited p (SetEntry i j a) = record { rows = put_long p.matrix.rows i j a; columns = put_long p.matrix.columns j i a; constant = refl }

pub size_applied : (p : Sparse) (es : List Edit) → SameSize p (applied p es)
size_applied p [] = record { rows = refl; columns = refl; constant = refl }
size_applied p (e ∷ es) = let f = size_edited p e in let g = size_applied (edited p e) es in
    record { rows = g.rows ∙ f.rows; columns = g.columns ∙ f.columns; constant = g.constant ∙ f.constant }

-- ---- what is not touched
either : (a b : Bool) → (a || b) ≡ false → (a ≡ false) × (b ≡ false)
either false b h = (refl, h)
either true b h = absurd (let f = h in cc)

pub untouched_applied : (p : Sparse) (es : List Edit) (a : Part) → IsSparse p → AreAllowed p es → touched_by p es a ≡ false → contents_of (applied p es) a ≡ contents_of p a
untouched_applied p [] a s h n = refl
untouched_applied p (e ∷ es) a s h n =
    let m = either (touches p e a) (touched_by (edited p e) es a) n in
    untouched_applied (edited p e) es a (sparse_edited p e s h.0) h.1 m.1 ∙ stays_edited p e a s h.0 m.0

-- ---- writable
pub writable_applied : (numbers : Numbers) (p : Sparse) (es : List Edit) → IsSparse p → IsWritable numbers p → AreAllowed p es → All EditFits es → EditsAreWritten numbers es → All EditIsSided es → IsWritable numbers (applied p es)
writable_applied numbers p [] s w a f d h = w
writable_applied numbers p (e ∷ es) s w a f d h = writable_applied numbers (edited p e) es (sparse_edited p e s a.0)
    (writable_edited numbers p e s w a.0 (All-head EditFits e es f) (All-head (EditIsWritten numbers) e es d) (All-head EditIsSided e es h)) a.1
    (All-tail EditFits e es f) (All-tail (EditIsWritten numbers) e es d) (All-tail EditIsSided e es h)

-- ---- one list after the other
pub applied_more : (p : Sparse) (es fs : List Edit) → applied p (es ++ fs) ≡ applied (applied p es) fs
applied_more p [] fs = refl
applied_more p (e ∷ es) fs = applied_more (edited p e) es fs

pub allowed_more : (p : Sparse) (es fs : List Edit) → AreAllowed p es → AreAllowed (applied p es) fs → AreAllowed p (es ++ fs)
allowed_more p [] fs a b = b
allowed_more p (e ∷ es) fs a b = (a.0, allowed_more (edited p e) es fs a.1 b)

pub entries_first_none : (es : List Edit) → NoEntries es → EntriesFirst es
entries_first_none [] h = tt
entries_first_none (DeleteRow i ∷ es) h = h
entries_first_none (DeleteColumn j ∷ es) h = h
entries_first_none (SetSides i l u ∷ es) h = h
entries_first_none (SetBounds j l u ∷ es) h = h
entries_first_none (AddOffset k ∷ es) h = h
entries_first_none (SetCost j c ∷ es) h = h
entries_first_none (SetEntry i j a ∷ es) h = absurd h
