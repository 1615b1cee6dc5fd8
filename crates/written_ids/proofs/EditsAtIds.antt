-- Edits at other ids: their numbers are the same.
use Rattle.std.proofs.Common.{◌≡◌, ◌↔◌, List, [], ◌∷◌, get_or, map, subst, sym}
use Rattle.fractions.specs.Number.{Number, ◌+ℚ◌}
use Rattle.fractions.specs.declared.Numbers.{Numbers}
use Rattle.problem_model.specs.declared.edit.Edit.{Edit}
use Rattle.problem_model.specs.declared.edit.Edit.TheVariants.{AddOffset, SetSides}
use Rattle.problem_model.specs.NewNumbers.{EditFits, EditIsWritten, EditsAreWritten, EditsFit}
use Rattle.problem_model.specs.Offsets.{OffsetFits}
use Rattle.problem_model.specs.Sparse.{Sparse}
use Rattle.written_ids.specs.NewIds.{Ids}
use Rattle.written_ids.proofs.Lists.{all_both}
use Rattle.written_ids.proofs.NewIds.{edit_at}

module _ (n : Ids) where
  edit_fits : (e : Edit) → EditFits e ↔ EditFits (edit_at n e)
  edit_fits (SetSides i l u) = (λ h. h, λ h. h)
  edit_fits e = (λ h. h, λ h. h)

  edit_written : (numbers : Numbers) (e : Edit) → EditIsWritten numbers e ↔ EditIsWritten numbers (edit_at n e)
  edit_written numbers (SetSides i l u) = (λ h. h, λ h. h)
  edit_written numbers e = (λ h. h, λ h. h)

  offset_fits : (o : Number) (es : List Edit) → OffsetFits o es ↔ OffsetFits o (map (edit_at n) es)
  offset_fits o [] = (λ h. h, λ h. h)
  offset_fits o (AddOffset k ∷ es) = let others = offset_fits (o +ℚ k) es in (λ h. (h.0, others.0 h.1), λ h. (h.0, others.1 h.1))
  offset_fits o (e ∷ es) = offset_fits o es

  pub edits_written : (numbers : Numbers) (es : List Edit) → EditsAreWritten numbers es ↔ EditsAreWritten numbers (map (edit_at n) es)
  edits_written numbers es = all_both (EditIsWritten numbers) (EditIsWritten numbers) (edit_at n) es (λ k d l. edit_written numbers (get_or es k d))

  -- on problems with the same offset
  pub edits_fit : (p q : Sparse) → q.offset ≡ p.offset → (es : List Edit) → EditsFit p es ↔ EditsFit q (map (edit_at n) es)
  edits_fit p q e es =
      let each = all_both EditFits EditFits (edit_at n) es (λ k d l. edit_fits (get_or es k d)) in
      let sums = offset_fits p.offset es in (
        λ h. record { each = each.0 h.each; offset = subst (λ (o : Number). OffsetFits o (map (edit_at n) es)) (sym e) (sums.0 h.offset) },
        λ h. record { each = each.1 h.each; offset = sums.1 (subst (λ (o : Number). OffsetFits o (map (edit_at n) es)) e h.offset) },
      )
