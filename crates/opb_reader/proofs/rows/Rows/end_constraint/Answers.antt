use Rattle.std.proofs.Common.{◌∙◌, ◌++◌, ℤ, List, refl, ap, ap₂, reverse, None, Option}
use Rattle.fractions.specs.Number.{Number}
use Rattle.mps_profile.specs.Sides.{sides_of}
use Rattle.mps_profile.specs.Program.{kind_at, row_defs_at}
use Rattle.mps_profile.specs.Texts.{Text}
use Rattle.mps_profile.specs.declared.row_kinds.RowKind.{RowKind}
use Rattle.opb_text.specs.Statements.{left_of}
use Rattle.opb_reader.proofs.HeldRows.{constraint_ends, counted}
use Rattle.opb_reader.proofs.rows.Rows.end_constraint.Goals as goal

pub returns-clause-held : goal.returns-clause-held
returns-clause-held c = λ tokens h last some few is.
    constraint_ends tokens c.in-Ok.left c.args.self.now _ h some (c.in-Ok.ensures.1 ∙ ap₂ (λ (z : ℤ) (ns : List ℤ). left_of z (reverse ns)) last c.as_slice.ensures.value) refl
    (c.in_ok-add_row.ensures ∙ ap₂ (λ (name : Text) (sides : Option (Option Number × Option Number)). c.args.self.now.rows.items ++ row_defs_at name sides)
    (c.as_bytes.ensures.bytes ∙ c.in_ok-name.ensures)
    (c.sides.ensures ∙ ap₂ (λ (kind : RowKind) (side : Number). sides_of kind side None) (c.kind_at-kind.ensures ∙ ap (λ (kinds : List RowKind). kind_at kinds c.args.self.now.current) c.as_slice-2.ensures.value) c.whole.ensures.value))
    (c.saturating_add-self.ensures ∙ counted _ _ h.current few) refl c.clear.ensures.items
