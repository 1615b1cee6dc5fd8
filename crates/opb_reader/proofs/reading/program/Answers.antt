use Rattle.std.proofs.Common.{◌∙◌, ap, refl, subst, sym}
use Rattle.std.specs.Prelude.{All}
use Rattle.fractions.specs.Number.{of_ℤ}
use Rattle.lp_model.specs.Name.{IsName}
use Rattle.mps_assembly.proofs.Assembling.{named_along, program_is}
use Rattle.opb_laws.proofs.Named.{all_names}
use Rattle.opb_reader.proofs.reading.program.Goals as goal

pub into_definitions-requires : goal.into_definitions-requires
into_definitions-requires c =
    let h = c.requires.1 in
    subst (All IsName) (all_names c.requires.0 ∙ sym h.columns.named) c.requires.2.column_names

pub new-requires : goal.new-requires
new-requires c =
    let h = c.requires.1 in
    named_along _ _ _ _ _ _ c.in_ok-from_slice.ensures h.rows.rows (c.in_ok-columns.ensures _ _ _ _ h.columns) c.requires.2

pub returns : goal.returns
returns c = λ tokens h.
    c.new.ensures ∙ program_is refl c.in_ok-from_slice.ensures (c.whole.ensures.value ∙ ap of_ℤ h.rows.constant) h.rows.rows (c.in_ok-columns.ensures _ _ _ _ h.columns)
