-- The widths of rows that can be written have room.
use Rattle.std.proofs.Common.{List, [], ◌∷◌, Option, Some, None}
use Rattle.std.specs.List.{All}
use Rattle.std.proofs.lemmas.List.Elements.{All-head, All-tail}
use Rattle.fractions.specs.declared.Numbers.{Numbers}
use Rattle.fractions.specs.Number.{Number}
use Rattle.lp_model.specs.declared.program.RowDef.{RowDef}
use Rattle.lp_model.specs.ProgramData.{ProgramData}
use Rattle.lp_model.specs.Writable.{WritableSides, WritableRow, Writable}
use Rattle.mps_writer.specs.MpsText.{WidthFitsBy, WidthsFit}

width_fits : (numbers : Numbers) (l u : Option Number) → WritableSides numbers l u → WidthFitsBy l u
width_fits numbers None u h = tt
width_fits numbers (Some l) None h = tt
width_fits numbers (Some l) (Some u) h = λ m. (h.width m).width_fits

each_fits : (numbers : Numbers) (rows : List RowDef) → All (WritableRow numbers) rows → WidthsFit rows
each_fits numbers [] h = tt
each_fits numbers (r ∷ rs) h = (width_fits numbers r.lower r.upper (All-head (WritableRow numbers) r rs h), each_fits numbers rs (All-tail (WritableRow numbers) r rs h))

pub widths_fit : (numbers : Numbers) (p : ProgramData) → Writable numbers p → WidthsFit p.rows
widths_fit numbers p w = each_fits numbers p.rows w.rows
