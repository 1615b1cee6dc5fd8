-- What can be written can be written with fractions.
use Rattle.std.proofs.Common.{Option, Some, None, IfSome}
use Rattle.std.proofs.lemmas.List.Elements.{All-weaker}
use Rattle.fractions.specs.Number.{Number, ◌-ℚ◌}
use Rattle.fractions.specs.declared.Numbers.{Numbers}
use Rattle.fractions.specs.declared.Numbers.TheVariants.{Decimal, Fractions}
use Rattle.lp_model.specs.declared.program.RowDef.{RowDef}
use Rattle.lp_model.specs.declared.program.ColumnDef.{ColumnDef}
use Rattle.lp_model.specs.declared.terms.Term.{Term}
use Rattle.lp_model.specs.ProgramData.{ProgramData}
use Rattle.lp_model.specs.Writable.{Writable, WritableBound, WritableColumn, WritableNumber, WritableRow, WritableSides, WritableWidth}

number : (n : Numbers) (q : Number) → WritableNumber n q → WritableNumber Fractions q
number Decimal q h = h.0
number Fractions q h = h

width : (n : Numbers) (l u : Number) → WritableWidth n l u → WritableWidth Fractions l u
width n l u h = record { width_fits = h.width_fits; sum_fits = h.sum_fits; width = number n (u -ℚ l) h.width }

sides : (n : Numbers) (l u : Option Number) → WritableSides n l u → WritableSides Fractions l u
sides n None None h = h
sides n (Some l) None h = number n l h
sides n None (Some u) h = number n u h
sides n (Some l) (Some u) h = record {
  lower_number = number n l h.lower_number;
  upper_number = number n u h.upper_number;
  ascends = h.ascends;
  width = λ d. width n l u (h.width d);
}

bound : (n : Numbers) (o : Option Number) → IfSome o (WritableBound n) → IfSome o (WritableBound Fractions)
bound n None h = tt
bound n (Some q) h = (number n q h.0, h.1)

column : (n : Numbers) (c : ColumnDef) → WritableColumn n c → WritableColumn Fractions c
column n c h = record {
  cost = number n c.cost h.cost;
  lower = bound n c.lower h.lower;
  upper = bound n c.upper h.upper;
  entries = All-weaker (λ (t : Term). WritableNumber n t.value) (λ (t : Term). WritableNumber Fractions t.value) (λ t k. number n t.value k) c.entries h.entries;
}

pub with_fractions : (n : Numbers) (p : ProgramData) → Writable n p → Writable Fractions p
with_fractions n p h = record {
  constant = number n p.constant h.constant;
  rows = All-weaker (WritableRow n) (WritableRow Fractions) (λ (r : RowDef) k. sides n r.lower r.upper k) p.rows h.rows;
  columns = All-weaker (WritableColumn n) (WritableColumn Fractions) (λ (c : ColumnDef) k. column n c k) p.columns h.columns;
}
