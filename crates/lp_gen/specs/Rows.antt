-- Rows by their type, the sum of their coefficients, and a draw.
use Rattle.std.specs.Prelude.{ℕ, zero, suc, ◌+◌, ◌++◌, codes, pos, ◌-ℤ◌, Option, Some, None}
use Rattle.std.specs.Fmt.{decimal}
use Rattle.fractions.specs.Number.{Number, of_ℤ}
use Rattle.lp_model.specs.declared.program.RowDef.{RowDef}
use Rattle.lp_gen.specs.declared.rows.RowKind.{RowKind}
use Rattle.lp_gen.specs.declared.rows.RowKind.TheVariants.{AtMost, AtLeast, Equal}
use Rattle.lp_gen.specs.Columns.{whole}

-- the type that a draw of three means
abbrev pub kind_of : ℕ → RowKind
kind_of zero = AtMost
kind_of (suc zero) = AtLeast
kind_of (suc (suc n)) = Equal

-- the lower side of a row whose coefficients have the sum q and for which e was drawn: q less e for G
abbrev pub lower_side : RowKind → ℕ → ℕ → Option Number
lower_side AtMost q e = None
lower_side AtLeast q e = Some (of_ℤ (pos q -ℤ pos e))
lower_side Equal q e = Some (whole q)

-- its upper side: q and e for L
abbrev pub upper_side : RowKind → ℕ → ℕ → Option Number
upper_side AtMost q e = Some (whole (q + e))
upper_side AtLeast q e = None
upper_side Equal q e = Some (whole q)

-- the row with number i
abbrev pub row_with : ℕ → RowKind → ℕ → ℕ → RowDef
row_with i kind q e = record { name = codes "R" ++ decimal i; lower = lower_side kind q e; upper = upper_side kind q e }
