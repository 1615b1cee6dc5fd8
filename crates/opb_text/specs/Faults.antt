-- The numbers of the faults.
use Rattle.std.specs.Prelude.{ℕ, nat_le, Option, Some, None, if◌then◌else◌}
use Rattle.opb_text.specs.declared.faults.OpbFaultKind.{OpbFaultKind}
use Rattle.opb_text.specs.declared.faults.OpbFaultKind.TheVariants.{BadToken, NumberPast, Product, NoEnd, BadStatement}

abbrev pub number_of_kind : OpbFaultKind → ℕ
number_of_kind BadToken = 1
number_of_kind NumberPast = 2
number_of_kind Product = 3
number_of_kind NoEnd = 4
number_of_kind BadStatement = 5

-- the one with the lower number
abbrev pub lesser : OpbFaultKind → OpbFaultKind → OpbFaultKind
lesser kind other = if nat_le (number_of_kind kind) (number_of_kind other) then kind else other

-- the one with the lower number of two, where there are two
abbrev pub least : Option OpbFaultKind → Option OpbFaultKind → Option OpbFaultKind
least None other = other
least (Some kind) None = Some kind
least (Some kind) (Some other) = Some (lesser kind other)
