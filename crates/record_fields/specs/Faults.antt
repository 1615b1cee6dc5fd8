-- Faults of a record's line. The one with the lowest number counts.
use Rattle.std.specs.Prelude.{Bool, Option, Some, None, if◌then◌else◌}
use Rattle.record_fields.specs.declared.faults.LineFault.{LineFault}
use Rattle.record_fields.specs.declared.faults.LineFault.TheVariants.{BadLine, BadId, NumberPast}

-- a fault where something doesn't hold
abbrev pub unless : Bool → LineFault → Option LineFault
unless holds fault = if holds then None else Some fault

-- of two faults the one with the lower number
abbrev pub lower : Option LineFault → Option LineFault → Option LineFault
lower None other = other
lower (Some BadLine) other = Some BadLine
lower (Some BadId) (Some BadLine) = Some BadLine
lower (Some BadId) other = Some BadId
lower (Some NumberPast) None = Some NumberPast
lower (Some NumberPast) (Some other) = Some other
