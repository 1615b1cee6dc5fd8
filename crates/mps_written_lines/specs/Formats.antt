-- How a text is read.
use Rattle.fractions.specs.declared.Numbers.{Numbers}
use Rattle.mps_profile.specs.declared.dialect.Dialect.{Dialect}
use Rattle.mps_profile.specs.declared.dialect.Format.TheVariants.{Free}

-- in free format
abbrev pub free_format : Numbers → Dialect
free_format numbers = record { format = Free; numbers = numbers }
