-- The format in which a line was split.
use Rattle.std.specs.Prelude.{Option, Some, None}
use Rattle.mps_profile.specs.declared.dialect.Format.{Format}
use Rattle.mps_profile.specs.declared.dialect.Format.TheVariants.{Free, Fixed}
use Rattle.mps_cards.specs.declared.column_texts.ColumnTexts.{ColumnTexts}

-- it is the fixed one where there are fields by columns
abbrev pub format_of : Option ColumnTexts → Format
format_of None = Free
format_of (Some texts) = Fixed
