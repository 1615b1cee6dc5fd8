-- Names with numbers that can be written and read again.
use Rattle.std.specs.Prelude.{◌≡◌, List, length, All}
use Rattle.fractions.specs.Number.{Number}
use Rattle.fractions.specs.Lowest.{Fits}
use Rattle.lp_model.specs.Names.{Differ}
use Rattle.mps_profile.specs.Texts.{Text}
use Rattle.point_text.specs.PlainNames.{Plain}

-- the names are plain and differ, and each has a number that is short enough to be read again
pub record AreNumberedBy (IsShort : Number → Type 0) (names : List Text) (values : List Number) : Type 0 where
  pub plain : All Plain names
  pub differ : Differ names
  pub long : length values ≡ length names
  pub fits : All IsShort values

-- the names are plain and differ, and each has a number that has room in a `Frac`
abbrev pub AreNumbered : List Text → List Number → Type 0
AreNumbered names values = AreNumberedBy Fits names values
