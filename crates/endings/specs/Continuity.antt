-- What is said where no column may have to be whole, and one has to be.
use Rattle.std.specs.Prelude.{◌≡◌, ℕ, List, [], ◌∷◌, ◌++◌, codes}
use Rattle.lp_model.specs.ProgramData.{ProgramData}
use Rattle.lp_model.specs.Meaning.{meaning}
use Rattle.lp_check.specs.FirstNotContinuous.{IsFirstNotContinuous}
use Rattle.endings.specs.ProgramTexts.{column_text}

-- the line that names a column that has to be whole or is semi-continuous
abbrev pub not_continuous_text : ProgramData → ℕ → List ℕ
not_continuous_text program j = codes "not continuous: " ++ (column_text program j ++ 10 ∷ [])

-- this line names the first column of a program that has to be whole or is semi-continuous
pub record NamesFirstNotContinuous (program : ProgramData) (said : List ℕ) : Type 0 where
  pub column : ℕ
  pub whole : IsFirstNotContinuous (meaning program) column
  pub line : said ≡ not_continuous_text program column
