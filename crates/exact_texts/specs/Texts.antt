-- How numbers of a kind are read and written.
use Rattle.std.specs.Prelude.{◌≡◌, ℕ, ◌<◌, List, length, All, Result, Ok, Err}
use Rattle.fractions.specs.Number.{Number}
use Rattle.fractions.specs.Lowest.{Fits}
use Rattle.fractions.specs.declared.Numbers.TheVariants.{Fractions}
use Rattle.number_texts.specs.declared.reading.ReadNumber.{ReadNumber}
use Rattle.number_texts.specs.Read.{read_of}
use Rattle.number_texts.specs.Written.{written}

-- what texts of numbers mean
abbrev pub Reading : Type 0
Reading = List ℕ → Result Number ReadNumber

-- the texts of numbers
abbrev pub Writing : Type 0
Writing = Number → List ℕ

-- how numbers of a kind are read and written, and which are written so shortly that they are read again
pub record Texts : Type 1 where
  pub reading : Reading
  pub writing : Writing
  pub IsShort : Number → Type 0

-- what is written of a number that is short enough is read as that number
abbrev pub ReadsAgain : Texts → Type 0
ReadsAgain t = (q : Number) → t.IsShort q → t.reading (t.writing q) ≡ Ok q

-- what is written of such a number has at least one byte, and each of them is above the space
abbrev pub IsField : Texts → Type 0
IsField t = (q : Number) → t.IsShort q → (0 < length (t.writing q)) × All (λ b. 32 < b) (t.writing q)

-- the number of what was read, or why none was
abbrev pub result_by : {T : Type 0} → (T → Number) → Result T ReadNumber → Result Number ReadNumber
result_by number (Ok r) = Ok (number r)
result_by number (Err reason) = Err reason

-- ---- a `Frac`
abbrev pub frac_texts : Texts
frac_texts = record { reading = read_of Fractions; writing = written; IsShort = Fits }
