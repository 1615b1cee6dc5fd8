-- How far the reading of a text has come.
use Rattle.std.specs.Prelude.{◌≡◌, ◌≤◌, ◌+◌, ℕ, List, length}
use Rattle.text_lines.specs.Lines.{lines_of}
use Rattle.mps_profile.specs.Texts.{Text}
use Rattle.mps_profile.specs.Reading.{fault_from, read_from, first_fault, lines_read}
use Rattle.mps_profile.specs.declared.dialect.Dialect.{Dialect}

-- so many lines were read, the nearest first, and the rest of the text has its fault and its lines
pub record Going (dialect : Dialect) (text rest : List ℕ) (number : ℕ) (before : List Text) : Type 0 where
  pub count : number ≡ length before
  pub fault : fault_from dialect before (lines_of rest) ≡ first_fault dialect text
  pub read : read_from dialect before (lines_of rest) ≡ lines_read dialect text
  pub few : number + length rest ≤ length text
