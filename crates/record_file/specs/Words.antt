-- The words of a line in the record text.
use Rattle.std.specs.Prelude.{ℕ, List, [], ◌∷◌, ◌++◌, length, Option, Some, None, Bool, true, false, ◌==◌, if◌then◌else◌, codes}
use Rattle.std.specs.Fmt.{decimal, signed_decimal}
use Rattle.fractions.specs.Number.{Number}
use Rattle.fractions.specs.Lowest.{over_of, under_of}
use Rattle.lp_model.specs.declared.program.Sense.{Sense}
use Rattle.lp_model.specs.declared.program.Sense.TheVariants.{Min, Max}
use Rattle.lp_model.specs.declared.terms.Term.{Term}
use Rattle.problem_model.specs.declared.part.Part.{Part}
use Rattle.problem_model.specs.declared.part.Part.TheVariants.{Row, Sides, Col, Bounds}
use Rattle.undo_records.specs.declared.side.Side.{Side}
use Rattle.undo_records.specs.declared.side.Side.TheVariants.{Lower, Upper}
use Rattle.undo_records.specs.declared.side.RowFate.{RowFate}
use Rattle.undo_records.specs.declared.side.RowFate.TheVariants.{Kept, Dropped}
use Rattle.record_values.specs.declared.version.TextVersion.{TextVersion}
use Rattle.record_values.specs.declared.version.TextVersion.TheVariants.{First, Second}

-- n, or n/d in lowest terms
abbrev pub ratio_word : Number → List ℕ
ratio_word q = signed_decimal (over_of q) ++ (if under_of q == 1 then [] else 47 ∷ decimal (under_of q))

abbrev pub lower_word : Option Number → List ℕ
lower_word None = codes "-inf"
lower_word (Some q) = ratio_word q

abbrev pub upper_word : Option Number → List ℕ
upper_word None = codes "inf"
upper_word (Some q) = ratio_word q

abbrev pub sense_word : Sense → List ℕ
sense_word Min = codes "min"
sense_word Max = codes "max"

-- whether the records undo duals too
abbrev pub duals_word : Bool → List ℕ
duals_word true = codes "yes"
duals_word false = codes "no"

-- a side of a row
abbrev pub letter_word : Side → List ℕ
letter_word Lower = codes "L"
letter_word Upper = codes "U"

-- a bound of a column: which one it is, and its number
abbrev pub side_word : Side → List ℕ
side_word Lower = codes "lower"
side_word Upper = codes "upper"

abbrev pub bound_word : Side → Option Number → List ℕ
bound_word Lower b = lower_word b
bound_word Upper b = upper_word b

-- what became of a row
abbrev pub fate_word : RowFate → List ℕ
fate_word Kept = codes "keep"
fate_word Dropped = codes "drop"

-- a label: whether it is live, and its name
abbrev pub live_word : Bool → List ℕ
live_word true = codes "live"
live_word false = codes "gone"

-- pairs of an id and a value
abbrev pub pair_words : List Term → List (List ℕ)
pair_words [] = []
pair_words (t ∷ ts) = decimal t.id ∷ ratio_word t.value ∷ pair_words ts

-- how many pairs there are, and the pairs
abbrev pub list_words : List Term → List (List ℕ)
list_words ts = decimal (length ts) ∷ pair_words ts

-- a version of the text
abbrev pub version_word : TextVersion → List ℕ
version_word First = codes "1"
version_word Second = codes "2"

-- the kind of a part
abbrev pub kind_word : Part → List ℕ
kind_word (Row i) = codes "row"
kind_word (Sides i) = codes "sides"
kind_word (Col j) = codes "col"
kind_word (Bounds j) = codes "bounds"

-- a part: its kind, and the id of its row or column
abbrev pub part_words : Part → List (List ℕ)
part_words (Row i) = codes "row" ∷ decimal i ∷ []
part_words (Sides i) = codes "sides" ∷ decimal i ∷ []
part_words (Col j) = codes "col" ∷ decimal j ∷ []
part_words (Bounds j) = codes "bounds" ∷ decimal j ∷ []
