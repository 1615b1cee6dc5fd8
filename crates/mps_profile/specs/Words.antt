-- What the words of a text name.
use Rattle.std.specs.Prelude.{◌||◌, ℕ, Bool, List, [], ◌∷◌, codes, Option, Some, None, if◌then◌else◌}
use Rattle.std.specs.List.{list_any}
use Rattle.std.specs.Str.{bytes_eq}
use Rattle.lp_model.specs.declared.program.Sense.{Sense}
use Rattle.lp_model.specs.declared.program.Sense.TheVariants.{Min, Max}
use Rattle.mps_profile.specs.declared.sections.Section.{Section}
use Rattle.mps_profile.specs.declared.sections.Section.TheVariants.{Name, Objsense, Rows, Columns, Rhs, Ranges, Bounds, Endata}
use Rattle.mps_profile.specs.declared.row_kinds.RowKind.{RowKind}
use Rattle.mps_profile.specs.declared.row_kinds.RowKind as kinds
use Rattle.mps_profile.specs.declared.bounds.BoundType.{BoundType}
use Rattle.mps_profile.specs.declared.bounds.BoundType as types
use Rattle.mps_profile.specs.declared.bounds.Valued as valued
use Rattle.mps_profile.specs.declared.bounds.Bare as bare

abbrev pub section_named : List ℕ → Option Section
section_named word =
    if bytes_eq word (codes "NAME") then Some Name
    else if bytes_eq word (codes "OBJSENSE") then Some Objsense
    else if bytes_eq word (codes "ROWS") then Some Rows
    else if bytes_eq word (codes "COLUMNS") then Some Columns
    else if bytes_eq word (codes "RHS") then Some Rhs
    else if bytes_eq word (codes "RANGES") then Some Ranges
    else if bytes_eq word (codes "BOUNDS") then Some Bounds
    else if bytes_eq word (codes "ENDATA") then Some Endata
    else None

abbrev pub sense_named : List ℕ → Option Sense
sense_named word =
    if bytes_eq word (codes "MIN") || bytes_eq word (codes "MINIMIZE") then Some Min
    else if bytes_eq word (codes "MAX") || bytes_eq word (codes "MAXIMIZE") then Some Max
    else None

-- N is the objective or a free row, L at most, G at least, E equal
abbrev pub kind_named : List ℕ → Option RowKind
kind_named word =
    if bytes_eq word (codes "N") then Some kinds.TheVariants.Free
    else if bytes_eq word (codes "L") then Some kinds.TheVariants.AtMost
    else if bytes_eq word (codes "G") then Some kinds.TheVariants.AtLeast
    else if bytes_eq word (codes "E") then Some kinds.TheVariants.Equal
    else None

abbrev pub type_named : List ℕ → Option BoundType
type_named word =
    if bytes_eq word (codes "LO") then Some (types.TheVariants.Valued valued.TheVariants.Lower)
    else if bytes_eq word (codes "UP") then Some (types.TheVariants.Valued valued.TheVariants.Upper)
    else if bytes_eq word (codes "FX") then Some (types.TheVariants.Valued valued.TheVariants.Fixed)
    else if bytes_eq word (codes "LI") then Some (types.TheVariants.Valued valued.TheVariants.WholeLower)
    else if bytes_eq word (codes "UI") then Some (types.TheVariants.Valued valued.TheVariants.WholeUpper)
    else if bytes_eq word (codes "SC") then Some (types.TheVariants.Valued valued.TheVariants.SemiContinuous)
    else if bytes_eq word (codes "FR") then Some (types.TheVariants.Bare bare.TheVariants.Free)
    else if bytes_eq word (codes "MI") then Some (types.TheVariants.Bare bare.TheVariants.NoLower)
    else if bytes_eq word (codes "PL") then Some (types.TheVariants.Bare bare.TheVariants.NoUpper)
    else if bytes_eq word (codes "BV") then Some (types.TheVariants.Bare bare.TheVariants.Binary)
    else None

-- the sections of other profiles, which are refused by name
abbrev pub refused_sections : List (List ℕ)
refused_sections =
    codes "QUADOBJ" ∷ codes "QMATRIX" ∷ codes "QCMATRIX" ∷ codes "QSECTION" ∷ codes "CSECTION" ∷ codes "SOS"
    ∷ codes "INDICATORS" ∷ codes "LAZYCONS" ∷ codes "USERCUTS" ∷ codes "BRANCH" ∷ codes "OBJNAME" ∷ []

abbrev pub is_refused : List ℕ → Bool
is_refused word = list_any (bytes_eq word) refused_sections
