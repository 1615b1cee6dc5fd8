-- A solution's text that has no fault where few texts of numbers are read has none where more are read, and gives the same.
use Rattle.std.proofs.Common.{◌≡◌, ℕ, zero, suc, ◌+◌, Bool, true, false, cond, List, [], ◌∷◌, length, map, Option, Some, None, is_some, unwrap_or, refl, sym, ap, ap₂, ◌∙◌}
use Rattle.std.specs.Prelude.{Result, Ok, Err, option_map}
use Rattle.std.specs.Str.{bytes_eq}
use Rattle.fractions.specs.Number.{Number, zero_ℚ}
use Rattle.number_texts.specs.declared.reading.ReadNumber.{ReadNumber}
use Rattle.number_texts.specs.declared.reading.ReadNumber as reasons
use Rattle.exact_texts.specs.Texts.{Reading, Texts}
use Rattle.lp_model.specs.Names.{names_of_columns, names_of_rows}
use Rattle.lp_model.specs.ProgramData.{ProgramData}
use Rattle.text_lines.specs.Faults.{or_later}
use Rattle.text_lines.specs.Lines.{lines_of}
use Rattle.mps_profile.specs.Texts.{Text}
use Rattle.point_text.specs.Faults.{first_of, is_bad, is_past, is_unknown, line_fault_by}
use Rattle.point_text.specs.PairText.{column_lines, columns_fault_by, fault_after_by, given_to_by, or_else, row_lines, rows_fault_by, silent}
use Rattle.point_text.specs.Reading.{fault_from_by, said_from}
use Rattle.point_text.specs.SolutionLines.{Line, Silent, Gives, Odd, line_of}
use Rattle.point_text.specs.Values.{number_in, value_named_by}
use Rattle.point_text.specs.declared.faults.SolFaultKind.{SolFaultKind}
use Rattle.point_text.specs.declared.faults.SolFaultKind.TheVariants.{UnknownName, TwiceNamed, NumberPast, BadNumber}
use Rattle.whole_way.specs.Texts.{IsSolutionText}

-- ---- no fault
passes : (a b c d : Bool) → first_of ((a, UnknownName) ∷ (b, TwiceNamed) ∷ (c, NumberPast) ∷ (d, BadNumber) ∷ []) ≡ None → (c ≡ false) × (d ≡ false)
passes true b c d e = absurd (let f : Some UnknownName ≡ None = e in cc)
passes false true c d e = absurd (let f : Some TwiceNamed ≡ None = e in cc)
passes false false true d e = absurd (let f : Some NumberPast ≡ None = e in cc)
passes false false false true e = absurd (let f : Some BadNumber ≡ None = e in cc)
passes false false false false e = (refl, refl)

none_later : (o : Option SolFaultKind) (n : ℕ) (later : Option (SolFaultKind × ℕ)) → or_later o n later ≡ None → (o ≡ None) × (later ≡ None)
none_later None n later e = (refl, e)
none_later (Some k) n later e = absurd (let f : Some (k, n) ≡ None = e in cc)

none_else : (o other : Option (SolFaultKind × ℕ)) → or_else o other ≡ None → (o ≡ None) × (other ≡ None)
none_else None other e = (refl, e)
none_else (Some k) other e = absurd (let f : Some k ≡ None = e in cc)

-- ---- two readings, of which the second reads what the first one does
module _ (r s : Reading) (more : (bytes : List ℕ) (q : Number) → r bytes ≡ Ok q → s bytes ≡ Ok q) where
  read_too : (number : List ℕ) (n : Result Number ReadNumber) → r number ≡ n → is_past n ≡ false → is_bad n ≡ false → s number ≡ r number
  read_too number (Ok q) e past bad = more number q e ∙ sym e
  read_too number (Err reasons.TheVariants.NotNumber) e past bad = absurd (let f : true ≡ false = bad in cc)
  read_too number (Err reasons.TheVariants.NumberPast) e past bad = absurd (let f : true ≡ false = past in cc)

  -- the number of a line is the same by both
  abbrev IsSame : Line → Type 0
  IsSame Silent = Unit {0}
  IsSame (Gives name number) = s number ≡ r number
  IsSame Odd = Unit {0}

  abbrev AreSame : List Text → Type 0
  AreSame [] = Unit {0}
  AreSame (line ∷ after) = IsSame (line_of line) × AreSame after

  -- lines give names the same
  abbrev Alike : List Line → Type 0
  Alike before = (name : Text) → value_named_by s before name ≡ value_named_by r before name

  -- without a fault the numbers are the same
  line_same : (names : List Text) (before : List Line) (line : Line) → line_fault_by r names before line ≡ None → IsSame line
  line_same names before Silent e = tt
  line_same names before (Gives name number) e =
      let p = passes (is_unknown names name) (is_some (value_named_by r before name)) (is_past (r number)) (is_bad (r number)) e in
      read_too number (r number) refl p.0 p.1
  line_same names before Odd e = tt

  lines_same : (names lines : List Text) (before : List Line) → fault_from_by r names before lines ≡ None → AreSame lines
  lines_same names [] before e = tt
  lines_same names (line ∷ after) before e =
      let parts = none_later (line_fault_by r names before (line_of line)) (length before + 1) (fault_from_by r names (line_of line ∷ before) after) e in
      (line_same names before (line_of line) parts.0, lines_same names after (line_of line ∷ before) parts.1)

  -- and so are what the lines give and the first fault
  with_line : (before : List Line) (line : Line) → Alike before → IsSame line → Alike (line ∷ before)
  with_line before Silent a same = a
  with_line before (Gives first number) a same = λ name. ap₂ (λ (n : Result Number ReadNumber) (o : Option Number). cond (bytes_eq first name) (Some (number_in n)) o) same (a name)
  with_line before Odd a same = a

  said_alike : (lines : List Text) (before : List Line) → Alike before → AreSame lines → Alike (said_from before lines)
  said_alike [] before a same = a
  said_alike (line ∷ after) before a same = said_alike after (line_of line ∷ before) (with_line before (line_of line) a same.0) same.1

  line_alike : (names : List Text) (before : List Line) (line : Line) → Alike before → IsSame line → line_fault_by s names before line ≡ line_fault_by r names before line
  line_alike names before Silent a same = refl
  line_alike names before (Gives name number) a same =
      ap₂ (λ (n : Result Number ReadNumber) (o : Option Number). first_of ((is_unknown names name, UnknownName) ∷ (is_some o, TwiceNamed) ∷ (is_past n, NumberPast) ∷ (is_bad n, BadNumber) ∷ [])) same (a name)
  line_alike names before Odd a same = refl

  fault_alike : (names lines : List Text) (before : List Line) → Alike before → AreSame lines → fault_from_by s names before lines ≡ fault_from_by r names before lines
  fault_alike names [] before a same = refl
  fault_alike names (line ∷ after) before a same =
      ap₂ (λ (o : Option SolFaultKind) (later : Option (SolFaultKind × ℕ)). or_later o (length before + 1) later) (line_alike names before (line_of line) a same.0)
      (fault_alike names after (line_of line ∷ before) (with_line before (line_of line) a same.0) same.1)

  given_alike : (names lines : List Text) → AreSame lines → given_to_by s names lines ≡ given_to_by r names lines
  given_alike names lines same = ap (λ (f : Text → Option Number). map (λ name. unwrap_or (f name) zero_ℚ) names) (λ t name. said_alike lines [] (λ other. refl) same name t)

  -- ---- columns, and rows after them
  silent_alike : (n : ℕ) → Alike (silent n)
  silent_alike zero = λ name. refl
  silent_alike (suc n) = silent_alike n

  rows_alike : (names : List Text) (n : ℕ) (lines : Option (List Text)) → fault_after_by r names n lines ≡ None
      → (fault_after_by s names n lines ≡ None) × (option_map (given_to_by s names) lines ≡ option_map (given_to_by r names) lines)
  rows_alike names n None e = (refl, refl)
  rows_alike names n (Some lines) e =
      let same = lines_same names lines (silent n) e in
      (fault_alike names lines (silent n) (silent_alike n) same ∙ e, ap (λ (ys : List Number). Some ys) (given_alike names lines same))

  both_alike : (columns rows : List Text) (lines : List Text) → or_else (columns_fault_by r columns lines) (rows_fault_by r rows lines) ≡ None
      → (or_else (columns_fault_by s columns lines) (rows_fault_by s rows lines) ≡ None)
      × (given_to_by s columns (column_lines lines) ≡ given_to_by r columns (column_lines lines))
      × (option_map (given_to_by s rows) (row_lines lines) ≡ option_map (given_to_by r rows) (row_lines lines))
  both_alike columns rows lines e =
      let parts = none_else (columns_fault_by r columns lines) (rows_fault_by r rows lines) e in
      let same = lines_same columns (column_lines lines) [] parts.0 in
      let after = rows_alike rows (length (column_lines lines) + 1) (row_lines lines) parts.1 in
      let none : columns_fault_by s columns lines ≡ None = fault_alike columns (column_lines lines) [] (λ name. refl) same ∙ parts.0 in
      (ap₂ or_else none after.0, given_alike columns (column_lines lines) same, after.1)

pub read_alike : (t u : Texts) → ((bytes : List ℕ) (q : Number) → t.reading bytes ≡ Ok q → u.reading bytes ≡ Ok q) → (program : ProgramData) (text : List ℕ) (point : List Number) (duals : Option (List Number))
    → IsSolutionText t program text point duals → IsSolutionText u program text point duals
read_alike t u more program text point duals h =
    let a = both_alike t.reading u.reading more (names_of_columns program.columns) (names_of_rows program.rows) (lines_of text) h.sound in
    record { sound = a.0; same = a.1 ∙ h.same; same_duals = a.2 ∙ h.same_duals }
