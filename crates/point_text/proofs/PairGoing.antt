-- What holds at each line of a solution with duals, up to the line of the duals.
use Rattle.std.proofs.Common.{◌≡◌, ℕ, ◌+◌, List, [], ◌∷◌, length, true, false, cond, Option, Some, None, refl, sym, ap, ◌∙◌, subst, arith}
use Rattle.fractions.specs.Number.{Number, zero_ℚ}
use Rattle.std.specs.Prelude.{map, unwrap_or, Err, MatchOption}
use Rattle.exact_texts.specs.Texts.{Reading}
use Rattle.text_lines.specs.Faults.{or_later}
use Rattle.text_lines.specs.Lines.{lines_of}
use Rattle.mps_profile.specs.Texts.{Text}
use Rattle.point_text.specs.SolutionLines.{Line, line_of, text_line}
use Rattle.point_text.specs.Faults.{line_fault_by}
use Rattle.point_text.specs.Reading.{fault_from_by, said_from}
use Rattle.point_text.specs.Holding.{Holds, IsTableOf, TookAll}
use Rattle.point_text.specs.PairText.{is_duals_line, column_lines, row_lines, columns_fault_by, silent, given_to_by, pair_point_by}
use Rattle.point_text.specs.PairReading.{IsColumnsFault, AreDualsRead, TookColumns}
use Rattle.point_text.specs.declared.solution_lines.SolutionLine.{SolutionLine}
use Rattle.point_text.specs.declared.faults.SolFaultKind.{SolFaultKind}
use Rattle.point_text.specs.declared.faults.SolError.{SolError}
use Rattle.point_text.specs.declared.faults.SolError.TheVariants.{Fault, NoMemory}
use Rattle.point_text.proofs.SameNames.{same_fault, same_values}
use Rattle.point_text.proofs.Silence.{holds_after}

-- so many lines were read, and the rest of the text has its fault, its lines and its duals
pub record ColumnsGo (r : Reading) (names : List Text) (all left : List Text) (number : ℕ) (numbers : Text → Option Number) (before : List Line) : Type 0 where
  pub holds : Holds r before numbers
  pub count : number ≡ length before
  pub fault : fault_from_by r names before (column_lines left) ≡ columns_fault_by r names all
  pub lines : said_from before (column_lines left) ≡ said_from [] (column_lines all)
  pub rows : row_lines left ≡ row_lines all
  pub long : length before + length (column_lines left) ≡ length (column_lines all)

pub columns_none : (r : Reading) (names all : List Text) (numbers : Text → Option Number) → Holds r [] numbers → ColumnsGo r names all all 0 numbers []
columns_none r names all numbers holds = record { holds = holds; count = refl; fault = refl; lines = refl; rows = refl; long = omega arith }

goes_on : (line : Text) (after : List Text) → is_duals_line line ≡ false → column_lines (line ∷ after) ≡ line ∷ column_lines after
goes_on line after e = ap (λ b. cond b [] (line ∷ column_lines after)) e

rows_on : (line : Text) (after : List Text) → is_duals_line line ≡ false → row_lines (line ∷ after) ≡ row_lines after
rows_on line after e = ap (λ b. cond b (Some after) (row_lines after)) e

stops : (line : Text) (after : List Text) → is_duals_line line ≡ true → column_lines (line ∷ after) ≡ []
stops line after e = ap (λ b. cond b [] (line ∷ column_lines after)) e

rows_here : (line : Text) (after : List Text) → is_duals_line line ≡ true → row_lines (line ∷ after) ≡ Some after
rows_here line after e = ap (λ b. cond b (Some after) (row_lines after)) e

-- one more line
pub columns_more : (r : Reading) (names all left after : List Text) (line : Text) (number : ℕ) (numbers new : Text → Option Number) (before : List Line) → left ≡ line ∷ after → is_duals_line line ≡ false
    → line_fault_by r names before (line_of line) ≡ None → Holds r (line_of line ∷ before) new → ColumnsGo r names all left number numbers before → ColumnsGo r names all after (number + 1) new (line_of line ∷ before)
columns_more r names all left after line number numbers new before is e sound holds go =
    let here : column_lines left ≡ line ∷ column_lines after = ap column_lines is ∙ goes_on line after e in
    record {
      holds = holds;
      count = omega (arith, go.count);
      fault = ap (λ (o : Option SolFaultKind). or_later o (length before + 1) (fault_from_by r names (line_of line ∷ before) (column_lines after))) (sym sound)
          ∙ ap (fault_from_by r names before) (sym here) ∙ go.fault;
      lines = ap (said_from before) (sym here) ∙ go.lines;
      rows = sym (ap row_lines is ∙ rows_on line after e) ∙ go.rows;
      long = omega (arith, go.long, ap length here);
    }

-- a line with a fault
pub columns_fail : (r : Reading) (names all left after : List Text) (line : Text) (number : ℕ) (numbers : Text → Option Number) (before : List Line) (kind : SolFaultKind) → left ≡ line ∷ after → is_duals_line line ≡ false
    → line_fault_by r names before (line_of line) ≡ Some kind → ColumnsGo r names all left number numbers before → columns_fault_by r names all ≡ Some (kind, number + 1)
columns_fail r names all left after line number numbers before kind is e bad go =
    let here : column_lines left ≡ line ∷ column_lines after = ap column_lines is ∙ goes_on line after e in
    sym go.fault ∙ ap (fault_from_by r names before) here
    ∙ ap (λ (o : Option SolFaultKind). or_later o (length before + 1) (fault_from_by r names (line_of line ∷ before) (column_lines after))) bad
    ∙ ap (λ n. Some (kind, n + 1)) (sym go.count)

-- where no line of columns is left
pub record ColumnsEnd (r : Reading) (names all : List Text) (number : ℕ) (numbers : Text → Option Number) : Type 0 where
  pub fault : columns_fault_by r names all ≡ None
  pub holds : Holds r (said_from [] (column_lines all)) numbers
  pub count : number ≡ length (column_lines all)

columns_over : (r : Reading) (names all left : List Text) (number : ℕ) (numbers : Text → Option Number) (before : List Line) → column_lines left ≡ [] → ColumnsGo r names all left number numbers before → ColumnsEnd r names all number numbers
columns_over r names all left number numbers before none go = record {
  fault = sym go.fault ∙ ap (fault_from_by r names before) none;
  holds = subst (λ ls. Holds r ls numbers) (sym (ap (said_from before) none) ∙ go.lines) go.holds;
  count = omega (arith, go.count, go.long, ap length none);
}

pub columns_stop : (r : Reading) (names all left after : List Text) (line : Text) (number : ℕ) (numbers : Text → Option Number) (before : List Line) → left ≡ line ∷ after → is_duals_line line ≡ true
    → ColumnsGo r names all left number numbers before → ColumnsEnd r names all number numbers × (row_lines all ≡ Some after)
columns_stop r names all left after line number numbers before is e go =
    (columns_over r names all left number numbers before (ap column_lines is ∙ stops line after e) go, sym go.rows ∙ ap row_lines is ∙ rows_here line after e)

pub columns_all : (r : Reading) (names all : List Text) (rest : List ℕ) (number : ℕ) (numbers : Text → Option Number) (before : List Line) → length rest ≡ 0
    → ColumnsGo r names all (lines_of rest) number numbers before → ColumnsEnd r names all number numbers × (row_lines all ≡ None)
columns_all r names all [] number numbers before none go = (columns_over r names all [] number numbers before refl go, sym go.rows)
columns_all r names all (b ∷ bytes) number numbers before none go = absurd (omega (arith, none))

-- what a line says that is none of the duals
pub said_of : (line : Text) (told : Option SolutionLine) (said : SolutionLine) → told ≡ Some said
    → MatchOption told (is_duals_line line ≡ true) (λ other. (is_duals_line line ≡ false) × (text_line other ≡ line_of line)) → (is_duals_line line ≡ false) × (text_line said ≡ line_of line)
said_of line told said is h = subst (λ (o : Option SolutionLine). MatchOption o (is_duals_line line ≡ true) (λ other. (is_duals_line line ≡ false) × (text_line other ≡ line_of line))) is h

-- ---- the duals
pub duals_told : (r : Reading) (names table : List Text) (n : ℕ) (text : List ℕ) (numbers : Text → Option Number) (error : SolError) → IsTableOf names table → TookAll {T = Unit {0}} r table (silent n) text (Err error) numbers
    → AreDualsRead r names n text (Err error)
duals_told r names table n text numbers (Fault fault) same took = sym (same_fault r names table same (silent n) (lines_of text)) ∙ took
duals_told r names table n text numbers NoMemory same took = tt

pub duals_read : (r : Reading) (names table : List Text) (n : ℕ) (text : List ℕ) (numbers : Text → Option Number) (duals : List Number) → IsTableOf names table → fault_from_by r table (silent n) (lines_of text) ≡ None
    → Holds r (said_from (silent n) (lines_of text)) numbers → duals ≡ map (λ name. unwrap_or (numbers name) zero_ℚ) names
    → (fault_from_by r names (silent n) (lines_of text) ≡ None) × (duals ≡ given_to_by r names (lines_of text))
duals_read r names table n text numbers duals same none holds is =
    (sym (same_fault r names table same (silent n) (lines_of text)) ∙ none, is ∙ same_values r numbers (said_from [] (lines_of text)) (holds_after r n (lines_of text) numbers holds) names)

-- ---- the columns
pub columns_told : (r : Reading) (names table : List Text) (text : List ℕ) (numbers : Text → Option Number) (error : SolError) → IsTableOf names table → TookColumns r table text (Err error) numbers → IsColumnsFault r names text error
columns_told r names table text numbers (Fault fault) same took = sym (same_fault r names table same [] (column_lines (lines_of text))) ∙ took
columns_told r names table text numbers NoMemory same took = tt

pub columns_read : (r : Reading) (names table : List Text) (text : List ℕ) (numbers : Text → Option Number) (point : List Number) → IsTableOf names table → columns_fault_by r table (lines_of text) ≡ None
    → Holds r (said_from [] (column_lines (lines_of text))) numbers → point ≡ map (λ name. unwrap_or (numbers name) zero_ℚ) names
    → (columns_fault_by r names (lines_of text) ≡ None) × (point ≡ pair_point_by r names text)
columns_read r names table text numbers point same none holds is =
    (sym (same_fault r names table same [] (column_lines (lines_of text))) ∙ none, is ∙ same_values r numbers (said_from [] (column_lines (lines_of text))) holds names)
