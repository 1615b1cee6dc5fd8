-- What holds at each line of a text.
use Rattle.std.proofs.Common.{◌≡◌, ℕ, ◌+◌, List, ◌∷◌, length, Option, Some, None, Result, sym, ap, ap₂, ◌∙◌, subst, arith}
use Rattle.std.specs.Prelude.{Ok, Err}
use Rattle.fractions.specs.Number.{Number}
use Rattle.exact_texts.specs.Texts.{Reading}
use Rattle.text_lines.specs.Faults.{or_later}
use Rattle.text_lines.specs.Lines.{lines_of}
use Rattle.mps_profile.specs.Texts.{Text}
use Rattle.point_text.specs.SolutionLines.{Line, line_of}
use Rattle.point_text.specs.Faults.{line_fault_by}
use Rattle.point_text.specs.declared.faults.SolFaultKind.{SolFaultKind}
use Rattle.point_text.specs.Reading.{fault_from_by, said_from}
use Rattle.point_text.specs.Holding.{Holds, Took}

-- so many lines were read, the first of them before the text, and the rest of the text has its fault and its lines
pub record Going (r : Reading) (names : List Text) (start : List Line) (text rest : List ℕ) (number : ℕ) (numbers : Text → Option Number) (before : List Line) : Type 0 where
  pub holds : Holds r before numbers
  pub count : number ≡ length before
  pub fault : fault_from_by r names before (lines_of rest) ≡ fault_from_by r names start (lines_of text)
  pub lines : said_from before (lines_of rest) ≡ said_from start (lines_of text)

-- one more line
pub go_more : (r : Reading) (names : List Text) (start : List Line) (text rest after : List ℕ) (line : Text) (number : ℕ) (numbers new : Text → Option Number) (before : List Line)
    → lines_of rest ≡ line ∷ lines_of after → (line_fault_by r names before (line_of line) ≡ None) × Holds r (line_of line ∷ before) new
    → Going r names start text rest number numbers before → Going r names start text after (number + 1) new (line_of line ∷ before)
go_more r names start text rest after line number numbers new before is taken go = record {
  holds = taken.1;
  count = omega (arith, go.count);
  fault = ap (λ (o : Option SolFaultKind). or_later o (length before + 1) (fault_from_by r names (line_of line ∷ before) (lines_of after))) (sym taken.0)
      ∙ ap (fault_from_by r names before) (sym is) ∙ go.fault;
  lines = ap (said_from before) (sym is) ∙ go.lines;
}

-- a line with a fault
pub go_fail : (r : Reading) (names : List Text) (start : List Line) (text rest after : List ℕ) (line : Text) (number : ℕ) (numbers : Text → Option Number) (before : List Line) (kind : SolFaultKind)
    → lines_of rest ≡ line ∷ lines_of after → line_fault_by r names before (line_of line) ≡ Some kind → Going r names start text rest number numbers before
    → fault_from_by r names start (lines_of text) ≡ Some (kind, number + 1)
go_fail r names start text rest after line number numbers before kind is bad go =
    sym go.fault ∙ ap (fault_from_by r names before) is
    ∙ ap (λ (o : Option SolFaultKind). or_later o (length before + 1) (fault_from_by r names (line_of line ∷ before) (lines_of after))) bad
    ∙ ap (λ (n : ℕ). Some (kind, n + 1)) (sym go.count)

-- ---- a line that was given to a table
pub took_fault : (r : Reading) (names table : List Text) (before : List Line) (said line : Line) (done : Result (Unit {0}) SolFaultKind) (kind : SolFaultKind) (new : Text → Option Number)
    → table ≡ names → said ≡ line → done ≡ Err kind → Took r table before said done new → line_fault_by r names before line ≡ Some kind
took_fault r names table before said line done kind new same is told took =
    let bad : line_fault_by r table before said ≡ Some kind = subst (λ (d : Result (Unit {0}) SolFaultKind). Took r table before said d new) told took in
    sym (ap₂ (λ (ns : List Text) (l : Line). line_fault_by r ns before l) same is) ∙ bad

pub took_line : (r : Reading) (names table : List Text) (before : List Line) (said line : Line) (done : Result (Unit {0}) SolFaultKind) (end : Unit {0}) (new : Text → Option Number)
    → table ≡ names → said ≡ line → done ≡ Ok end → Took r table before said done new → (line_fault_by r names before line ≡ None) × Holds r (line ∷ before) new
took_line r names table before said line done end new same is told took =
    let taken : (line_fault_by r table before said ≡ None) × Holds r (said ∷ before) new = subst (λ (d : Result (Unit {0}) SolFaultKind). Took r table before said d new) told took in
    (sym (ap₂ (λ (ns : List Text) (l : Line). line_fault_by r ns before l) same is) ∙ taken.0, subst (λ (l : Line). Holds r (l ∷ before) new) is taken.1)
