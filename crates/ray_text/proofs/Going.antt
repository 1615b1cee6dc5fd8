-- What holds at each line of a text.
use Rattle.std.proofs.Common.{◌≡◌, ℕ, ◌+◌, List, [], ◌∷◌, length, Option, Some, None, refl, sym, ap, ◌∙◌, subst, arith}
use Rattle.std.specs.Prelude.{map}
use Rattle.text_lines.specs.Faults.{or_later}
use Rattle.text_lines.specs.Lines.{lines_of}
use Rattle.mps_profile.specs.Texts.{Text}
use Rattle.point_text.specs.declared.faults.SolFaultKind.{SolFaultKind}
use Rattle.ray_text.specs.declared.reading.Reading.{Reading}
use Rattle.ray_text.specs.RayLines.{Line, line_of, lines_said}
use Rattle.ray_text.specs.Faults.{line_fault}
use Rattle.ray_text.specs.Reading.{fault_from, said_from}
use Rattle.ray_text.specs.Holding.{Holds}

-- so many lines were read, and the rest of the text has its fault and its lines
pub record Going (rows columns : List Text) (text rest : List ℕ) (number : ℕ) (reading : Reading) (before : List Line) : Type 0 where
  pub holds : Holds rows columns before reading
  pub count : number ≡ length before
  pub fault : fault_from rows columns before (lines_said rest) ≡ fault_from rows columns [] (lines_said text)
  pub lines : said_from before (lines_said rest) ≡ said_from [] (lines_said text)

abbrev pub Goes : List Text → List Text → List ℕ → List ℕ → ℕ → Reading → Type 0
Goes rows columns text rest number reading = (before : List Line) × Going rows columns text rest number reading before

here : (line : Text) (rest after : List ℕ) → lines_of rest ≡ line ∷ lines_of after → lines_said rest ≡ line_of line ∷ lines_said after
here line rest after is = ap (map line_of) is

pub going_none : (rows columns : List Text) (text : List ℕ) (reading : Reading) → Holds rows columns [] reading → Goes rows columns text text 0 reading
going_none rows columns text reading holds = ([], record { holds = holds; count = refl; fault = refl; lines = refl })

-- one more line
pub going_more : (rows columns : List Text) (text rest after : List ℕ) (line : Text) (said : Line) (number : ℕ) (reading new : Reading) (before : List Line) → lines_of rest ≡ line ∷ lines_of after → said ≡ line_of line
    → line_fault rows columns before said ≡ None → Holds rows columns (said ∷ before) new → Going rows columns text rest number reading before → Goes rows columns text after (number + 1) new
going_more rows columns text rest after line said number reading new before is says sound holds go =
    let first : lines_said rest ≡ said ∷ lines_said after = here line rest after is ∙ ap (λ (l : Line). l ∷ lines_said after) (sym says) in (
      said ∷ before,
      record {
        holds = holds;
        count = omega (arith, go.count);
        fault = ap (λ (o : Option SolFaultKind). or_later o (length before + 1) (fault_from rows columns (said ∷ before) (lines_said after))) (sym sound)
            ∙ ap (fault_from rows columns before) (sym first) ∙ go.fault;
        lines = ap (said_from before) (sym first) ∙ go.lines;
      },
    )

-- a line with a fault
pub going_fails : (rows columns : List Text) (text rest after : List ℕ) (line : Text) (said : Line) (number : ℕ) (reading : Reading) (before : List Line) (kind : SolFaultKind) → lines_of rest ≡ line ∷ lines_of after → said ≡ line_of line
    → line_fault rows columns before said ≡ Some kind → Going rows columns text rest number reading before → fault_from rows columns [] (lines_said text) ≡ Some (kind, number + 1)
going_fails rows columns text rest after line said number reading before kind is says bad go =
    let first : lines_said rest ≡ said ∷ lines_said after = here line rest after is ∙ ap (λ (l : Line). l ∷ lines_said after) (sym says) in
    sym go.fault ∙ ap (fault_from rows columns before) first
    ∙ ap (λ (o : Option SolFaultKind). or_later o (length before + 1) (fault_from rows columns (said ∷ before) (lines_said after))) bad
    ∙ ap (λ n. Some (kind, n + 1)) (sym go.count)

-- no line is left
pub going_all : (rows columns : List Text) (text rest : List ℕ) (number : ℕ) (reading : Reading) → length rest ≡ 0 → Goes rows columns text rest number reading
    → (fault_from rows columns [] (lines_said text) ≡ None) × Holds rows columns (said_from [] (lines_said text)) reading
going_all rows columns text [] number reading none (before, go) = (sym go.fault, subst (λ (ls : List Line). Holds rows columns ls reading) go.lines go.holds)
going_all rows columns text (b ∷ bytes) number reading none go = absurd (omega (arith, none))
