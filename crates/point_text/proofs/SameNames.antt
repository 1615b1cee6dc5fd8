-- A table with the columns' names gives the faults and the values of the columns.
use Rattle.std.proofs.Common.{◌≡◌, ℕ, ◌+◌, List, [], ◌∷◌, length, Option, refl, ap, ap₂}
use Rattle.std.specs.Prelude.{map, not, is_some, Bool, unwrap_or}
use Rattle.fractions.specs.Number.{Number, zero_ℚ}
use Rattle.exact_texts.specs.Texts.{Reading}
use Rattle.text_lines.specs.Faults.{or_later}
use Rattle.mps_profile.specs.Texts.{Text}
use Rattle.point_text.specs.SolutionLines.{Line, Silent, Gives, Odd, line_of}
use Rattle.point_text.specs.Values.{value_named_by, value_of_by}
use Rattle.point_text.specs.Faults.{line_fault_by, first_of, is_past, is_bad}
use Rattle.point_text.specs.Reading.{fault_from_by}
use Rattle.point_text.specs.Holding.{Holds, IsTableOf}
use Rattle.point_text.specs.declared.faults.SolFaultKind.{SolFaultKind}
use Rattle.point_text.specs.declared.faults.SolFaultKind.TheVariants.{UnknownName, TwiceNamed, NumberPast, BadNumber}

same_line : (r : Reading) (names table : List Text) → IsTableOf names table → (before : List Line) (line : Line) → line_fault_by r table before line ≡ line_fault_by r names before line
same_line r names table same before Silent = refl
same_line r names table same before (Gives name number) =
    ap (λ (b : Bool). first_of ((not b, UnknownName) ∷ (is_some (value_named_by r before name), TwiceNamed)
    ∷ (is_past (r number), NumberPast) ∷ (is_bad (r number), BadNumber) ∷ [])) (same name)
same_line r names table same before Odd = refl

pub same_fault : (r : Reading) (names table : List Text) → IsTableOf names table → (before : List Line) (lines : List Text) → fault_from_by r table before lines ≡ fault_from_by r names before lines
same_fault r names table same before [] = refl
same_fault r names table same before (line ∷ after) =
    ap₂ (λ (o : Option SolFaultKind) (later : Option (SolFaultKind × ℕ)). or_later o (length before + 1) later) (same_line r names table same before (line_of line))
    (same_fault r names table same (line_of line ∷ before) after)

pub same_values : (r : Reading) (numbers : Text → Option Number) (lines : List Line) → Holds r lines numbers → (names : List Text)
    → map (λ name. unwrap_or (numbers name) zero_ℚ) names ≡ map (value_of_by r lines) names
same_values r numbers lines holds [] = refl
same_values r numbers lines holds (name ∷ names) =
    ap₂ (λ (q : Number) (qs : List Number). q ∷ qs) (ap (λ (o : Option Number). unwrap_or o zero_ℚ) (holds name)) (same_values r numbers lines holds names)
