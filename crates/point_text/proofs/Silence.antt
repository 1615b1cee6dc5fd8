-- Lines that say nothing.
use Rattle.std.proofs.Common.{◌≡◌, ℕ, zero, suc, List, [], ◌∷◌, length, None, Some, Option, cond, refl, ap, ◌∙◌, sym}
use Rattle.std.specs.Str.{bytes_eq}
use Rattle.fractions.specs.Number.{Number}
use Rattle.exact_texts.specs.Texts.{Reading}
use Rattle.mps_profile.specs.Texts.{Text}
use Rattle.point_text.specs.SolutionLines.{Line, Silent, Gives, Odd, line_of}
use Rattle.point_text.specs.Values.{number_in, value_named_by}
use Rattle.point_text.specs.Reading.{said_from}
use Rattle.point_text.specs.Holding.{Holds}
use Rattle.point_text.specs.PairText.{silent}

pub silent-length : (n : ℕ) → n ≡ length (silent n)
silent-length zero = refl
silent-length (suc n) = ap suc (silent-length n)

pub silent-named : (r : Reading) (n : ℕ) (name : Text) → value_named_by r (silent n) name ≡ None
silent-named r zero name = refl
silent-named r (suc n) name = silent-named r n name

pub holds_silent : (r : Reading) (n : ℕ) (numbers : Text → Option Number) → Holds r [] numbers → Holds r (silent n) numbers
holds_silent r n numbers holds name = holds name ∙ sym (silent-named r n name)

-- what lines give to names depends on the lines before them by what those give
same_after : (r : Reading) (lines : List Text) (one other : List Line) → ((name : Text) → value_named_by r one name ≡ value_named_by r other name) → (name : Text)
    → value_named_by r (said_from one lines) name ≡ value_named_by r (said_from other lines) name
same_after r [] one other same name = same name
same_after r (line ∷ after) one other same name = same_after r after (line_of line ∷ one) (line_of line ∷ other) (same_with (line_of line)) name
  where
    same_with : (l : Line) (name : Text) → value_named_by r (l ∷ one) name ≡ value_named_by r (l ∷ other) name
    same_with Silent name = same name
    same_with (Gives first number) name = ap (λ (o : Option Number). cond (bytes_eq first name) (Some (number_in (r number))) o) (same name)
    same_with Odd name = same name

pub holds_after : (r : Reading) (n : ℕ) (lines : List Text) (numbers : Text → Option Number) → Holds r (said_from (silent n) lines) numbers → Holds r (said_from [] lines) numbers
holds_after r n lines numbers holds name = holds name ∙ same_after r lines (silent n) [] (λ other. silent-named r n other) name
