-- A number is what clap's parser of numbers takes.
use Rattle.std.proofs.Common.{◌≡◌, ℕ, Bool, true, false, cond, List, Option, Some, None, IfSome, refl, sym, ◌∙◌, ap}
use Rattle.std.specs.Str.Parse.{digits_value, without_leading_plus}
use Rattle.clap.specs.Words.{IsUnsignedIn}
use Rattle.clap.specs.ValueTests.{accepts}
use Rattle.clap.specs.declared.builder.value_parser.ValueParser.TheVariants.{Unsigned}
use Rattle.clap.proofs.ValueTestLemmas.{accepts-Accepts, Accepts-accepts}
use Rattle.command_line.specs.Line.{number_in}

-- a number that is given where clap takes the text, and none where it does not
pub number_is : (least most : ℕ) (text : List ℕ) (r : Option ℕ)
    → IfSome r (λ number. IsUnsignedIn least most text × (number ≡ digits_value 10 (without_leading_plus text)))
    → (r ≡ None → IsUnsignedIn least most text → ⊥) → r ≡ number_in least most text
unfolding number_in
number_is least most text (Some n) h never = ap Some h.1 ∙ sym (ap (λ (b : Bool). cond b (Some (digits_value 10 (without_leading_plus text))) None) (Accepts-accepts false (Unsigned least most) text h.0))
number_is least most text None h never = by (accepts false (Unsigned least most) text) refl
  where
    by : (b : Bool) → accepts false (Unsigned least most) text ≡ b → None ≡ cond b (Some (digits_value 10 (without_leading_plus text))) None
    by true e = absurd (never refl (accepts-Accepts false (Unsigned least most) text e))
    by false e = refl
