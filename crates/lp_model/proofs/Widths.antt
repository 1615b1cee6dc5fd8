-- Widths that may be written.
use Rattle.std.proofs.Common.{◌≡◌, ◌↔◌, Bool, true, false, Option, Some, None, refl, sym, subst}
use Rattle.std.specs.Prelude.{IfSome, if◌then◌else◌}
use Rattle.fractions.specs.Number.{Number, ◌-ℚ◌}
use Rattle.fractions.specs.Compare.{eq_ℚ}
use Rattle.fractions.specs.Comparisons.{eq_ℚ-is}
use Rattle.fractions.specs.declared.Numbers.{Numbers}
use Rattle.lp_model.specs.Writable.{WritableNumber}
use Rattle.lp_model.specs.Ends.{WidthIsWritten, width}

written : (numbers : Numbers) (l u : Option Number) → IfSome (width l u) (WritableNumber numbers) ↔ WidthIsWritten numbers l u
written numbers None u = (λ h. h, λ h. h)
written numbers (Some l) None = (λ h. h, λ h. h)
written numbers (Some l) (Some u) = by (eq_ℚ l u) refl
  where
    by : (b : Bool) → eq_ℚ l u ≡ b → IfSome (if b then None else Some (u -ℚ l)) (WritableNumber numbers) ↔ WidthIsWritten numbers (Some l) (Some u)
    by true e = (λ h n. absurd (n ((eq_ℚ-is l u).0 e)), λ h. tt)
    by false e = (λ h n. h, λ h. h (λ f. let g = (eq_ℚ-is l u).1 f in cc))

pub width_written : (numbers : Numbers) (l u w : Option Number) → w ≡ width l u → IfSome w (WritableNumber numbers) ↔ WidthIsWritten numbers l u
width_written numbers l u w e = subst (λ o. IfSome o (WritableNumber numbers) ↔ WidthIsWritten numbers l u) (sym e) (written numbers l u)
