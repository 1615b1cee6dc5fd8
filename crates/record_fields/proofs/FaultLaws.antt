-- Of faults the one with the lowest number, in any grouping.
use Rattle.std.proofs.Common.{◌≡◌, Bool, true, false, Option, Some, None, refl}
use Rattle.record_fields.specs.Faults.{unless, lower}
use Rattle.record_fields.specs.declared.faults.LineFault.{LineFault}
use Rattle.record_fields.specs.declared.faults.LineFault.TheVariants.{BadLine, BadId, NumberPast}

pub lower_none_is : (a : Option LineFault) → lower a None ≡ a
lower_none_is None = refl
lower_none_is (Some BadLine) = refl
lower_none_is (Some BadId) = refl
lower_none_is (Some NumberPast) = refl

pub lower_lower : (a b c : Option LineFault) → lower (lower a b) c ≡ lower a (lower b c)
lower_lower None b c = refl
lower_lower (Some BadLine) b c = refl
lower_lower (Some BadId) None c = refl
lower_lower (Some BadId) (Some BadLine) c = refl
lower_lower (Some BadId) (Some BadId) None = refl
lower_lower (Some BadId) (Some BadId) (Some BadLine) = refl
lower_lower (Some BadId) (Some BadId) (Some BadId) = refl
lower_lower (Some BadId) (Some BadId) (Some NumberPast) = refl
lower_lower (Some BadId) (Some NumberPast) None = refl
lower_lower (Some BadId) (Some NumberPast) (Some BadLine) = refl
lower_lower (Some BadId) (Some NumberPast) (Some BadId) = refl
lower_lower (Some BadId) (Some NumberPast) (Some NumberPast) = refl
lower_lower (Some NumberPast) None c = refl
lower_lower (Some NumberPast) (Some BadLine) c = refl
lower_lower (Some NumberPast) (Some BadId) None = refl
lower_lower (Some NumberPast) (Some BadId) (Some BadLine) = refl
lower_lower (Some NumberPast) (Some BadId) (Some BadId) = refl
lower_lower (Some NumberPast) (Some BadId) (Some NumberPast) = refl
lower_lower (Some NumberPast) (Some NumberPast) None = refl
lower_lower (Some NumberPast) (Some NumberPast) (Some d) = refl

-- a bad line outweighs all
pub lower_bad : (a b c d : Option LineFault) → lower a (lower (lower (lower (Some BadLine) b) c) d) ≡ Some BadLine
lower_bad None b c d = refl
lower_bad (Some BadLine) b c d = refl
lower_bad (Some BadId) b c d = refl
lower_bad (Some NumberPast) b c d = refl

pub lower_id : (b : Bool) → lower (Some BadId) (unless b BadId) ≡ Some BadId
lower_id true = refl
lower_id false = refl
