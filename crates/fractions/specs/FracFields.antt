-- The fields of a `Frac` from its number.
use Rattle.std.proofs.Common.{◌≡◌}
use Rattle.fractions.specs.Lowest.{ratio, IsLowest, over_of, under_of, over_of-ratio, under_of-ratio}
use Rattle.fractions.specs.declared.frac.Frac.TheInside.{Inside}

-- lowest terms give the fields back
pub inverse_right : (f : Inside) → IsLowest f.parts.num f.parts.den → ◌≡◌ {A = Inside} (record { parts = record { num = over_of (ratio f.parts.num f.parts.den); den = under_of (ratio f.parts.num f.parts.den) } }) f
inverse_right f h = λ i. record { parts = record { num = over_of-ratio f.parts.num f.parts.den h i; den = under_of-ratio f.parts.num f.parts.den h i } }
