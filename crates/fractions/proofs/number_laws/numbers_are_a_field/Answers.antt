use Rattle.std.proofs.Common.{[], ◌∷◌, pos, refl}
use Rattle.fractions.specs.Ring.{ring, v, num, ◌:-◌}
use Rattle.fractions.specs.Number.{rational, +ℚ_comm, +ℚ_assoc, zero-+ℚ, *ℚ_comm, *ℚ_assoc, one-*ℚ, *ℚ-+ℚ}
use Rattle.fractions.specs.Division.{*ℚ-inv_ℚ}
use Rattle.fractions.proofs.number_laws.numbers_are_a_field.Goals as goal

pub returns : goal.returns
returns c = record {
  sums_commute = +ℚ_comm;
  sums_associate = +ℚ_assoc;
  nothing_added = zero-+ℚ;
  differences = λ p. ring rational (p ∷ []) (v 0 :- v 0) (num (pos 0)) refl;
  products_commute = *ℚ_comm;
  products_associate = *ℚ_assoc;
  times_one = one-*ℚ;
  distributes = *ℚ-+ℚ;
  inverses = *ℚ-inv_ℚ;
}
