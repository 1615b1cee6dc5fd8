-- A term put into terms by ascending id. A 0 leaves none.
use Rattle.std.specs.Prelude.{ℕ, nat_eq, nat_lt, List, [], ◌∷◌, if◌then◌else◌}
use Rattle.fractions.specs.Number.{Number, zero_ℚ}
use Rattle.fractions.specs.Compare.{eq_ℚ}
use Rattle.lp_model.specs.declared.terms.Term.{Term}

-- terms with one before them, which is none where its number is 0
abbrev pub led_by : ℕ → Number → List Term → List Term
led_by k a ts = if eq_ℚ a zero_ℚ then ts else record { id = k; value = a } ∷ ts

-- the number a at id k: in the place of the one that is there, at its place by ascending id, or left out where it is 0
abbrev pub put_term : ℕ → Number → List Term → List Term
put_term k a [] = led_by k a []
put_term k a (t ∷ ts) = if nat_lt t.id k then t ∷ put_term k a ts else if nat_eq t.id k then led_by k a ts else led_by k a (t ∷ ts)
