-- Numbers at the original columns.
use Rattle.std.proofs.Common.{◌≡◌, suc, Bool, true, false, if◌then◌else◌, List, [], ◌∷◌, length, drop, refl, ap}
use Rattle.fractions.specs.Number.{Number, zero_ℚ}
use Rattle.lp_model.specs.Vectors.{vector_of}
use Rattle.undo_records.specs.declared.label.Label.{Label}
use Rattle.undo_records.specs.Lift.{placed}

-- a number for each column
pub placed_length : (cs : List Label) (xs : List Number) → length (placed cs xs) ≡ length cs
placed_length [] xs = refl
placed_length (c ∷ cs) xs = by c.live (placed_length cs (drop 1 xs)) (placed_length cs xs)
  where
    by : (b : Bool) → length (placed cs (drop 1 xs)) ≡ length cs → length (placed cs xs) ≡ length cs → length (if b then vector_of xs 0 ∷ placed cs (drop 1 xs) else zero_ℚ ∷ placed cs xs) ≡ suc (length cs)
    by true p q = ap suc p
    by false p q = ap suc q
