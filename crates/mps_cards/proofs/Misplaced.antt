-- How misplaced bytes are looked for, byte by byte.
use Rattle.std.proofs.Common.{◌≡◌, ℕ, suc, ◌+◌, ◌<◌, ◌≤◌, ◌||◌, List, [], ◌∷◌, false, get_or, length, drop, take, sym, ap, arith, add-one}
use Rattle.std.proofs.lemmas.List.{length-take}
use Rattle.mps_profile.specs.Fields.{is_misplaced, misplaced_from}

pub misplaced-next : (k : ℕ) (left : List ℕ) → 0 < length left → is_misplaced k (get_or left 0 0) ≡ false → misplaced_from (k + 1) (drop 1 left) ≡ misplaced_from k left
misplaced-next k [] some well = absurd (omega (arith, some))
misplaced-next k (b ∷ bytes) some well = rw add-one (ap (λ t. t || misplaced_from (suc k) bytes) (sym well))

pub front-short : (n : ℕ) (front line : List ℕ) → front ≡ take n line → 0 + length front ≤ n
front-short n front line is = let e : length front ≡ length (take n line) = ap (λ (xs : List ℕ). length xs) is in omega (arith, e, length-take n line)
