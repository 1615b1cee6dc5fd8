-- A list is split at the first element that passes a test.
use Rattle.std.proofs.Common.{◌≡◌, ℕ, ◌+◌, ◌<◌, ◌≤◌, List, ◌∷◌, ◌++◌, [], Bool, false, Some, None, sym, ◌∙◌, ap, arith, get_or, length, take, drop}
use Rattle.std.specs.Prelude.{All, position}
use Rattle.std.specs.List.{slice_split, position_or_len}
use Rattle.std.proofs.lemmas.Grind.{common_steps}
use Rattle.std.proofs.lemmas.List.{take-append-drop, drop_more}
use Rattle.std.proofs.lemmas.List.Quantifiers.{position-Some}
use Rattle.std.proofs.lemmas.List.Splits.{slice_split_at, slice_split_none}
use Rattle.std.proofs.lemmas.List.Sums.{fails_before_first}

module _ {X : Type 0} (p : X → Bool) where
  -- it stands between what is before it and what is after it
  pub parts_at : (xs : List X) (i : ℕ) (d : X) → position p xs ≡ Some i → xs ≡ take i xs ++ get_or xs i d ∷ drop (i + 1) xs
  parts_at xs i d is = sym (take-append-drop i xs) ∙ ap (λ (l : List X). take i xs ++ l) (drop_more xs i d (position-Some p xs i d is).0)

  -- none before it passes
  pub none_before : (xs : List X) (i : ℕ) → position p xs ≡ Some i → All (λ x. p x ≡ false) (take i xs)
  none_before xs i is k d lt =
      let at = position-Some p xs i d is in
      let within : k < i = grind (arith, common_steps) in
      let fails : p (get_or xs k d) ≡ false = at.2 k within in
      grind (arith, common_steps)

  pub split_at : (xs : List X) (i : ℕ) (d : X) → position p xs ≡ Some i → slice_split p xs ≡ take i xs ∷ slice_split p (drop (i + 1) xs)
  split_at xs i d is =
      ap (slice_split p) (parts_at xs i d is)
      ∙ slice_split_at p (take i xs) (get_or xs i d) (drop (i + 1) xs) (none_before xs i is) (position-Some p xs i d is).1

  pub none_passes : (xs : List X) → position p xs ≡ None → All (λ x. p x ≡ false) xs
  none_passes xs none k d lt =
      let past : length xs ≤ position_or_len p xs = grind (arith, common_steps) in
      fails_before_first p xs k d (omega (arith, past, lt))

  -- where none passes the list is one part
  pub one_part : (xs : List X) → position p xs ≡ None → slice_split p xs ≡ xs ∷ []
  one_part xs none = slice_split_none p xs (none_passes xs none)
