-- The fields of a line.
use Rattle.std.specs.Prelude.{ℕ, suc, ◌==◌, ◌&&◌, ◌||◌, not, nat_lt, nat_le, Bool, false, List, [], ◌∷◌, length, map, filter, take, drop, reverse, if◌then◌else◌}
use Rattle.std.specs.List.{slice_split}
use Rattle.mps_profile.specs.Texts.{Text}

abbrev pub is_blank : ℕ → Bool
is_blank b = (b == 32) || (b == 9)

-- in the free format: the parts between blanks that are not empty
abbrev pub fields_of : Text → List Text
fields_of line = filter (λ part. not (length part == 0)) (slice_split is_blank line)

-- without the spaces before it
abbrev pub no_first : Text → Text
no_first [] = []
no_first (b ∷ bytes) = if b == 32 then no_first bytes else b ∷ bytes

-- without the spaces round it
abbrev pub trimmed : Text → Text
trimmed part = no_first (reverse (no_first (reverse part)))

-- a space as an underscore
abbrev pub underscored : ℕ → ℕ
underscored b = if b == 32 then 95 else b

-- in the fixed format: what stands between two columns, counted from 0, the second not in it
abbrev pub fixed_field : ℕ → ℕ → Text → Text
fixed_field from to line = map underscored (trimmed (drop from (take to line)))

pub record FixedFields : Type 0 where
  pub first : Text
  pub second : Text
  pub third : Text
  pub fourth : Text
  pub fifth : Text
  pub sixth : Text

-- in columns 2-3, 5-12, 15-22, 25-36, 40-47 and 50-61, counted from 1
abbrev pub fixed_fields : Text → FixedFields
fixed_fields line = record {
  first = fixed_field 1 3 line;
  second = fixed_field 4 12 line;
  third = fixed_field 14 22 line;
  fourth = fixed_field 24 36 line;
  fifth = fixed_field 39 47 line;
  sixth = fixed_field 49 61 line;
}

abbrev pub is_within : ℕ → ℕ → ℕ → Bool
is_within from to k = nat_le from k && nat_lt k to

-- whether column k, counted from 0, lies in one of the six fields
abbrev pub is_in_field : ℕ → Bool
is_in_field k = is_within 1 3 k || is_within 4 12 k || is_within 14 22 k || is_within 24 36 k || is_within 39 47 k || is_within 49 61 k

-- whether the byte may not stand in column k: a tab, or outside the fields another than a space
abbrev pub is_misplaced : ℕ → ℕ → Bool
is_misplaced k b = (b == 9) || (not (is_in_field k) && not (b == 32))

abbrev pub misplaced_from : ℕ → Text → Bool
misplaced_from k [] = false
misplaced_from k (b ∷ bytes) = is_misplaced k b || misplaced_from (suc k) bytes

-- whether one of the first 61 columns holds a byte that may not stand there
abbrev pub has_misplaced : Text → Bool
has_misplaced line = misplaced_from 0 (take 61 line)
