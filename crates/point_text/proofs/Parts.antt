-- The fields of a line that is put together of them.
use Rattle.std.proofs.Common.{◌≡◌, ℕ, ◌<◌, ◌==◌, not, List, [], ◌∷◌, ◌++◌, length, Bool, false, cond, refl, ap, ◌∙◌, arith}
use Rattle.std.specs.Prelude.{All, filter}
use Rattle.std.proofs.Math.Dec.{eqb-suc-zero}
use Rattle.std.proofs.lemmas.List.Splits.{slice_split_at, slice_split_none}
use Rattle.mps_profile.specs.Texts.{Text}
use Rattle.mps_profile.specs.Fields.{is_blank, fields_of}

abbrev is_part : List ℕ → Bool
is_part part = not (length part == 0)

kept : (part : List ℕ) (parts : List (List ℕ)) → 0 < length part → filter is_part (part ∷ parts) ≡ part ∷ filter is_part parts
kept [] parts some = absurd (omega (arith, some))
kept (b ∷ bytes) parts some = ap (λ t. cond (not t) ((b ∷ bytes) ∷ filter is_part parts) (filter is_part parts)) (eqb-suc-zero (length bytes))

-- two fields with a space between them
pub two_fields : (first second : Text) → 0 < length first → 0 < length second → All (λ b. is_blank b ≡ false) first → All (λ b. is_blank b ≡ false) second
    → fields_of (first ++ 32 ∷ second) ≡ first ∷ second ∷ []
two_fields first second some more one other =
    ap (filter is_part) (slice_split_at is_blank first 32 second one refl ∙ ap (λ (parts : List (List ℕ)). first ∷ parts) (slice_split_none is_blank second other))
    ∙ kept first (second ∷ []) some ∙ ap (λ (parts : List (List ℕ)). first ∷ parts) (kept second [] more)
