-- The first field of a line.
use Rattle.std.proofs.Common.{◌≡◌, ℕ, ◌+◌, ◌<◌, ◌==◌, not, List, [], ◌∷◌, ◌++◌, Bool, true, false, cond, Some, None, refl, ◌∙◌, ap, arith, length, take, drop}
use Rattle.std.proofs.lemmas.Grind.{common_steps}
use Rattle.std.proofs.lemmas.Bool.{false≢true}
use Rattle.std.proofs.Math.Dec.{eqb-suc-zero}
use Rattle.std.specs.Prelude.{All, position, filter}
use Rattle.std.specs.Option.{is_some}
use Rattle.std.specs.List.{slice_split, position_or_len}
use Rattle.std.proofs.lemmas.List.Splits.{slice_split_at, slice_split_none}
use Rattle.std.proofs.lemmas.List.Quantifiers.{position-Some}
use Rattle.text_lines.proofs.Splitting.{split_at, one_part}
use Rattle.mps_profile.specs.Texts.{Text}
use Rattle.mps_profile.specs.Fields.{is_blank, fields_of}

abbrev is_part : List ℕ → Bool
is_part part = not (length part == 0)

kept : (part : List ℕ) (parts : List (List ℕ)) → 0 < length part → filter is_part (part ∷ parts) ≡ part ∷ filter is_part parts
kept [] parts some = absurd (omega (arith, some))
kept (b ∷ bytes) parts some = ap (λ t. cond (not t) ((b ∷ bytes) ∷ filter is_part parts) (filter is_part parts)) (eqb-suc-zero (length bytes))

found_by : (b : Bool) (n i : ℕ) → 0 < n → cond b (Some n) None ≡ Some i → 0 < i
found_by true n i some is = let e : n ≡ i = cc in omega (arith, e, some)
found_by false n i some is = absurd (false≢true (ap is_some is))

-- a field ends at the first blank
pub field_at : (text : List ℕ) (i : ℕ) → 0 < position_or_len is_blank text → position is_blank text ≡ Some i → fields_of text ≡ take i text ∷ fields_of (drop (i + 1) text)
field_at text i some is =
    let p = position-Some is_blank text i 0 is in
    let found : 0 < i = found_by _ (position_or_len is_blank text) i some is in
    let long : 0 < length (take i text) = grind (arith, common_steps, p.0, found) in
    ap (filter is_part) (split_at is_blank text i 0 is) ∙ kept (take i text) (slice_split is_blank (drop (i + 1) text)) long

filled : (text : List ℕ) → 0 < position_or_len is_blank text → 0 < length text
filled [] some = absurd (omega (arith, some))
filled (b ∷ bytes) some = omega arith

-- without a blank the text is one field
pub field_last : (text : List ℕ) → 0 < position_or_len is_blank text → position is_blank text ≡ None → fields_of text ≡ text ∷ []
field_last text some none = ap (filter is_part) (one_part is_blank text none) ∙ kept text [] (filled text some)

-- a field before a space, and the last one
pub field_first : (first rest : Text) → 0 < length first → All (λ b. is_blank b ≡ false) first → fields_of (first ++ 32 ∷ rest) ≡ first ∷ fields_of rest
field_first first rest some plain = ap (filter is_part) (slice_split_at is_blank first 32 rest plain refl) ∙ kept first (slice_split is_blank rest) some

pub field_alone : (last : Text) → 0 < length last → All (λ b. is_blank b ≡ false) last → fields_of last ≡ last ∷ []
field_alone last some plain = ap (filter is_part) (slice_split_none is_blank last plain) ∙ kept last [] some
