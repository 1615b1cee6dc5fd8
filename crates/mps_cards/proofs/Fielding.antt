-- How fields go from a line's first field on.
use Rattle.std.proofs.Common.{◌≡◌, ℕ, ◌+◌, ◌<◌, ◌==◌, not, ◌&&◌, List, [], ◌∷◌, Bool, true, false, cond, Some, None, refl, ◌∙◌, ap, arith, length, take, drop}
use Rattle.std.proofs.lemmas.Grind.{common_steps}
use Rattle.std.proofs.lemmas.Bool.{and_parts, true≢false, false≢true}
use Rattle.std.proofs.Math.Dec.{eqb-suc-zero}
use Rattle.std.specs.Prelude.{position, filter}
use Rattle.std.specs.Option.{is_some}
use Rattle.std.specs.List.{slice_split, onto_first, position_or_len, list_all}
use Rattle.std.proofs.lemmas.List.Splits.{slice_split-cons_yes, slice_split-cons_no}
use Rattle.std.proofs.lemmas.List.Quantifiers.{position-Some}
use Rattle.text_lines.proofs.Splitting.{split_at, one_part}
use Rattle.mps_profile.specs.Fields.{is_blank, fields_of}

abbrev is_part : List ℕ → Bool
is_part part = not (length part == 0)

kept : (part : List ℕ) (parts : List (List ℕ)) → 0 < length part → filter is_part (part ∷ parts) ≡ part ∷ filter is_part parts
kept [] parts some = absurd (omega (arith, some))
kept (b ∷ bytes) parts some = ap (λ t. cond (not t) ((b ∷ bytes) ∷ filter is_part parts) (filter is_part parts)) (eqb-suc-zero (length bytes))

found_by : (b : Bool) (n i : ℕ) → 0 < n → cond b (Some n) None ≡ Some i → 0 < i
found_by true n i some is = let e : n ≡ i = cc in omega (arith, e, some)
found_by false n i some is = absurd (false≢true (ap is_some is))

-- a field ends at the first blank
pub fields-at : (text : List ℕ) (i : ℕ) → 0 < position_or_len is_blank text → position is_blank text ≡ Some i → fields_of text ≡ take i text ∷ fields_of (drop (i + 1) text)
fields-at text i some is =
    let p = position-Some is_blank text i 0 is in
    let found : 0 < i = found_by _ (position_or_len is_blank text) i some is in
    let long : 0 < length (take i text) = grind (arith, common_steps, p.0, found) in
    ap (filter is_part) (split_at is_blank text i 0 is) ∙ kept (take i text) (slice_split is_blank (drop (i + 1) text)) long

filled : (text : List ℕ) → 0 < position_or_len is_blank text → 0 < length text
filled [] some = absurd (omega (arith, some))
filled (b ∷ bytes) some = omega arith

-- without a blank the text is one field
pub fields-last : (text : List ℕ) → 0 < position_or_len is_blank text → position is_blank text ≡ None → fields_of text ≡ text ∷ []
fields-last text some none = ap (filter is_part) (one_part is_blank text none) ∙ kept text [] (filled text some)

-- a blank before fields is none of them
pub fields-blank : (b : ℕ) (bytes : List ℕ) → is_blank b ≡ true → fields_of (b ∷ bytes) ≡ fields_of bytes
fields-blank b bytes is = ap (filter is_part) (slice_split-cons_yes is_blank b bytes is)

-- a text of blanks has no fields
pub fields-bare : (text : List ℕ) → list_all is_blank text ≡ true → fields_of text ≡ []
fields-bare [] all = refl
fields-bare (b ∷ bytes) all = let parts = and_parts (is_blank b) (list_all is_blank bytes) all in fields-blank b bytes parts.0 ∙ fields-bare bytes parts.1

-- every other text has one
pub record HasFields (text : List ℕ) : Type 0 where
  pub first : List ℕ
  pub more : List (List ℕ)
  pub are : fields_of text ≡ first ∷ more

onto : (b : ℕ) (bytes : List ℕ) (parts : List (List ℕ)) → fields_of (b ∷ bytes) ≡ filter is_part (onto_first b parts) → HasFields (b ∷ bytes)
onto b bytes [] are = record { first = b ∷ []; more = []; are = are }
onto b bytes (part ∷ parts) are = record { first = b ∷ part; more = filter is_part parts; are = are ∙ kept (b ∷ part) parts (omega arith) }

filled_by : (t : Bool) (b : ℕ) (bytes : List ℕ) → is_blank b ≡ t → (t && list_all is_blank bytes) ≡ false → (list_all is_blank bytes ≡ false → HasFields bytes) → HasFields (b ∷ bytes)
filled_by true b bytes is all more = let rest = more all in record { first = rest.first; more = rest.more; are = fields-blank b bytes is ∙ rest.are }
filled_by false b bytes is all more = onto b bytes (slice_split is_blank bytes) (ap (filter is_part) (slice_split-cons_no is_blank b bytes is))

pub fields-some : (text : List ℕ) → list_all is_blank text ≡ false → HasFields text
fields-some [] all = absurd (true≢false all)
fields-some (b ∷ bytes) all = filled_by (is_blank b) b bytes refl all (fields-some bytes)
