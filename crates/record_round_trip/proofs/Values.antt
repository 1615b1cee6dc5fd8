-- Values are read as they are written, whatever record has them.
use Rattle.std.proofs.Common.{◌≡◌, ◌≢◌, ℕ, List, [], ◌∷◌, ◌++◌, None, refl, ap, ap₂, ◌∙◌, arith}
use Rattle.std.specs.Prelude.{⊤}
use Rattle.std.specs.Fmt.{decimal}
use Rattle.std.specs.List.{AllByRecursion}
use Rattle.std.proofs.lemmas.List.{append-nil}
use Rattle.fractions.specs.Number.{zero_ℚ}
use Rattle.lp_model.specs.Sparse.{Ascends}
use Rattle.record_values.specs.declared.value.Value.{Value}
use Rattle.record_values.specs.declared.value.Value.TheVariants.{Id, Ratio, LowerEnd, UpperEnd, Letter, Bound, Fate, Entries}
use Rattle.record_file.specs.Words.{list_words}
use Rattle.record_file.specs.Fields.{value_words, words_of_values}
use Rattle.record_fields.specs.Lists.{list_fault, list_of}
use Rattle.record_fields.specs.Fields.{behind, field_fault, fields_fault, value_in, values_in}
use Rattle.record_fields.specs.declared.fields.Field.{Field}
use Rattle.record_fields.specs.declared.fields.Field.TheVariants as field
use Rattle.record_round_trip.specs.Ranges.{IsId, ValueFits}
use Rattle.record_round_trip.proofs.Numerals.{id_again, id_passes, number_again, number_passes, entry_passes}
use Rattle.record_round_trip.proofs.Words.{Whole, decimal_whole, ratio_whole}
use Rattle.record_round_trip.proofs.Ends.{lower_again, upper_again, bound_again, lower_passes, upper_passes, bound_passes, letter_again, letter_passes, side_again, fate_again, fate_passes, lower_whole, upper_whole, bound_whole, letter_whole, side_whole, fate_whole}
use Rattle.record_round_trip.proofs.Lists.{both, list_passes, list_again, list_whole}

-- a value is one of a field, before other values: an entry isn't 0, a list ascends, and nothing stands behind it
abbrev pub Suits : Field → Value → List Value → Type 0
Suits field.Id (Id k) vs = ⊤
Suits field.Number (Ratio q) vs = ⊤
Suits field.Entry (Ratio q) vs = q ≢ zero_ℚ
Suits field.LowerEnd (LowerEnd e) vs = ⊤
Suits field.UpperEnd (UpperEnd e) vs = ⊤
Suits field.SideLetter (Letter s) vs = ⊤
Suits field.Bound (Bound s e) vs = ⊤
Suits field.Fate (Fate f) vs = ⊤
Suits field.Entries (Entries ts) [] = (n : ℕ) × Ascends 0 n ts
Suits other v vs = ⊥

abbrev pub AllSuit : List Field → List Value → Type 0
AllSuit [] [] = ⊤
AllSuit (f ∷ fs) (v ∷ vs) = Suits f v vs × AllSuit fs vs
AllSuit fs vs = ⊥

-- the words of a value, before others, are read as it
record IsRead (f : Field) (v : Value) (ws : List (List ℕ)) : Type 0 where
  passes : field_fault f (value_words v ++ ws) ≡ None
  again : value_in f (value_words v ++ ws) ≡ v
  left : behind f (value_words v ++ ws) ≡ ws
  whole : AllByRecursion Whole (value_words v)

pub id_whole : (n : ℕ) → IsId n → Whole (decimal n)
id_whole n h = decimal_whole n (omega (arith, h))

is_read : (f : Field) (v : Value) (vs : List Value) → Suits f v vs → ValueFits v → IsRead f v (words_of_values vs)
is_read field.Id (Id k) vs s h = record { passes = id_passes k h; again = ap Id (id_again k h); left = refl; whole = (id_whole k h, tt) }
is_read field.Number (Ratio q) vs s h = record { passes = number_passes q h; again = ap Ratio (number_again q h); left = refl; whole = (ratio_whole q h, tt) }
is_read field.Entry (Ratio q) vs s h = record { passes = entry_passes q h s; again = ap Ratio (number_again q h); left = refl; whole = (ratio_whole q h, tt) }
is_read field.LowerEnd (LowerEnd e) vs s h = record { passes = lower_passes e h; again = ap LowerEnd (lower_again e h); left = refl; whole = (lower_whole e h, tt) }
is_read field.UpperEnd (UpperEnd e) vs s h = record { passes = upper_passes e h; again = ap UpperEnd (upper_again e h); left = refl; whole = (upper_whole e h, tt) }
is_read field.SideLetter (Letter x) vs s h = record { passes = letter_passes x; again = ap Letter (letter_again x); left = refl; whole = (letter_whole x, tt) }
is_read field.Bound (Bound x e) vs s h = record { passes = bound_passes x e h; again = ap₂ Bound (side_again x) (bound_again x e h); left = refl; whole = (side_whole x, (bound_whole x e h, tt)) }
is_read field.Fate (Fate x) vs s h = record { passes = fate_passes x; again = ap Fate (fate_again x); left = refl; whole = (fate_whole x, tt) }
is_read field.Entries (Entries ts) [] s h = record {
  passes = ap list_fault (append-nil (list_words ts)) ∙ list_passes s.0 ts s.1 h;
  again = ap Entries (ap list_of (append-nil (list_words ts)) ∙ list_again ts h);
  left = refl;
  whole = list_whole s.0 ts s.1 h;
}
is_read f v vs s h = absurd s

all_whole : (vs ws : List (List ℕ)) → AllByRecursion Whole vs → AllByRecursion Whole ws → AllByRecursion Whole (vs ++ ws)
all_whole [] ws h k = k
all_whole (v ∷ vs) ws h k = (h.0, all_whole vs ws h.1 k)

-- so the words of values are read as these
pub record AreRead (fs : List Field) (vs : List Value) : Type 0 where
  pub passes : fields_fault fs (words_of_values vs) ≡ None
  pub again : values_in fs (words_of_values vs) ≡ vs
  pub whole : AllByRecursion Whole (words_of_values vs)

pub are_read : (fs : List Field) (vs : List Value) → AllSuit fs vs → AllByRecursion ValueFits vs → AreRead fs vs
are_read [] [] s h = record { passes = refl; again = refl; whole = tt }
are_read [] (v ∷ vs) s h = absurd s
are_read (f ∷ fs) [] s h = absurd s
are_read (f ∷ fs) (v ∷ vs) s h =
    let here = is_read f v vs s.0 h.0 in
    let more = are_read fs vs s.1 h.1 in
    record {
      passes = both _ _ here.passes (ap (fields_fault fs) here.left ∙ more.passes);
      again = ap₂ (λ (x : Value) (xs : List Value). x ∷ xs) here.again (ap (values_in fs) here.left ∙ more.again);
      whole = all_whole (value_words v) (words_of_values vs) here.whole more.whole;
    }
