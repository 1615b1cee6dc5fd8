-- The words of ends, sides and fates are read as they are written.
use Rattle.std.proofs.Common.{◌≡◌, Bool, false, cond, not, ◌||◌, Option, Some, None, Err, refl, ap, ap₂, ◌∙◌}
use Rattle.std.specs.Prelude.{codes, is_some, unwrap_or}
use Rattle.fractions.specs.Number.{Number}
use Rattle.number_texts.specs.declared.reading.ReadNumber.TheVariants.{NotNumber}
use Rattle.undo_records.specs.declared.side.Side.{Side}
use Rattle.undo_records.specs.declared.side.Side.TheVariants.{Lower, Upper}
use Rattle.undo_records.specs.declared.side.RowFate.{RowFate}
use Rattle.undo_records.specs.declared.side.RowFate.TheVariants.{Kept, Dropped}
use Rattle.record_file.specs.Words.{ratio_word, lower_word, upper_word, letter_word, side_word, bound_word, fate_word}
use Rattle.record_fields.specs.Ends.{is_below, is_above, is_endless, end_of, letter_of, bound_of, fate_of}
use Rattle.record_fields.specs.Faults.{unless}
use Rattle.record_fields.specs.Fields.{bound_fault}
use Rattle.record_fields.specs.declared.faults.LineFault.TheVariants.{BadLine}
use Rattle.record_fields.specs.Ratios.{ratio_read, ratio_of, number_fault}
use Rattle.fractions.specs.Lowest.{Fits}
use Rattle.record_round_trip.specs.Ranges.{EndFits}
use Rattle.record_round_trip.proofs.Numerals.{number_again, number_passes, no_word}
use Rattle.record_round_trip.proofs.Words.{Whole, ratio_whole}
use Rattle.record_round_trip.proofs.Lists.{both, holds}

read_below : ratio_read (codes "-inf") ≡ Err NotNumber
unfolding ratio_read
read_below = refl

read_above : ratio_read (codes "inf") ≡ Err NotNumber
unfolding ratio_read
read_above = refl

not_below : (q : Number) → Fits q → is_below (ratio_word q) ≡ false
not_below q f = no_word (codes "-inf") q f read_below

not_above : (q : Number) → Fits q → is_above (ratio_word q) ≡ false
not_above q f = no_word (codes "inf") q f read_above

not_endless : (q : Number) → Fits q → is_endless (ratio_word q) ≡ false
not_endless q f = ap₂ (λ (a b : Bool). a || b) (not_below q f) (not_above q f)

number_end : (q : Number) → Fits q → end_of (ratio_word q) ≡ Some q
number_end q f = ap (λ (b : Bool). cond b None (Some (ratio_of (ratio_word q)))) (not_endless q f) ∙ ap Some (number_again q f)

pub lower_again : (e : Option Number) → EndFits e → end_of (lower_word e) ≡ e
lower_again None f = refl
lower_again (Some q) f = number_end q f

pub upper_again : (e : Option Number) → EndFits e → end_of (upper_word e) ≡ e
upper_again None f = refl
upper_again (Some q) f = number_end q f

pub bound_again : (s : Side) (e : Option Number) → EndFits e → end_of (bound_word s e) ≡ e
bound_again Lower e f = lower_again e f
bound_again Upper e f = upper_again e f

pub lower_passes : (e : Option Number) → EndFits e → cond (is_below (lower_word e)) None (number_fault (ratio_read (lower_word e))) ≡ None
lower_passes None f = refl
lower_passes (Some q) f = ap (λ (b : Bool). cond b None (number_fault (ratio_read (ratio_word q)))) (not_below q f) ∙ number_passes q f

pub upper_passes : (e : Option Number) → EndFits e → cond (is_above (upper_word e)) None (number_fault (ratio_read (upper_word e))) ≡ None
upper_passes None f = refl
upper_passes (Some q) f = ap (λ (b : Bool). cond b None (number_fault (ratio_read (ratio_word q)))) (not_above q f) ∙ number_passes q f

some_passes : (q : Number) → Fits q → cond (is_endless (ratio_word q)) None (number_fault (ratio_read (ratio_word q))) ≡ None
some_passes q f = ap (λ (b : Bool). cond b None (number_fault (ratio_read (ratio_word q)))) (not_endless q f) ∙ number_passes q f

-- a bound has no end only on its own side
pub bound_passes : (s : Side) (e : Option Number) → EndFits e → bound_fault (side_word s) (bound_word s e) ≡ None
bound_passes Lower None f = refl
bound_passes Lower (Some q) f = both _ _ (some_passes q f) (holds _ BadLine (ap not (not_above q f)))
bound_passes Upper None f = refl
bound_passes Upper (Some q) f = both _ _ (some_passes q f) (holds _ BadLine (ap not (not_below q f)))

pub letter_again : (s : Side) → unwrap_or (letter_of (letter_word s)) Lower ≡ s
letter_again Lower = refl
letter_again Upper = refl

pub letter_passes : (s : Side) → unless (is_some (letter_of (letter_word s))) BadLine ≡ None
letter_passes Lower = refl
letter_passes Upper = refl

pub side_again : (s : Side) → unwrap_or (bound_of (side_word s)) Lower ≡ s
side_again Lower = refl
side_again Upper = refl

pub fate_again : (f : RowFate) → unwrap_or (fate_of (fate_word f)) Kept ≡ f
fate_again Kept = refl
fate_again Dropped = refl

pub fate_passes : (f : RowFate) → unless (is_some (fate_of (fate_word f))) BadLine ≡ None
fate_passes Kept = refl
fate_passes Dropped = refl

-- none has a gap
pub lower_whole : (e : Option Number) → EndFits e → Whole (lower_word e)
lower_whole None f = refl
lower_whole (Some q) f = ratio_whole q f

pub upper_whole : (e : Option Number) → EndFits e → Whole (upper_word e)
upper_whole None f = refl
upper_whole (Some q) f = ratio_whole q f

pub bound_whole : (s : Side) (e : Option Number) → EndFits e → Whole (bound_word s e)
bound_whole Lower e f = lower_whole e f
bound_whole Upper e f = upper_whole e f

pub letter_whole : (s : Side) → Whole (letter_word s)
letter_whole Lower = refl
letter_whole Upper = refl

pub side_whole : (s : Side) → Whole (side_word s)
side_whole Lower = refl
side_whole Upper = refl

pub fate_whole : (f : RowFate) → Whole (fate_word f)
fate_whole Kept = refl
fate_whole Dropped = refl
