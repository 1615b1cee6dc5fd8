-- RAY has a place.
use Rattle.std.proofs.Common.{◌≡◌, ◌≢◌, ◌||◌, Bool, true, false, not, Option, Some, None, IfSome, is_some, refl, sym, ap, ◌∙◌, true≢false}
use Rattle.std.specs.Option.{option_map}
use Rattle.std.specs.Str.{bytes_eq}
use Rattle.std.proofs.lemmas.Slice.Eq.{bytes_eq-Decides}
use Rattle.command_words.specs.Names.{HasPlaceForRay, Text}
use Rattle.command_words.specs.declared.words.PresolveOptions.{PresolveOptions}
use Rattle.command_line.specs.Line.{has_no_place}

neither : (a b : Bool) → (a || b) ≡ false → (a ≡ false) × (b ≡ false)
neither true b e = cc
neither false b e = (refl, e)

apart : (x y : Text) → bytes_eq x y ≡ false → x ≢ y
apart x y differ same = true≢false (sym ((bytes_eq-Decides x y).1 same) ∙ differ)

is_dual : (b : Bool) → not b ≡ false → b ≡ true
is_dual true e = refl
is_dual false e = cc

-- RAY that is asked for has one, where nothing is found against it
pub placed : {A : Type 0} (now : A → Text) (options : PresolveOptions) (output records : Text) (ray : Option A) (asked : Option Text)
    → option_map now ray ≡ asked → (is_some asked ≡ true → options.ordered ≡ true) → has_no_place options output records (option_map now ray) ≡ false
    → IfSome ray (λ r. HasPlaceForRay options output records (now r))
placed now options output records None asked same ordered none = tt
placed now options output records (Some r) asked same ordered none =
    let first = neither (not options.dual) _ none in
    let second = neither (bytes_eq (now r) output) (bytes_eq (now r) records) first.1 in
    record {
      dual = is_dual options.dual first.0;
      ordered = ordered (ap is_some (sym same));
      off_output = apart (now r) output second.0;
      off_records = apart (now r) records second.1;
    }
