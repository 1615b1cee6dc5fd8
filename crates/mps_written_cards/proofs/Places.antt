-- Names that differ, each at its own place.
use Rattle.std.proofs.Common.{◌≡◌, ℕ, suc, ◌<◌, List, [], ◌∷◌, ◌++◌, length, length-append, get_or, Bool, false, cond, Option, Some, None, refl, sym, ap, ◌∙◌, arith}
use Rattle.std.specs.Prelude.{position}
use Rattle.std.specs.List.{position_or_len}
use Rattle.std.specs.Str.{bytes_eq}
use Rattle.std.proofs.lemmas.Bool.{false_from_ne_true, lt-ltb}
use Rattle.std.proofs.lemmas.List.{get_or_append_left, get_or_at}
use Rattle.std.proofs.lemmas.List.Sums.{position_or_len_is}
use Rattle.std.proofs.lemmas.Slice.Eq.{bytes_eq-Decides}
use Rattle.names.specs.Names.{place}
use Rattle.lp_model.specs.Names.{Differ}
use Rattle.mps_profile.specs.Texts.{Text}
use Rattle.mps_laws.specs.Names.{IsNumbered}
use Rattle.mps_laws.proofs.Places.{place_within, one_place}

position_at : (p : Text → Bool) (xs : List Text) (i : ℕ) → position_or_len p xs ≡ i → i < length xs → position p xs ≡ Some i
position_at p xs i is within = rw is (ap (λ (b : Bool). cond b (Some i) None) (lt-ltb i (length xs) within))

pub numbered : (names : List Text) → Differ names → IsNumbered names
numbered names differ i within =
    position_at (bytes_eq (get_or names i [])) names i
    (position_or_len_is (bytes_eq (get_or names i [])) names i [] (omega (arith, within)) before (λ l. (bytes_eq-Decides (get_or names i []) (get_or names i [])).1 refl))
    within
  where
    before : (k : ℕ) → k < i → bytes_eq (get_or names i []) (get_or names k []) ≡ false
    before k lt = false_from_ne_true _ (λ same. differ k i [] lt within (sym ((bytes_eq-Decides (get_or names i []) (get_or names k [])).0 same)))

-- a name is none of those before it
pub fresh : (done more : List Text) (name : Text) → IsNumbered (done ++ name ∷ more) → place name done ≡ None
fresh done more name each = by_place (place name done) refl
  where
    all : List Text
    all = done ++ name ∷ more

    long : length done < length all
    long = let e : length (name ∷ more) ≡ suc (length more) = refl in omega (arith, length-append done (name ∷ more), e)

    by_place : (o : Option ℕ) → place name done ≡ o → o ≡ None
    by_place None is = refl
    by_place (Some k) is =
        let found = place_within name done k is in
        let here : get_or all k [] ≡ get_or all (length done) [] = get_or_append_left done (name ∷ more) [] k found.0 ∙ sym found.1 ∙ sym (get_or_at done name more [] (length done) refl) in
        absurd (omega (arith, found.0, one_place all k (length done) each (omega (arith, found.0, long)) long here))

-- and stands right behind them
pub next_place : (done more : List Text) (name : Text) → IsNumbered (done ++ name ∷ more) → place name (done ++ name ∷ more) ≡ Some (length done)
next_place done more name each =
    ap (λ (n : Text). place n (done ++ name ∷ more)) (sym (get_or_at done name more [] (length done) refl))
    ∙ each (length done) (let e : length (name ∷ more) ≡ suc (length more) = refl in omega (arith, length-append done (name ∷ more), e))
