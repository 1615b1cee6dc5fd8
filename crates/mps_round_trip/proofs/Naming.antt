-- Names that can stand in a text are words of it.
use Rattle.std.proofs.Common.{◌≡◌, ◌≢◌, ℕ, ◌==◌, not, Bool, true, false, List, [], ◌∷◌, length, refl}
use Rattle.std.specs.Prelude.{All, codes}
use Rattle.std.specs.List.{list_all}
use Rattle.std.specs.Str.{bytes_eq}
use Rattle.std.proofs.lemmas.Bool.{and_from, and_parts, eqb-true, not-true, not_from_false, or_from}
use Rattle.std.proofs.lemmas.List.Elements.{All-head, All-tail}
use Rattle.std.proofs.lemmas.Slice.Eq.{bytes_eq-Decides}
use Rattle.lp_model.specs.Name.{is_break, IsName}
use Rattle.mps_written_lines.specs.Words.{ends_word, IsWord, IsRowName}
use Rattle.mps_round_trip.specs.Plain.{CanNameRow, HasNoReturn}

no_return : (b : ℕ) → b ≢ 13 → (b == 13) ≡ false
no_return b h = by (b == 13) refl
  where
    by : (t : Bool) → (b == 13) ≡ t → t ≡ false
    by true is = absurd (h (eqb-true b 13 is))
    by false is = refl

unended : (name : List ℕ) → list_all (λ b. not (is_break b)) name ≡ true → HasNoReturn name → list_all (λ b. not (ends_word b)) name ≡ true
unended [] unbroken h = refl
unended (b ∷ bytes) unbroken h =
    let parts = and_parts (not (is_break b)) (list_all (λ x. not (is_break x)) bytes) unbroken in
    and_from (not (ends_word b)) (list_all (λ x. not (ends_word x)) bytes)
    (not_from_false (ends_word b) (or_from (is_break b) (b == 13) (not-true (is_break b) parts.0) (no_return b (All-head (λ x. x ≢ 13) b bytes h))))
    (unended bytes parts.1 (All-tail (λ x. x ≢ 13) b bytes h))

pub word_of : (name : List ℕ) → IsName name → HasNoReturn name → IsWord name
word_of name is h =
    let parts = and_parts (not (length name == 0)) (list_all (λ b. not (is_break b)) name) is in
    record { some = not-true (length name == 0) parts.0; plain = unended name parts.1 h }

no_marker : (name : List ℕ) → name ≢ codes "'MARKER'" → bytes_eq name (codes "'MARKER'") ≡ false
no_marker name h = by (bytes_eq name (codes "'MARKER'")) refl
  where
    by : (t : Bool) → bytes_eq name (codes "'MARKER'") ≡ t → t ≡ false
    by true is = absurd (h ((bytes_eq-Decides name (codes "'MARKER'")).0 is))
    by false is = refl

pub row_name_of : (name : List ℕ) → IsName name → CanNameRow name → IsRowName name
row_name_of name is h = record { word = word_of name is h.0; other = no_marker name h.1 }

pub words_of : (names : List (List ℕ)) → All IsName names → All HasNoReturn names → All IsWord names
words_of names are h = λ k d l. word_of _ (are k d l) (h k d l)

pub row_names_of : (names : List (List ℕ)) → All IsName names → All CanNameRow names → All IsRowName names
row_names_of names are h = λ k d l. row_name_of _ (are k d l) (h k d l)
