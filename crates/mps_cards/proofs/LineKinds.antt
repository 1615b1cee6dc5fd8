-- What kind of line a line is, by its bytes.
use Rattle.std.proofs.Common.{◌≡◌, ℕ, ◌==◌, List, [], ◌∷◌, Bool, true, false, get_or, refl, sym, ◌∙◌, ap}
use Rattle.std.specs.Prelude.{if◌then◌else◌}
use Rattle.std.proofs.lemmas.Bool.{true≢false, false≢true, eqb-true}
use Rattle.std.specs.List.{list_all}
use Rattle.text_lines.specs.Lines.{lines_of}
use Rattle.mps_profile.specs.Texts.{Text}
use Rattle.mps_profile.specs.Fields.{is_blank}
use Rattle.mps_profile.specs.Items.{Line, Blank, Heading, CardLine, line_with, line_of, or_next, has_card}
use Rattle.mps_cards.specs.Texts.{kind_of}
use Rattle.mps_cards.specs.declared.lines.LineKind.{LineKind}
use Rattle.mps_cards.specs.declared.lines.LineKind as kinds
use Rattle.mps_cards.proofs.Fielding.{fields-bare, fields-some}

without_fields : (text : Text) → line_with text [] ≡ Blank
without_fields [] = refl
without_fields (b ∷ bytes) = refl

-- a line of blanks says nothing
pub bare-kind : (text : Text) → list_all is_blank text ≡ true → kind_of (line_of text) ≡ kinds.TheVariants.Blank
bare-kind text all = ap (λ fields. kind_of (line_with text fields)) (fields-bare text all) ∙ ap kind_of (without_fields text)

kind_by : (star blank : Bool) (word : Text) (words : List Text) → kind_of (if star then Blank else if blank then CardLine else Heading word words) ≡ (if star then kinds.TheVariants.Blank else if blank then kinds.TheVariants.Card else kinds.TheVariants.Heading)
kind_by true blank word words = refl
kind_by false true word words = refl
kind_by false false word words = refl

-- of every other line the first byte says it
first_kind : (b : ℕ) (bytes : Text) → list_all is_blank (b ∷ bytes) ≡ false → kind_of (line_of (b ∷ bytes)) ≡ (if b == 42 then kinds.TheVariants.Blank else if is_blank b then kinds.TheVariants.Card else kinds.TheVariants.Heading)
first_kind b bytes all =
    let has = fields-some (b ∷ bytes) all in
    ap (λ fields. kind_of (line_with (b ∷ bytes) fields)) has.are ∙ kind_by (b == 42) (is_blank b) has.first has.more

card_by : (t : Bool) (b : ℕ) → (b == 42) ≡ t → is_blank b ≡ true → (if t then kinds.TheVariants.Blank else if is_blank b then kinds.TheVariants.Card else kinds.TheVariants.Heading) ≡ kinds.TheVariants.Card
card_by true b is blank = absurd (false≢true (sym (ap is_blank (eqb-true b 42 is)) ∙ blank))
card_by false b is blank = ap (λ t. if t then kinds.TheVariants.Card else kinds.TheVariants.Heading) blank

pub card-kind : (text : Text) → list_all is_blank text ≡ false → is_blank (get_or text 0 0) ≡ true → kind_of (line_of text) ≡ kinds.TheVariants.Card
card-kind [] all blank = absurd (true≢false all)
card-kind (b ∷ bytes) all blank = first_kind b bytes all ∙ card_by (b == 42) b refl blank

-- whether a card comes next, by the kind of the first line
abbrev pub next_by : LineKind → Bool → Bool
next_by kinds.TheVariants.Blank next = next
next_by kinds.TheVariants.Heading next = false
next_by kinds.TheVariants.Card next = true

or_next_kind : (line : Line) (next : Bool) → or_next line next ≡ next_by (kind_of line) next
or_next_kind Blank next = refl
or_next_kind (Heading word words) next = refl
or_next_kind CardLine next = refl

pub next-is : (rest after : List ℕ) (line : Text) (kind : LineKind) → lines_of rest ≡ line ∷ lines_of after → kind ≡ kind_of (line_of line) → has_card (lines_of rest) ≡ next_by kind (has_card (lines_of after))
next-is rest after line kind first is = ap has_card first ∙ or_next_kind (line_of line) (has_card (lines_of after)) ∙ ap (λ k. next_by k (has_card (lines_of after))) (sym is)
