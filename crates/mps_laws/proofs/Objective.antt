-- A text without a fault has an N row.
use Rattle.std.proofs.Common.{◌≡◌, inl, inr, ℕ, List, [], ◌∷◌, Bool, true, false, cond, Some, None, Ok, unwrap_or, refl, sym, ap, ◌∙◌, subst}
use Rattle.std.specs.List.{list_any}
use Rattle.std.proofs.lemmas.List.Folds.{list_any-append}
use Rattle.std.proofs.lemmas.Bool.{or_left}
use Rattle.text_lines.specs.Lines.{lines_of}
use Rattle.mps_profile.specs.Texts.{Text}
use Rattle.mps_profile.specs.Cards.{Card, RowCard, MarkerCard, ColumnCard, SideCard, RangeCard, ValuedCard, BareCard, UnknownCard}
use Rattle.mps_profile.specs.Words.{kind_named}
use Rattle.mps_profile.specs.Rows.{row_kinds, is_free}
use Rattle.mps_profile.specs.Items.{Item, Silent, Moves, Says, item_of, progress_of, progress_after, cards_of, cards_after}
use Rattle.mps_profile.specs.Reading.{item_fault, section_fault, line_fault, first_fault, lines_read, is_ended}
use Rattle.mps_profile.specs.declared.dialect.Dialect.{Dialect}
use Rattle.mps_profile.specs.declared.dialect.Format.{Format}
use Rattle.mps_profile.specs.declared.progress.Progress.{Progress}
use Rattle.mps_profile.specs.declared.sections.Section.TheVariants.{Columns}
use Rattle.mps_profile.specs.declared.row_kinds.RowKind.TheVariants.{Free}
use Rattle.mps_profile.specs.declared.faults.MpsFaultKind.TheVariants.{NoObjective}
use Rattle.mps_laws.proofs.Faultless.{said_by, through, Ended}
use Rattle.mps_laws.proofs.Headings.{is_past_rows, past_at_end, Moved, moved}

abbrev HasFree : List Card → Type 0
HasFree cards = list_any is_free (row_kinds cards) ≡ true

-- past the rows there is an N row
abbrev IsReady : Progress → List Card → Type 0
IsReady progress cards = is_past_rows progress.section ≡ true → HasFree cards

with_card : (card : Card) (before : List Card) → HasFree before → HasFree (card ∷ before)
with_card (RowCard kind name) before has =
    list_any-append is_free (row_kinds before) (unwrap_or (kind_named kind) Free ∷ []) ∙ or_left (list_any is_free (row_kinds before)) _ has
with_card (MarkerCard word) before has = has
with_card (ColumnCard name pairs) before has = has
with_card (SideCard set pairs) before has = has
with_card (RangeCard set pairs) before has = has
with_card (ValuedCard set kind column number) before has = has
with_card (BareCard set kind column) before has = has
with_card UnknownCard before has = has

at_columns : (cards : List Card) → section_fault cards (Some Columns) ≡ None → HasFree cards
at_columns cards sound = by_test (list_any is_free (row_kinds cards)) sound
  where
    by_test : (b : Bool) → cond b None (Some NoObjective) ≡ None → b ≡ true
    by_test true h = refl
    by_test false h = cc

by_item : (format : Format) (before : Progress) (cards : List Card) (dialect : Dialect) (line : Text) (item : Item) → item_of format before line true ≡ Ok item
    → item_fault dialect cards (Ok item) ≡ None → IsReady before cards → IsReady (progress_after before (Ok item)) (cards_after cards (Ok item))
by_item format before cards dialect line Silent is sound ready = ready
by_item format before cards dialect line (Says card) is sound ready = λ past. with_card card cards (ready past)
by_item format before cards dialect line (Moves next) is sound ready = λ past. by_move (moved format before line next is) past
  where
    by_move : Moved before.section next.section → is_past_rows next.section ≡ true → HasFree cards
    by_move (inl still) past = ready (still past)
    by_move (inr columns) past = at_columns cards (sym (ap (section_fault cards) columns) ∙ sound)

abbrev Ready : Dialect → List Text → List Text → Type 0
Ready dialect lines rest = IsReady (progress_of dialect.format lines) (cards_of dialect.format lines)

one_line : (dialect : Dialect) (before : List Text) (line : Text) (after : List Text) → line_fault dialect before line after ≡ None → Ready dialect before (line ∷ after) → Ready dialect (line ∷ before) after
one_line dialect before line after sound ready =
    let saying = said_by dialect before line after sound in
    let progress : Progress = progress_of dialect.format before in
    let cards : List Card = cards_of dialect.format before in
    subst (λ r. IsReady (progress_after progress r) (cards_after cards r)) (sym saying.2) (by_item dialect.format progress cards dialect line saying.0 saying.2 saying.3 ready)

reads : (dialect : Dialect) (text : List ℕ) → first_fault dialect text ≡ None → Ended dialect (Ready dialect) (lines_read dialect text)
reads dialect text sound = through dialect (Ready dialect) (one_line dialect) [] (lines_of text) sound (λ past. cc)

-- the text comes to ENDATA
pub comes_to_end : (dialect : Dialect) (text : List ℕ) → first_fault dialect text ≡ None → is_ended dialect (lines_read dialect text) ≡ true
comes_to_end dialect text sound = (reads dialect text sound).1

pub has_objective : (dialect : Dialect) (text : List ℕ) → first_fault dialect text ≡ None → list_any is_free (row_kinds (cards_of dialect.format (lines_read dialect text))) ≡ true
has_objective dialect text sound =
    let ended = reads dialect text sound in
    ended.2 (past_at_end (progress_of dialect.format (lines_read dialect text)).section ended.1)
