-- A line that is taken.
use Rattle.std.proofs.Common.{◌≡◌, List, ◌∷◌, true, None, Result, Ok, sym, subst, ap, ◌∙◌}
use Rattle.mps_profile.specs.Texts.{Text}
use Rattle.mps_profile.specs.Items.{Item, item_of, has_card, progress_of, cards_of, progress_after, cards_after}
use Rattle.mps_profile.specs.Reading.{item_fault, line_fault}
use Rattle.mps_profile.specs.declared.dialect.Dialect.{Dialect}
use Rattle.mps_profile.specs.declared.progress.Progress.{Progress}
use Rattle.mps_profile.specs.declared.faults.MpsFaultKind.{MpsFaultKind}
use Rattle.mps_laws.proofs.Items.{said}
use Rattle.mps_tables.specs.Tables.{Holds}
use Rattle.mps_reader.specs.declared.reader.Reader.{Reader}
use Rattle.mps_reader.specs.Reading.{Has}

-- what is said is the same where a card comes next
pub took : (dialect : Dialect) (before : List Text) (line : Text) (after : List Text) (item : Item) (old new : Reader) → Has dialect before old
    → item_of dialect.format (progress_of dialect.format before) line (has_card after) ≡ Ok item
    → item_fault dialect (cards_of dialect.format before) (Ok item) ≡ None
    → new.progress ≡ progress_after old.progress (Ok item)
    → Holds dialect (cards_after (cards_of dialect.format before) (Ok item)) new.tables
    → (line_fault dialect before line after ≡ None) × Has dialect (line ∷ before) new
took dialect before line after item old new has is sound moved holds =
    let always : item_of dialect.format (progress_of dialect.format before) line true ≡ Ok item = said dialect.format (progress_of dialect.format before) line (has_card after) item is in
    let P : Result Item MpsFaultKind → Type 0 = λ i. Holds dialect (cards_after (cards_of dialect.format before) i) new.tables in (
      ap (item_fault dialect (cards_of dialect.format before)) is ∙ sound,
      record {
        progress = moved ∙ ap (λ (p : Progress). progress_after p (Ok item)) has.progress ∙ sym (ap (progress_after (progress_of dialect.format before)) always);
        tables = subst P (sym always) holds;
      },
    )
