-- A text without a fault has cards without one.
use Rattle.std.proofs.Common.{◌≡◌, ℕ, ◌+◌, List, [], ◌∷◌, length, Bool, true, false, cond, Option, Some, None, Result, Ok, Err, refl, sym, subst}
use Rattle.text_lines.specs.Faults.{or_later}
use Rattle.text_lines.specs.Lines.{lines_of}
use Rattle.mps_profile.specs.Texts.{Text}
use Rattle.mps_profile.specs.Cards.{Card}
use Rattle.mps_profile.specs.Items.{Item, Silent, Moves, Says, item_of, has_card, progress_of, cards_of, cards_after}
use Rattle.mps_profile.specs.Reading.{item_fault, line_fault, fault_from, read_from, first_fault, lines_read, is_ended}
use Rattle.mps_profile.specs.declared.dialect.Dialect.{Dialect}
use Rattle.mps_profile.specs.declared.faults.MpsFaultKind.{MpsFaultKind}
use Rattle.mps_profile.specs.declared.faults.MpsFaultKind.TheVariants.{NoEnd}
use Rattle.mps_laws.specs.Faultless.{IsFaultless}
use Rattle.mps_laws.proofs.Items.{said}

-- a card without a fault joins those before it
one_item : (dialect : Dialect) (cards : List Card) (item : Item) → item_fault dialect cards (Ok item) ≡ None → IsFaultless dialect cards → IsFaultless dialect (cards_after cards (Ok item))
one_item dialect cards Silent sound all = all
one_item dialect cards (Moves next) sound all = all
one_item dialect cards (Says card) sound all = (sound, all)

-- what a line without a fault says
pub said_by : (dialect : Dialect) (before : List Text) (line : Text) (after : List Text) → line_fault dialect before line after ≡ None
    → (item : Item) × (item_of dialect.format (progress_of dialect.format before) line (has_card after) ≡ Ok item)
    × (item_of dialect.format (progress_of dialect.format before) line true ≡ Ok item) × (item_fault dialect (cards_of dialect.format before) (Ok item) ≡ None)
said_by dialect before line after sound = by_item (item_of dialect.format (progress_of dialect.format before) line (has_card after)) refl sound
  where
    by_item : (r : Result Item MpsFaultKind) → item_of dialect.format (progress_of dialect.format before) line (has_card after) ≡ r → item_fault dialect (cards_of dialect.format before) r ≡ None
        → (item : Item) × (item_of dialect.format (progress_of dialect.format before) line (has_card after) ≡ Ok item)
        × (item_of dialect.format (progress_of dialect.format before) line true ≡ Ok item) × (item_fault dialect (cards_of dialect.format before) (Ok item) ≡ None)
    by_item (Ok item) is none = (item, is, said dialect.format (progress_of dialect.format before) line (has_card after) item is, none)
    by_item (Err fault) is none = cc

one_line : (dialect : Dialect) (before : List Text) (line : Text) (after : List Text) → line_fault dialect before line after ≡ None
    → IsFaultless dialect (cards_of dialect.format before) → IsFaultless dialect (cards_of dialect.format (line ∷ before))
one_line dialect before line after sound all =
    let saying = said_by dialect before line after sound in
    subst (λ r. IsFaultless dialect (cards_after (cards_of dialect.format before) r)) (sym saying.2) (one_item dialect (cards_of dialect.format before) saying.0 saying.3 all)

-- the lines come to ENDATA, and something holds of them and the lines after them
abbrev pub Ended : Dialect → (List Text → List Text → Type 0) → List Text → Type 0
Ended dialect P lines = (rest : List Text) × (is_ended dialect lines ≡ true) × P lines rest

abbrev unended : List Text → Option (MpsFaultKind × ℕ)
unended before = Some (NoEnd, length before + 1)

-- what each line without a fault keeps, the lines that are read have
pub through : (dialect : Dialect) (P : List Text → List Text → Type 0)
    → ((before : List Text) (line : Text) (after : List Text) → line_fault dialect before line after ≡ None → P before (line ∷ after) → P (line ∷ before) after)
    → (before after : List Text) → fault_from dialect before after ≡ None → P before after → Ended dialect P (read_from dialect before after)
through dialect P step before [] sound p = ([], by_test (is_ended dialect before) sound, p)
  where
    by_test : (b : Bool) → cond b None (unended before) ≡ None → b ≡ true
    by_test true h = refl
    by_test false h = cc
through dialect P step before (line ∷ after) sound p = by_test (is_ended dialect before) (line_fault dialect before line after) refl refl sound (through dialect P step (line ∷ before) after)
  where
    by_test : (b : Bool) (o : Option MpsFaultKind) → is_ended dialect before ≡ b → line_fault dialect before line after ≡ o
        → cond b None (or_later o (length before + 1) (fault_from dialect (line ∷ before) after)) ≡ None
        → (fault_from dialect (line ∷ before) after ≡ None → P (line ∷ before) after → Ended dialect P (read_from dialect (line ∷ before) after))
        → Ended dialect P (cond b before (read_from dialect (line ∷ before) after))
    by_test true o ends is none later = (line ∷ after, ends, p)
    by_test false (Some f) ends is none later = cc
    by_test false None ends is none later = later none (step before line after is p)

pub faultless : (dialect : Dialect) (text : List ℕ) → first_fault dialect text ≡ None → IsFaultless dialect (cards_of dialect.format (lines_read dialect text))
faultless dialect text sound = (through dialect (λ lines rest. IsFaultless dialect (cards_of dialect.format lines)) (one_line dialect) [] (lines_of text) sound tt).2
