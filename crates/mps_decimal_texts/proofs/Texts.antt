-- A text that has no fault as one of decimal numbers gives the same program where fractions are taken.
use Rattle.std.proofs.Common.{◌≡◌, ℕ, ◌+◌, Bool, true, false, cond, List, [], ◌∷◌, length, Option, Some, None, Result, Ok, Err, refl, sym, ap, ap₂, ◌∙◌, subst}
use Rattle.std.specs.Prelude.{unwrap_or, if◌then◌else◌}
use Rattle.fractions.specs.Number.{neg_ℚ, zero_ℚ}
use Rattle.text_lines.specs.Faults.{or_later}
use Rattle.text_lines.specs.Lines.{lines_of}
use Rattle.mps_profile.specs.Cards.{Card}
use Rattle.mps_profile.specs.Columns.{column_names, is_semi, is_whole, lower_of, lower_under, number_at, semi_upper_of, upper_of}
use Rattle.mps_profile.specs.Items.{Item, Moves, Says, Silent, cards_after, cards_of, has_card, item_of, progress_of}
use Rattle.mps_profile.specs.Program.{column_def, columns_below, objective_place, program_in, program_of, program_on, rows_below, sense_in, terms_below}
use Rattle.mps_profile.specs.Reading.{fault_from, first_fault, is_ended, item_fault, line_fault, lines_read, read_from}
use Rattle.mps_profile.specs.Rows.{range_of, row_kinds, row_names, side_of}
use Rattle.mps_profile.specs.Texts.{Text, field}
use Rattle.mps_profile.specs.declared.dialect.Format.{Format}
use Rattle.mps_profile.specs.declared.faults.MpsFaultKind.{MpsFaultKind}
use Rattle.mps_profile.specs.declared.progress.Told.{Told}
use Rattle.mps_laws.specs.Faultless.{IsFaultless}
use Rattle.mps_laws.proofs.Faultless.{faultless, said_by}
use Rattle.mps_decimal_texts.proofs.Cards.{AllSame, all_same, card_sound, entry_same, lower_same, range_same, semi_same, semi_upper_same, side_same, upper_same, whole_same}
use Rattle.mps_decimal_texts.proofs.Numbers.{decimal, fraction}

module _ (format : Format) where
  -- ---- faults
  item_sound : (cards : List Card) (r : Result Item MpsFaultKind) → AllSame format cards → item_fault (decimal format) cards r ≡ None → item_fault (fraction format) cards r ≡ None
  item_sound cards (Err fault) h e = e
  item_sound cards (Ok Silent) h e = refl
  item_sound cards (Ok (Moves next)) h e = e
  item_sound cards (Ok (Says card)) h e = card_sound format cards card h e

  item_joins : (cards : List Card) (item : Item) → item_fault (decimal format) cards (Ok item) ≡ None → IsFaultless (decimal format) cards → IsFaultless (decimal format) (cards_after cards (Ok item))
  item_joins cards Silent sound all = all
  item_joins cards (Moves next) sound all = all
  item_joins cards (Says card) sound all = (sound, all)

  line_joins : (before : List Text) (line : Text) (after : List Text) → line_fault (decimal format) before line after ≡ None
      → IsFaultless (decimal format) (cards_of format before) → IsFaultless (decimal format) (cards_of format (line ∷ before))
  line_joins before line after sound all =
      let saying = said_by (decimal format) before line after sound in
      subst (λ (r : Result Item MpsFaultKind). IsFaultless (decimal format) (cards_after (cards_of format before) r)) (sym saying.2) (item_joins (cards_of format before) saying.0 saying.3 all)

  fault_none : (before after : List Text) → IsFaultless (decimal format) (cards_of format before) → fault_from (decimal format) before after ≡ None → fault_from (fraction format) before after ≡ None
  fault_none before [] all e = e
  fault_none before (line ∷ after) all e =
      by (is_ended (decimal format) before) (line_fault (decimal format) before line after) refl e (fault_none (line ∷ before) after)
    where
      by : (b : Bool) (o : Option MpsFaultKind) → line_fault (decimal format) before line after ≡ o
          → cond b None (or_later o (length before + 1) (fault_from (decimal format) (line ∷ before) after)) ≡ None
          → (IsFaultless (decimal format) (cards_of format (line ∷ before)) → fault_from (decimal format) (line ∷ before) after ≡ None → fault_from (fraction format) (line ∷ before) after ≡ None)
          → cond b None (or_later (line_fault (fraction format) before line after) (length before + 1) (fault_from (fraction format) (line ∷ before) after)) ≡ None
      by true o is none later = refl
      by false (Some f) is none later = absurd (let g = none in cc)
      by false None is none later =
          ap₂ (λ (o : Option MpsFaultKind) (r : Option (MpsFaultKind × ℕ)). or_later o (length before + 1) r)
          (item_sound (cards_of format before) (item_of format (progress_of format before) line (has_card after)) (all_same format (cards_of format before) all) is)
          (later (line_joins before line after is all) none)

  -- ---- what is read
  lines_same : (before after : List Text) → read_from (fraction format) before after ≡ read_from (decimal format) before after
  lines_same before [] = refl
  lines_same before (line ∷ after) = ap (λ (ls : List Text). if is_ended (decimal format) before then before else ls) (lines_same (line ∷ before) after)

  program_same : (told : Told) (cards : List Card) → AllSame format cards → program_in (fraction format) told cards ≡ program_in (decimal format) told cards
  program_same told cards h =
      let sides : side_of (fraction format) cards ≡ side_of (decimal format) cards = λ t i. side_same format cards h i t in
      let ranges : range_of (fraction format) cards ≡ range_of (decimal format) cards = λ t i. range_same format cards h i t in
      let numbers : number_at (fraction format) cards ≡ number_at (decimal format) cards = λ t j i. entry_same format cards h j i t in
      let lowers : lower_of (fraction format) cards ≡ lower_of (decimal format) cards = λ t j. lower_same format cards h j t in
      let uppers : upper_of (fraction format) cards ≡ upper_of (decimal format) cards = λ t j. upper_same format cards h j t in
      let kinds : semi_upper_of (fraction format) cards ≡ semi_upper_of (decimal format) cards = λ t j. semi_upper_same format cards h j t in
      let wholes : is_whole (fraction format) cards ≡ is_whole (decimal format) cards = λ t j. whole_same format cards h j t in
      let semis : is_semi (fraction format) cards ≡ is_semi (decimal format) cards = λ t j. semi_same format cards h j t in
      let columns : column_def (fraction format) cards ≡ column_def (decimal format) cards = λ t j. record {
        name = field (column_names cards) j;
        cost = unwrap_or (numbers t j (objective_place cards)) zero_ℚ;
        lower = unwrap_or (lowers t j) (lower_under (unwrap_or (kinds t j) false) (unwrap_or (uppers t j) None));
        upper = unwrap_or (uppers t j) None;
        whole = wholes t j;
        semi = semis t j;
        entries = terms_below (row_kinds cards) (λ i. unwrap_or (numbers t j i) zero_ℚ) (length (row_names cards));
      } in
      λ t. record {
        sense = sense_in told;
        objective = field (row_names cards) (objective_place cards);
        constant = neg_ℚ (unwrap_or (sides t (objective_place cards)) zero_ℚ);
        rows = rows_below (row_names cards) (row_kinds cards) (λ i. unwrap_or (sides t i) zero_ℚ) (ranges t) (length (row_names cards));
        columns = columns_below (columns t) (length (column_names cards));
      }

pub no_fault : (format : Format) (text : List ℕ) → first_fault (decimal format) text ≡ None → first_fault (fraction format) text ≡ None
no_fault format text sound = fault_none format [] (lines_of text) tt sound

pub one_program : (format : Format) (text : List ℕ) → first_fault (decimal format) text ≡ None → program_of (fraction format) text ≡ program_of (decimal format) text
one_program format text sound =
    ap (program_on (fraction format)) (lines_same format [] (lines_of text))
    ∙ program_same format (progress_of format (lines_read (decimal format) text)).sense (cards_of format (lines_read (decimal format) text))
    (all_same format (cards_of format (lines_read (decimal format) text)) (faultless (decimal format) text sound))
