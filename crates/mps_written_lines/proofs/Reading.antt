-- The written lines are read without a fault, and their cards are the written ones.
use Rattle.std.proofs.Common.{◌≡◌, ◌+◌, List, [], ◌∷◌, ◌++◌, map, length, Bool, true, false, cond, Option, Some, None, Ok, Err, refl, ◌∙◌, ap, ap₂}
use Rattle.std.specs.Prelude.{codes, flat_map}
use Rattle.std.specs.List.{AllByRecursion, list_any}
use Rattle.fractions.specs.declared.Numbers.{Numbers}
use Rattle.lp_model.specs.declared.program.Sense.{Sense}
use Rattle.lp_model.specs.declared.program.Sense.TheVariants.{Min, Max}
use Rattle.lp_model.specs.ProgramData.{ProgramData}
use Rattle.lp_model.specs.Names.{names_of_rows}
use Rattle.text_lines.specs.Faults.{or_later}
use Rattle.mps_profile.specs.Texts.{Text}
use Rattle.mps_profile.specs.Fields.{fields_of}
use Rattle.mps_profile.specs.Cards.{Card}
use Rattle.mps_profile.specs.FreeCards.{free_card}
use Rattle.mps_profile.specs.Rows.{row_kinds, is_free}
use Rattle.mps_profile.specs.Items.{Line, CardLine, line_with, line_of, Item, Moves, Says, start, item_of, item_by, card_item, says, has_card, progress_after, cards_after, progress_of, cards_of, may_follow}
use Rattle.mps_profile.specs.Reading.{section_fault, item_fault, line_fault, is_end, is_ended, fault_from, read_from}
use Rattle.mps_profile.specs.declared.dialect.Format.TheVariants.{Free}
use Rattle.mps_profile.specs.declared.dialect.Dialect.{Dialect}
use Rattle.mps_profile.specs.declared.sections.Section.{Section}
use Rattle.mps_profile.specs.declared.sections.Section.TheVariants.{Name, Objsense, Rows, Columns, Rhs, Ranges, Bounds, Endata}
use Rattle.mps_profile.specs.declared.progress.Told.{Told}
use Rattle.mps_profile.specs.declared.progress.Told as told
use Rattle.mps_profile.specs.declared.progress.Progress.{Progress}
use Rattle.mps_profile.specs.declared.faults.MpsFaultKind.{MpsFaultKind}
use Rattle.mps_profile.specs.declared.faults.MpsFaultKind.TheVariants.{NoEnd, NoObjective, SectionOrder}
use Rattle.mps_laws.specs.Faultless.{IsFaultless}
use Rattle.mps_writer.specs.Cards.{spaced}
use Rattle.mps_written_lines.specs.Words.{IsWord}
use Rattle.mps_written_lines.specs.Formats.{free_format}
use Rattle.mps_written_lines.specs.Written.{WrittenCard, all_rows, rows_written, columns_written, sides_written, ranges_written, bounds_written, onto, row_cards, column_cards, side_cards, range_cards, written_cards, line, sense_lines, section_lines, written_lines}
use Rattle.mps_written_lines.specs.AreCards.{IsCardOf, AreCards}
use Rattle.mps_written_lines.proofs.Lines.{words_again}

-- reading the lines from here goes to the end without a fault
abbrev pub Reads : Numbers → List Text → Progress → List Card → Progress → List Card → Type 0
Reads numbers lines progress cards last_progress last_cards =
    (before : List Text) → progress_of Free before ≡ progress → cards_of Free before ≡ cards
    → (fault_from (free_format numbers) before lines ≡ None)
    × (progress_of Free (read_from (free_format numbers) before lines) ≡ last_progress)
    × (cards_of Free (read_from (free_format numbers) before lines) ≡ last_cards)

at_end : (numbers : Numbers) (progress : Progress) (cards : List Card) → is_end progress.section ≡ true → Reads numbers [] progress cards progress cards
at_end numbers progress cards ends before ep ec =
    (ap (λ (b : Bool). cond b None (Some (NoEnd, length before + 1))) (ap (λ (p : Progress). is_end p.section) ep ∙ ends), ep, ec)

one_line : (numbers : Numbers) (text : Text) (after : List Text) (progress : Progress) (cards : List Card) (item : Item) (last_progress : Progress) (last_cards : List Card)
    → is_end progress.section ≡ false
    → item_of Free progress text (has_card after) ≡ Ok item → item_of Free progress text true ≡ Ok item
    → item_fault (free_format numbers) cards (Ok item) ≡ None
    → Reads numbers after (progress_after progress (Ok item)) (cards_after cards (Ok item)) last_progress last_cards
    → Reads numbers (text ∷ after) progress cards last_progress last_cards
one_line numbers text after progress cards item last_progress last_cards going said says sound rest before ep ec =
    let d : Dialect = free_format numbers in
    let ended : is_ended d before ≡ false = ap (λ (p : Progress). is_end p.section) ep ∙ going in
    let none : line_fault d before text after ≡ None =
    ap₂ (λ (c : List Card) (p : Progress). item_fault d c (item_of Free p text (has_card after))) ec ep ∙ ap (item_fault d cards) said ∙ sound in
    let fp : progress_of Free (text ∷ before) ≡ progress_after progress (Ok item) =
    ap (λ (p : Progress). progress_after p (item_of Free p text true)) ep ∙ ap (progress_after progress) says in
    let fc : cards_of Free (text ∷ before) ≡ cards_after cards (Ok item) =
    ap₂ (λ (c : List Card) (p : Progress). cards_after c (item_of Free p text true)) ec ep ∙ ap (cards_after cards) says in
    let later = rest (text ∷ before) fp fc in
    let goes : read_from d before (text ∷ after) ≡ read_from d (text ∷ before) after = ap (λ (b : Bool). cond b before (read_from d (text ∷ before) after)) ended in (
      ap (λ (b : Bool). cond b None (or_later (line_fault d before text after) (length before + 1) (fault_from d (text ∷ before) after))) ended
          ∙ ap (λ (o : Option MpsFaultKind). or_later o (length before + 1) (fault_from d (text ∷ before) after)) none ∙ later.0,
      ap (progress_of Free) goes ∙ later.1,
      ap (cards_of Free) goes ∙ later.2,
    )

pub card_kind : (word : Text) (words : List Text) → AllByRecursion IsWord (word ∷ words) → line_of (spaced (word ∷ words)) ≡ CardLine
card_kind word words all = ap (line_with (spaced (word ∷ words))) (words_again (word ∷ words) all)

-- cards are read as in the free format
abbrev CardsHere : Progress → Type 0
CardsHere progress = (text : Text) → card_item Free progress progress.section text ≡ says (free_card progress.section (fields_of text))

item_is : (progress : Progress) (w : WrittenCard) (follows : Bool) → CardsHere progress → IsCardOf progress.section w → item_of Free progress (spaced w.words) follows ≡ Ok (Says w.card)
item_is progress w follows here is =
    ap (λ (l : Line). item_by Free progress (spaced w.words) l follows) is.kind ∙ here (spaced w.words)
    ∙ ap (λ (fields : List Text). says (free_card progress.section fields)) (words_again w.words is.words) ∙ ap says is.says

pub sound_before : (d : Dialect) (ws : List WrittenCard) (before : List Card) → IsFaultless d (onto before ws) → IsFaultless d before
sound_before d [] before sound = sound
sound_before d (w ∷ ws) before sound = (sound_before d ws (w.card ∷ before) sound).1

run : (numbers : Numbers) (progress : Progress) (ws : List WrittenCard) (rest : List Text) (before : List Card) (last_progress : Progress) (last_cards : List Card)
    → is_end progress.section ≡ false → CardsHere progress → AllByRecursion (IsCardOf progress.section) ws → IsFaultless (free_format numbers) (onto before ws)
    → Reads numbers rest progress (onto before ws) last_progress last_cards → Reads numbers (map line ws ++ rest) progress before last_progress last_cards
run numbers progress [] rest before last_progress last_cards going here all sound later = later
run numbers progress (w ∷ ws) rest before last_progress last_cards going here all sound later =
    one_line numbers (spaced w.words) (map line ws ++ rest) progress before (Says w.card) last_progress last_cards going
    (item_is progress w (has_card (map line ws ++ rest)) here all.0) (item_is progress w true here all.0)
    (sound_before (free_format numbers) ws (w.card ∷ before) sound).0
    (run numbers progress ws rest (w.card ∷ before) last_progress last_cards going here all.1 sound later)

abbrev pub at : Section → Told → Progress
at section sense = record { section = Some section; named = true; sense = sense }

-- the section after one that stands where it has a card
abbrev next_section : Section → Section → List WrittenCard → Section
next_section old new [] = old
next_section old new (w ∷ ws) = new

optional : (numbers : Numbers) (heading : Text) (old new : Section) (sense : Told) (ws : List WrittenCard) (rest : List Text) (before : List Card) (last_progress : Progress) (last_cards : List Card)
    → is_end (Some old) ≡ false → is_end (Some new) ≡ false
    → ((follows : Bool) → item_of Free (at old sense) heading follows ≡ Ok (Moves (at new sense)))
    → ((cards : List Card) → section_fault cards (Some new) ≡ None)
    → CardsHere (at new sense)
    → AllByRecursion (IsCardOf (Some new)) ws → IsFaultless (free_format numbers) (onto before ws)
    → Reads numbers rest (at (next_section old new ws) sense) (onto before ws) last_progress last_cards
    → Reads numbers (section_lines heading ws ++ rest) (at old sense) before last_progress last_cards
optional numbers heading old new sense [] rest before last_progress last_cards going then_going moves quiet here all sound later = later
optional numbers heading old new sense (w ∷ ws) rest before last_progress last_cards going then_going moves quiet here all sound later =
    one_line numbers heading (map line (w ∷ ws) ++ rest) (at old sense) before (Moves (at new sense)) last_progress last_cards going
    (moves (has_card (map line (w ∷ ws) ++ rest))) (moves true) (quiet before)
    (run numbers (at new sense) (w ∷ ws) rest before last_progress last_cards then_going here all sound later)

abbrev pub told_of : Sense → Told
told_of Min = told.TheVariants.Nothing
told_of Max = told.TheVariants.Sense Max

-- above the rows
abbrev above : Sense → Progress
above Min = at Name told.TheVariants.Nothing
above Max = at Objsense (told.TheVariants.Sense Max)

sense_read : (numbers : Numbers) (sense : Sense) (rest : List Text) (last_progress : Progress) (last_cards : List Card)
    → Reads numbers rest (above sense) [] last_progress last_cards → Reads numbers (sense_lines sense ++ rest) (at Name told.TheVariants.Nothing) [] last_progress last_cards
sense_read numbers Min rest last_progress last_cards later = later
sense_read numbers Max rest last_progress last_cards later =
    one_line numbers (codes "OBJSENSE") (codes " MAX" ∷ rest) (at Name told.TheVariants.Nothing) [] (Moves (at Objsense told.TheVariants.Awaited)) last_progress last_cards refl refl refl refl
    (one_line numbers (codes " MAX") rest (at Objsense told.TheVariants.Awaited) [] (Moves (at Objsense (told.TheVariants.Sense Max))) last_progress last_cards refl refl refl refl later)

rows_open : (sense : Sense) (follows : Bool) → item_of Free (above sense) (codes "ROWS") follows ≡ Ok (Moves (at Rows (told_of sense)))
rows_open Min follows = refl
rows_open Max follows = refl

not_ended : (sense : Sense) → is_end (above sense).section ≡ false
not_ended Min = refl
not_ended Max = refl

opens : (old new : Section) (sense : Told) → may_follow (at old sense) new ≡ true
    → cond (may_follow (at old sense) new) (Ok (Moves (at new sense))) (Err SectionOrder) ≡ Ok (Moves (at new sense))
opens old new sense may = ap (λ (b : Bool). cond b (Ok (Moves (at new sense))) (Err SectionOrder)) may

two_going : (old new : Section) (ws : List WrittenCard) → is_end (Some old) ≡ false → is_end (Some new) ≡ false → is_end (Some (next_section old new ws)) ≡ false
two_going old new [] first second = first
two_going old new (w ∷ ws) first second = second

ranges_may : (sense : Told) (sides : List WrittenCard) → may_follow (at (next_section Columns Rhs sides) sense) Ranges ≡ true
ranges_may sense [] = refl
ranges_may sense (w ∷ ws) = refl

bounds_may : (sense : Told) (sides ranges : List WrittenCard) → may_follow (at (next_section (next_section Columns Rhs sides) Ranges ranges) sense) Bounds ≡ true
bounds_may sense [] [] = refl
bounds_may sense [] (w ∷ ws) = refl
bounds_may sense (v ∷ vs) [] = refl
bounds_may sense (v ∷ vs) (w ∷ ws) = refl

end_may : (sense : Told) (sides ranges bounds : List WrittenCard) → may_follow (at (next_section (next_section (next_section Columns Rhs sides) Ranges ranges) Bounds bounds) sense) Endata ≡ true
end_may sense [] [] [] = refl
end_may sense [] (w ∷ ws) [] = refl
end_may sense (v ∷ vs) [] [] = refl
end_may sense (v ∷ vs) (w ∷ ws) [] = refl
end_may sense [] [] (u ∷ us) = refl
end_may sense [] (w ∷ ws) (u ∷ us) = refl
end_may sense (v ∷ vs) [] (u ∷ us) = refl
end_may sense (v ∷ vs) (w ∷ ws) (u ∷ us) = refl

pub lines_reads : (numbers : Numbers) (p : ProgramData) → AreCards p → IsFaultless (free_format numbers) (written_cards p) → list_any is_free (row_kinds (row_cards p)) ≡ true
    → Reads numbers (written_lines p) start [] (at Endata (told_of p.sense)) (written_cards p)
lines_reads numbers p are sound free =
    let d : Dialect = free_format numbers in
    let sense : Told = told_of p.sense in
    let columns : List WrittenCard = columns_written (names_of_rows (all_rows p)) false p.columns in
    let sides : List WrittenCard = flat_map sides_written (all_rows p) in
    let ranges : List WrittenCard = flat_map ranges_written (all_rows p) in
    let bounds : List WrittenCard = flat_map bounds_written p.columns in
    let last : Progress = at Endata sense in
    let end : List Text = codes "ENDATA" ∷ [] in
    let from_bounds : List Text = section_lines (codes "BOUNDS") bounds ++ end in
    let from_ranges : List Text = section_lines (codes "RANGES") ranges ++ from_bounds in
    let from_sides : List Text = section_lines (codes "RHS") sides ++ from_ranges in
    let from_columns : List Text = codes "COLUMNS" ∷ (map line columns ++ from_sides) in
    let from_rows : List Text = codes "ROWS" ∷ (map line (rows_written p) ++ from_columns) in
    let after_sides : Section = next_section Columns Rhs sides in
    let after_ranges : Section = next_section after_sides Ranges ranges in
    let after_bounds : Section = next_section after_ranges Bounds bounds in
    let sides_going : is_end (Some after_sides) ≡ false = two_going Columns Rhs sides refl refl in
    let ranges_going : is_end (Some after_ranges) ≡ false = two_going after_sides Ranges ranges sides_going refl in
    let bounds_going : is_end (Some after_bounds) ≡ false = two_going after_ranges Bounds bounds ranges_going refl in
    let sound_ranges : IsFaultless d (range_cards p) = sound_before d bounds (range_cards p) sound in
    let sound_sides : IsFaultless d (side_cards p) = sound_before d ranges (side_cards p) sound_ranges in
    let sound_columns : IsFaultless d (column_cards p) = sound_before d sides (column_cards p) sound_sides in
    let sound_rows : IsFaultless d (row_cards p) = sound_before d columns (row_cards p) sound_columns in
    let ends : (follows : Bool) → item_of Free (at after_bounds sense) (codes "ENDATA") follows ≡ Ok (Moves last) = λ follows. opens after_bounds Endata sense (end_may sense sides ranges bounds) in
    let at_last : Reads numbers end (at after_bounds sense) (written_cards p) last (written_cards p) =
    one_line numbers (codes "ENDATA") [] (at after_bounds sense) (written_cards p) (Moves last) last (written_cards p) bounds_going (ends false) (ends true) refl (at_end numbers last (written_cards p) refl) in
    let at_bounds : Reads numbers from_bounds (at after_ranges sense) (range_cards p) last (written_cards p) =
    optional numbers (codes "BOUNDS") after_ranges Bounds sense bounds end (range_cards p) last (written_cards p) ranges_going refl
    (λ follows. opens after_ranges Bounds sense (bounds_may sense sides ranges)) (λ cards. refl) (λ text. refl) are.bounds sound at_last in
    let at_ranges : Reads numbers from_ranges (at after_sides sense) (side_cards p) last (written_cards p) =
    optional numbers (codes "RANGES") after_sides Ranges sense ranges from_bounds (side_cards p) last (written_cards p) sides_going refl
    (λ follows. opens after_sides Ranges sense (ranges_may sense sides)) (λ cards. refl) (λ text. refl) are.ranges sound_ranges at_bounds in
    let at_sides : Reads numbers from_sides (at Columns sense) (column_cards p) last (written_cards p) =
    optional numbers (codes "RHS") Columns Rhs sense sides from_ranges (column_cards p) last (written_cards p) refl refl
    (λ follows. refl) (λ cards. refl) (λ text. refl) are.sides sound_sides at_ranges in
    let at_columns : Reads numbers from_columns (at Rows sense) (row_cards p) last (written_cards p) =
    one_line numbers (codes "COLUMNS") (map line columns ++ from_sides) (at Rows sense) (row_cards p) (Moves (at Columns sense)) last (written_cards p) refl refl refl
    (ap (λ (b : Bool). cond b None (Some NoObjective)) free)
    (run numbers (at Columns sense) columns from_sides (row_cards p) last (written_cards p) refl (λ text. refl) are.columns sound_columns at_sides) in
    let at_rows : Reads numbers from_rows (above p.sense) [] last (written_cards p) =
    one_line numbers (codes "ROWS") (map line (rows_written p) ++ from_columns) (above p.sense) [] (Moves (at Rows sense)) last (written_cards p) (not_ended p.sense)
    (rows_open p.sense (has_card (map line (rows_written p) ++ from_columns))) (rows_open p.sense true) refl
    (run numbers (at Rows sense) (rows_written p) from_columns [] last (written_cards p) refl (λ text. refl) are.rows sound_rows at_columns) in
    one_line numbers (codes "NAME presolved") (sense_lines p.sense ++ from_rows) start [] (Moves (at Name told.TheVariants.Nothing)) last (written_cards p) refl refl refl refl
    (sense_read numbers p.sense from_rows last (written_cards p) at_rows)

-- from the first line on
pub lines_again : (numbers : Numbers) (p : ProgramData) → AreCards p → IsFaultless (free_format numbers) (written_cards p) → list_any is_free (row_kinds (row_cards p)) ≡ true
    → (fault_from (free_format numbers) [] (written_lines p) ≡ None) × (cards_of Free (read_from (free_format numbers) [] (written_lines p)) ≡ written_cards p)
lines_again numbers p are sound free =
    let reads = lines_reads numbers p are sound free [] refl refl in
    (reads.0, reads.2)
