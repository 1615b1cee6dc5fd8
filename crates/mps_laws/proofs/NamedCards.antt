-- The names that cards of ROWS and COLUMNS give are names.
use Rattle.std.proofs.Common.{◌≡◌, ℕ, ◌==◌, ◌||◌, not, Bool, true, false, cond, List, [], ◌∷◌, ◌++◌, length, take, drop, Option, Some, None, Result, Ok, Err, is_some, refl, ap, arith}
use Rattle.std.specs.List.{All, AllByRecursion, list_all, slice_split}
use Rattle.std.proofs.lemmas.Bool.{and_from, or_from, or_parts, not_from_false, eqb-true}
use Rattle.std.proofs.lemmas.List.Elements.{All-nil, All-cons, All-head, All-tail, All-append, All-drop, All-take, All-filter, All-map, All-weaker, filter_passes}
use Rattle.names.specs.Names.{place}
use Rattle.lp_model.specs.Name.{is_break, IsName}
use Rattle.lp_model.specs.declared.program.Sense.{Sense}
use Rattle.text_lines.specs.Lines.{IsUnfed}
use Rattle.mps_profile.specs.Texts.{Text, field}
use Rattle.mps_profile.specs.Fields.{is_blank, fields_of, FixedFields, fixed_fields, underscored, trimmed, is_misplaced, misplaced_from, has_misplaced}
use Rattle.mps_profile.specs.Words.{section_named, sense_named, type_named, is_refused}
use Rattle.mps_profile.specs.Cards.{Pairs, One, Two, Card, RowCard, MarkerCard, ColumnCard, SideCard, RangeCard, ValuedCard, BareCard, UnknownCard}
use Rattle.mps_profile.specs.FreeCards.{is_marker, pair_at, pairs_at, free_row, free_column, free_card, column_with, side_with, range_with, bound_with, has_set}
use Rattle.mps_profile.specs.FixedCards.{is_empty, has_tail, fixed_row, fixed_column, fixed_marker, fixed_pairs, fixed_bound_with, by_fields, fixed_card, set_in}
use Rattle.mps_profile.specs.Items.{Item, Silent, Moves, Says, Line, Blank, Heading, CardLine, line_of, item_of, item_by, heading, objsense, opened, sense_opened, sense_card, sense_told, says, section_card, card_item, is_awaited, is_name, may_follow, progress_of, cards_of, cards_after}
use Rattle.mps_profile.specs.Rows.{row_names}
use Rattle.mps_profile.specs.Columns.{column_names, joined}
use Rattle.mps_profile.specs.declared.bounds.BoundType.{BoundType}
use Rattle.mps_profile.specs.declared.bounds.BoundType as types
use Rattle.mps_profile.specs.declared.dialect.Format.{Format}
use Rattle.mps_profile.specs.declared.dialect.Format.TheVariants.{Free, Fixed}
use Rattle.mps_profile.specs.declared.progress.Progress.{Progress}
use Rattle.mps_profile.specs.declared.progress.Told.{Told}
use Rattle.mps_profile.specs.declared.progress.Told as told
use Rattle.mps_profile.specs.declared.sections.Section.{Section}
use Rattle.mps_profile.specs.declared.sections.Section.TheVariants.{Name, Objsense, Rows, Columns, Rhs, Ranges, Bounds, Endata}
use Rattle.mps_profile.specs.declared.faults.MpsFaultKind.{MpsFaultKind}
use Rattle.mps_profile.specs.declared.faults.MpsFaultKind.TheVariants.{BadColumn, FieldCount, SectionOrder}
use Rattle.mps_laws.proofs.Bytes.{all_shorter, split_all, trimmed_all}

-- ---- words
unbroken : (bytes : Text) → All (λ b. is_break b ≡ false) bytes → list_all (λ b. not (is_break b)) bytes ≡ true
unbroken [] h = refl
unbroken (b ∷ bytes) h =
    and_from (not (is_break b)) (list_all (λ x. not (is_break x)) bytes) (not_from_false (is_break b) (All-head (λ x. is_break x ≡ false) b bytes h))
    (unbroken bytes (All-tail (λ x. is_break x ≡ false) b bytes h))

is_named : (bytes : Text) → not (length bytes == 0) ≡ true → All (λ b. is_break b ≡ false) bytes → IsName bytes
is_named bytes some h = and_from (not (length bytes == 0)) (list_all (λ b. not (is_break b)) bytes) some (unbroken bytes h)

-- a byte of a field in free format
abbrev InField : ℕ → Type 0
InField b = ((b == 10) ≡ false) × (is_blank b ≡ false)

field_named : (part : Text) → All InField part → not (length part == 0) ≡ true → IsName part
field_named part h some = is_named part some (All-weaker InField (λ b. is_break b ≡ false) (λ b k. or_from (is_blank b) (b == 10) k.1 k.0) part h)

abbrev is_part : Text → Bool
is_part part = not (length part == 0)

fields_named : (line : Text) → IsUnfed line → All IsName (fields_of line)
fields_named line h k d l =
    let parts : List Text = slice_split is_blank line in
    field_named _ (All-filter is_part (All InField) parts (split_all (λ b. (b == 10) ≡ false) is_blank line h) k d l) (filter_passes is_part parts k d l)

-- ---- cards of the free format
-- a card of ROWS or COLUMNS gives a name
abbrev pub HasName : Card → Type 0
HasName (RowCard kind name) = IsName name
HasName (ColumnCard name pairs) = IsName name
HasName card = Unit {0}

abbrev IfCard : Result Card MpsFaultKind → Type 0
IfCard (Ok card) = HasName card
IfCard (Err fault) = Unit {0}

either : (t : Bool) (a b : Result Card MpsFaultKind) → IfCard a → IfCard b → IfCard (cond t a b)
either true a b h k = h
either false a b h k = k

column_named : (name : Text) (o : Option Pairs) → IsName name → IfCard (column_with name o)
column_named name None h = tt
column_named name (Some pairs) h = h

side_named : (set : Option Text) (o : Option Pairs) → IfCard (side_with set o)
side_named set None = tt
side_named set (Some pairs) = tt

range_named : (set : Option Text) (o : Option Pairs) → IfCard (range_with set o)
range_named set None = tt
range_named set (Some pairs) = tt

bound_named : (fields : List Text) (o : Option BoundType) → IfCard (bound_with fields o)
bound_named fields None = either _ (Ok UnknownCard) (Err FieldCount) tt tt
bound_named fields (Some (types.TheVariants.Valued kind)) =
    either (length fields == 3) (Ok (ValuedCard None kind (field fields 1) (field fields 2))) _ tt
    (either (length fields == 4) (Ok (ValuedCard (Some (field fields 1)) kind (field fields 2) (field fields 3))) (Err FieldCount) tt tt)
bound_named fields (Some (types.TheVariants.Bare kind)) =
    either (length fields == 2) (Ok (BareCard None kind (field fields 1))) _ tt
    (either ((length fields == 3) || (length fields == 4)) (Ok (BareCard (Some (field fields 1)) kind (field fields 2))) (Err FieldCount) tt tt)

module _ (fields : List Text) (h : All IsName fields) where
  free_row_named : IfCard (free_row fields)
  free_row_named = by (length fields == 2) refl
    where
      by : (t : Bool) → (length fields == 2) ≡ t → IfCard (cond t (Ok (RowCard (field fields 0) (field fields 1))) (Err FieldCount))
      by true is = h 1 [] (omega (arith, eqb-true (length fields) 2 is))
      by false is = tt

  pairs_named : (t u : Bool) → (length fields == 3) ≡ t → (length fields == 5) ≡ u
      → IfCard (column_with (field fields 0) (cond t (Some (One (pair_at fields 1))) (cond u (Some (Two (pair_at fields 1) (pair_at fields 3))) None)))
  pairs_named true u is more = h 0 [] (omega (arith, eqb-true (length fields) 3 is))
  pairs_named false true is more = h 0 [] (omega (arith, eqb-true (length fields) 5 more))
  pairs_named false false is more = tt

  free_column_named : IfCard (free_column fields)
  free_column_named =
      either (is_marker (field fields 1)) _ _ (either (length fields == 3) (Ok (MarkerCard (field fields 2))) (Err FieldCount) tt tt)
      (pairs_named (length fields == 3) (length fields == 5) refl refl)

  free_named : (section : Option Section) → IfCard (free_card section fields)
  free_named None = tt
  free_named (Some Name) = tt
  free_named (Some Objsense) = tt
  free_named (Some Rows) = free_row_named
  free_named (Some Columns) = free_column_named
  free_named (Some Rhs) = either (has_set fields) _ _ (side_named (Some (field fields 0)) (pairs_at fields 1)) (side_named None (pairs_at fields 0))
  free_named (Some Ranges) = either (has_set fields) _ _ (range_named (Some (field fields 0)) (pairs_at fields 1)) (range_named None (pairs_at fields 0))
  free_named (Some Bounds) = bound_named fields (type_named (field fields 0))
  free_named (Some Endata) = tt

-- ---- cards of the fixed format
no_tabs : (k : ℕ) (bytes : Text) → misplaced_from k bytes ≡ false → All (λ b. (b == 9) ≡ false) bytes
no_tabs k [] h = All-nil (λ b. (b == 9) ≡ false)
no_tabs k (b ∷ bytes) h =
    let parts = or_parts (is_misplaced k b) _ h in
    All-cons (λ x. (x == 9) ≡ false) b bytes (or_parts (b == 9) _ parts.0).0 (no_tabs _ bytes parts.1)

-- neither a tab nor a line feed
abbrev IsCalm : ℕ → Type 0
IsCalm b = ((b == 10) ≡ false) × ((b == 9) ≡ false)

calm : (line : Text) → IsUnfed line → has_misplaced line ≡ false → All IsCalm (take 61 line)
calm line h placed = λ k d l. (All-take (λ b. (b == 10) ≡ false) 61 line h k d l, no_tabs 0 (take 61 line) placed k d l)

underscored_calm : (b : ℕ) → IsCalm b → is_break (underscored b) ≡ false
underscored_calm b h = by (b == 32) refl
  where
    by : (t : Bool) → (b == 32) ≡ t → is_break (cond t 95 b) ≡ false
    by true is = refl
    by false is = or_from ((b == 32) || (b == 9)) (b == 10) (or_from (b == 32) (b == 9) is h.1) h.0

second_unbroken : (line : Text) → IsUnfed line → has_misplaced line ≡ false → All (λ b. is_break b ≡ false) (fixed_fields line).second
second_unbroken line h placed =
    All-map (λ b. is_break b ≡ false) underscored (trimmed (drop 4 (take 12 line)))
    (All-weaker IsCalm (λ b. is_break (underscored b) ≡ false) underscored_calm (trimmed (drop 4 (take 12 line)))
    (trimmed_all IsCalm (drop 4 (take 12 line)) (All-drop IsCalm 4 (take 12 line) (all_shorter IsCalm 12 61 line (omega arith) (calm line h placed)))))

module _ (f : FixedFields) (named : is_empty f.second ≡ false → IsName f.second) where
  fixed_row_named : IfCard (fixed_row f)
  fixed_row_named = by (is_empty f.first || is_empty f.second || not (is_empty f.third) || not (is_empty f.fourth) || has_tail f) refl
    where
      by : (t : Bool) → (is_empty f.first || is_empty f.second || not (is_empty f.third) || not (is_empty f.fourth) || has_tail f) ≡ t
          → IfCard (cond t (Err FieldCount) (Ok (RowCard f.first f.second)))
      by true is = tt
      by false is =
          let front = or_parts (is_empty f.first || is_empty f.second || not (is_empty f.third) || not (is_empty f.fourth)) (has_tail f) is in
          let first = or_parts (is_empty f.first || is_empty f.second || not (is_empty f.third)) (not (is_empty f.fourth)) front.0 in
          let second = or_parts (is_empty f.first || is_empty f.second) (not (is_empty f.third)) first.0 in
          named (or_parts (is_empty f.first) (is_empty f.second) second.0).1

  fixed_column_named : IfCard (fixed_column f)
  fixed_column_named = either (is_marker f.third) (fixed_marker f) _ (either _ (Err FieldCount) (Ok (MarkerCard f.fifth)) tt tt) (by (is_empty f.second) refl)
    where
      by : (t : Bool) → is_empty f.second ≡ t → IfCard (cond t (Err FieldCount) (column_with f.second (fixed_pairs f)))
      by true is = tt
      by false is = column_named f.second (fixed_pairs f) (named is)

  fixed_bound_named : (o : Option BoundType) → IfCard (fixed_bound_with f o)
  fixed_bound_named None = tt
  fixed_bound_named (Some (types.TheVariants.Valued kind)) = either (is_empty f.fourth) (Err FieldCount) (Ok (ValuedCard (set_in f.second) kind f.third f.fourth)) tt tt
  fixed_bound_named (Some (types.TheVariants.Bare kind)) = tt

  by_fields_named : (section : Option Section) → IfCard (by_fields section f)
  by_fields_named None = tt
  by_fields_named (Some Name) = tt
  by_fields_named (Some Objsense) = tt
  by_fields_named (Some Rows) = fixed_row_named
  by_fields_named (Some Columns) = fixed_column_named
  by_fields_named (Some Rhs) = side_named (set_in f.second) (fixed_pairs f)
  by_fields_named (Some Ranges) = range_named (set_in f.second) (fixed_pairs f)
  by_fields_named (Some Bounds) = either _ (Err FieldCount) (fixed_bound_with f (type_named f.first)) tt (fixed_bound_named (type_named f.first))
  by_fields_named (Some Endata) = tt

fixed_named : (section : Option Section) (line : Text) → IsUnfed line → IfCard (fixed_card section line)
fixed_named section line h = by (has_misplaced line) refl
  where
    by : (t : Bool) → has_misplaced line ≡ t → IfCard (cond t (Err BadColumn) (by_fields section (fixed_fields line)))
    by true is = tt
    by false is = by_fields_named (fixed_fields line)
        (λ some. is_named (fixed_fields line).second (ap not some) (second_unbroken line h is)) section

-- ---- lines
abbrev IfSays : Result Item MpsFaultKind → Type 0
IfSays (Ok (Says card)) = HasName card
IfSays other = Unit {0}

either_says : (t : Bool) (a b : Result Item MpsFaultKind) → IfSays a → IfSays b → IfSays (cond t a b)
either_says true a b h k = h
either_says false a b h k = k

opened_named : (before : Progress) (next : Section) (sense : Told) → IfSays (opened before next sense)
opened_named before next sense =
    either_says (may_follow before next) (Ok (Moves (record { section = Some next; named = before.named || is_name next; sense = sense }))) (Err SectionOrder) tt tt

sense_opened_named : (before : Progress) (o : Option Sense) → IfSays (sense_opened before o)
sense_opened_named before None = tt
sense_opened_named before (Some sense) = opened_named before Objsense (told.TheVariants.Sense sense)

objsense_named : (before : Progress) (words : List Text) (follows : Bool) → IfSays (objsense before words follows)
objsense_named before [] follows = either_says follows (opened before Objsense told.TheVariants.Awaited) (Err FieldCount) (opened_named before Objsense told.TheVariants.Awaited) tt
objsense_named before (word ∷ words) follows = sense_opened_named before (sense_named word)

heading_named : (before : Progress) (section : Option Section) (refused : Bool) (words : List Text) (follows : Bool) → IfSays (heading before section refused words follows)
heading_named before None refused words follows = tt
heading_named before (Some Name) refused words follows = opened_named before Name before.sense
heading_named before (Some Objsense) refused words follows = objsense_named before words follows
heading_named before (Some Rows) refused words follows = opened_named before Rows before.sense
heading_named before (Some Columns) refused words follows = opened_named before Columns before.sense
heading_named before (Some Rhs) refused words follows = opened_named before Rhs before.sense
heading_named before (Some Ranges) refused words follows = opened_named before Ranges before.sense
heading_named before (Some Bounds) refused words follows = opened_named before Bounds before.sense
heading_named before (Some Endata) refused words follows = opened_named before Endata before.sense

sense_told_named : (before : Progress) (o : Option Sense) → IfSays (sense_told before o)
sense_told_named before None = tt
sense_told_named before (Some sense) = tt

sense_card_named : (before : Progress) (fields : List Text) → IfSays (sense_card before fields)
sense_card_named before [] = tt
sense_card_named before (word ∷ []) = sense_told_named before (sense_named word)
sense_card_named before (word ∷ next ∷ more) = tt

says_named : (r : Result Card MpsFaultKind) → IfCard r → IfSays (says r)
says_named (Ok card) h = h
says_named (Err fault) h = tt

section_named_card : (format : Format) (section : Option Section) (line : Text) → IsUnfed line → IfSays (says (section_card format section line))
section_named_card Free section line h = says_named (free_card section (fields_of line)) (free_named (fields_of line) (fields_named line h) section)
section_named_card Fixed section line h = says_named (fixed_card section line) (fixed_named section line h)

card_named : (format : Format) (before : Progress) (section : Option Section) (line : Text) → IsUnfed line → IfSays (card_item format before section line)
card_named format before None line h = section_named_card format None line h
card_named format before (Some Name) line h = section_named_card format (Some Name) line h
card_named format before (Some Objsense) line h =
    either_says (is_awaited before.sense) (sense_card before (fields_of line)) (Err SectionOrder) (sense_card_named before (fields_of line)) tt
card_named format before (Some Rows) line h = section_named_card format (Some Rows) line h
card_named format before (Some Columns) line h = section_named_card format (Some Columns) line h
card_named format before (Some Rhs) line h = section_named_card format (Some Rhs) line h
card_named format before (Some Ranges) line h = section_named_card format (Some Ranges) line h
card_named format before (Some Bounds) line h = section_named_card format (Some Bounds) line h
card_named format before (Some Endata) line h = section_named_card format (Some Endata) line h

line_named : (format : Format) (before : Progress) (text : Text) (line : Line) (follows : Bool) → IsUnfed text → IfSays (item_by format before text line follows)
line_named format before text Blank follows h = tt
line_named format before text (Heading word words) follows h = heading_named before (section_named word) (is_refused word) words follows
line_named format before text CardLine follows h = card_named format before before.section text h

-- ---- all cards
joins : (cards : List Card) (r : Result Item MpsFaultKind) → IfSays r → AllByRecursion HasName cards → AllByRecursion HasName (cards_after cards r)
joins cards (Ok Silent) h all = all
joins cards (Ok (Moves next)) h all = all
joins cards (Ok (Says card)) h all = (h, all)
joins cards (Err fault) h all = all

pub cards_named : (format : Format) (lines : List Text) → All IsUnfed lines → AllByRecursion HasName (cards_of format lines)
cards_named format [] h = tt
cards_named format (line ∷ before) h =
    joins (cards_of format before) (item_of format (progress_of format before) line true)
    (line_named format (progress_of format before) line (line_of line) true (All-head IsUnfed line before h))
    (cards_named format before (All-tail IsUnfed line before h))

-- the rows and columns that they name
pub rows_are_named : (cards : List Card) → AllByRecursion HasName cards → All IsName (row_names cards)
rows_are_named [] h = All-nil IsName
rows_are_named (RowCard kind name ∷ before) h =
    All-append IsName (row_names before) (name ∷ []) (rows_are_named before h.1) (All-cons IsName name [] h.0 (All-nil IsName))
rows_are_named (MarkerCard word ∷ before) h = rows_are_named before h.1
rows_are_named (ColumnCard name pairs ∷ before) h = rows_are_named before h.1
rows_are_named (SideCard set pairs ∷ before) h = rows_are_named before h.1
rows_are_named (RangeCard set pairs ∷ before) h = rows_are_named before h.1
rows_are_named (ValuedCard set kind column number ∷ before) h = rows_are_named before h.1
rows_are_named (BareCard set kind column ∷ before) h = rows_are_named before h.1
rows_are_named (UnknownCard ∷ before) h = rows_are_named before h.1

joined_named : (name : Text) (names : List Text) → IsName name → All IsName names → All IsName (joined name names)
joined_named name names h all = by (is_some (place name names))
  where
    by : (t : Bool) → All IsName (cond t names (names ++ name ∷ []))
    by true = all
    by false = All-append IsName names (name ∷ []) all (All-cons IsName name [] h (All-nil IsName))

pub columns_are_named : (cards : List Card) → AllByRecursion HasName cards → All IsName (column_names cards)
columns_are_named [] h = All-nil IsName
columns_are_named (RowCard kind name ∷ before) h = columns_are_named before h.1
columns_are_named (MarkerCard word ∷ before) h = columns_are_named before h.1
columns_are_named (ColumnCard name pairs ∷ before) h = joined_named name (column_names before) h.0 (columns_are_named before h.1)
columns_are_named (SideCard set pairs ∷ before) h = columns_are_named before h.1
columns_are_named (RangeCard set pairs ∷ before) h = columns_are_named before h.1
columns_are_named (ValuedCard set kind column number ∷ before) h = columns_are_named before h.1
columns_are_named (BareCard set kind column ∷ before) h = columns_are_named before h.1
columns_are_named (UnknownCard ∷ before) h = columns_are_named before h.1
