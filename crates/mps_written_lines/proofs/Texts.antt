-- The written text has the written lines.
use Rattle.std.proofs.Common.{◌≡◌, ℕ, zero, suc, ◌<◌, ◌==◌, not, ◌&&◌, List, [], ◌∷◌, ◌++◌, map, length, Bool, true, false, cond, Option, Some, None, refl, sym, ◌∙◌, ap, ap₂, arith, append_assoc}
use Rattle.std.specs.Prelude.{codes, flat_map, slice_get}
use Rattle.std.specs.Option.{option_map_or}
use Rattle.std.specs.List.{AllByRecursion}
use Rattle.std.proofs.lemmas.List.{append-nil, map-append}
use Rattle.std.proofs.lemmas.Grind.{flat_map-append}
use Rattle.std.proofs.lemmas.List.Elements.{recursion_from_All}
use Rattle.fractions.specs.Number.{Number, ◌-ℚ◌, zero_ℚ}
use Rattle.fractions.specs.Compare.{eq_ℚ}
use Rattle.number_texts.specs.Written.{written}
use Rattle.lp_model.specs.declared.program.Sense.{Sense}
use Rattle.lp_model.specs.declared.program.Sense.TheVariants.{Min, Max}
use Rattle.lp_model.specs.declared.program.RowDef.{RowDef}
use Rattle.lp_model.specs.declared.program.ColumnDef.{ColumnDef}
use Rattle.lp_model.specs.declared.terms.Term.{Term}
use Rattle.lp_model.specs.ProgramData.{ProgramData}
use Rattle.lp_model.specs.Names.{names_of_rows}
use Rattle.lp_model.specs.Sparse.{Ascends}
use Rattle.mps_profile.specs.Texts.{Text, field}
use Rattle.mps_profile.specs.declared.bounds.Valued.TheVariants.{Lower, Fixed}
use Rattle.mps_writer.specs.Cards.{spaced, card}
use Rattle.mps_writer.specs.Sections as texts
use Rattle.mps_writer.specs.MpsText as whole
use Rattle.mps_writer.specs.MpsText.{section, mps_text}
use Rattle.mps_written_lines.specs.Written.{unlined}
use Rattle.lp_model.specs.Writable.{EntriesAscend}
use Rattle.mps_written_lines.specs.Written.{WrittenCard, all_rows, row_written, rows_written, marks, entry_written, side_written, range_written, valued_written, cost_terms, moved, all_terms, columns_written, side_by, sides_written, range_by, ranges_written, lower_written, upper_written, ends_written, bounds_by, semi_lower_written, semi_upper_written, semi_written, bounds_written, line, sense_lines, section_lines, written_lines}

-- the text of cards
abbrev text_of : List WrittenCard → List ℕ
text_of ws = flat_map (λ (w : WrittenCard). card w.words) ws

one_text : (w : WrittenCard) → card w.words ≡ text_of (w ∷ [])
one_text w = sym (append-nil (card w.words))

two_texts : (xs ys : List WrittenCard) → text_of (xs ++ ys) ≡ text_of xs ++ text_of ys
two_texts xs ys = flat_map-append (λ (w : WrittenCard). card w.words) xs ys

row_text_is : (row : RowDef) → texts.row_text row ≡ text_of (row_written row ∷ [])
row_text_is row = one_text (row_written row)

rows_text_is : (rows : List RowDef) → flat_map texts.row_text rows ≡ text_of (map row_written rows)
rows_text_is [] = refl
rows_text_is (row ∷ rows) = ap (λ (t : List ℕ). texts.row_text row ++ t) (rows_text_is rows)

marks_text_is : (before next : Bool) → texts.marker_text before next ≡ text_of (marks before next)
marks_text_is false true = refl
marks_text_is true false = refl
marks_text_is false false = refl
marks_text_is true true = refl

cost_text_is : (objective : Text) (names : List Text) (c : ColumnDef) → texts.cost_text objective c ≡ text_of (map (entry_written (objective ∷ names) c.name) (cost_terms c))
cost_text_is objective names c = by_test (eq_ℚ c.cost zero_ℚ && not (length c.entries == 0))
  where
    by_test : (b : Bool) → cond b [] (card (c.name ∷ objective ∷ written c.cost ∷ [])) ≡ text_of (map (entry_written (objective ∷ names) c.name) (cond b [] (record { id = 0; value = c.cost } ∷ [])))
    by_test true = refl
    by_test false = sym (append-nil _)

row_there : (name : Text) (value : Text) (rows : List RowDef) (i : ℕ) → i < length rows
    → option_map_or (λ (row : RowDef). card (name ∷ row.name ∷ value ∷ [])) (slice_get rows i) [] ≡ card (name ∷ field (names_of_rows rows) i ∷ value ∷ [])
row_there name value [] i within = absurd (omega (arith, within))
row_there name value (row ∷ rows) zero within = refl
row_there name value (row ∷ rows) (suc i) within = row_there name value rows i (omega (arith, within))

entries_text_is : (objective : Text) (rows : List RowDef) (name : Text) (m : ℕ) (ts : List Term) → Ascends m (length rows) ts
    → flat_map (texts.entry_text rows name) ts ≡ text_of (map (entry_written (objective ∷ names_of_rows rows) name) (map moved ts))
entries_text_is objective rows name m [] all = refl
entries_text_is objective rows name m (t ∷ ts) all =
    ap₂ (λ (x y : List ℕ). x ++ y) (row_there name (written t.value) rows t.id all.1) (entries_text_is objective rows name (suc t.id) ts all.3)

column_text_is : (objective : Text) (rows : List RowDef) (c : ColumnDef) → Ascends 0 (length rows) c.entries
    → texts.column_text objective rows c ≡ text_of (map (entry_written (objective ∷ names_of_rows rows) c.name) (all_terms c))
column_text_is objective rows c all =
    let written_as : Term → WrittenCard = entry_written (objective ∷ names_of_rows rows) c.name in
    ap₂ (λ (x y : List ℕ). x ++ y) (cost_text_is objective (names_of_rows rows) c) (entries_text_is objective rows c.name 0 c.entries all)
    ∙ sym (two_texts (map written_as (cost_terms c)) (map written_as (map moved c.entries)))
    ∙ ap text_of (sym (map-append written_as (cost_terms c) (map moved c.entries)))

columns_text_is : (objective : Text) (rows : List RowDef) (before : Bool) (cs : List ColumnDef) → AllByRecursion (λ (c : ColumnDef). Ascends 0 (length rows) c.entries) cs
    → texts.columns_text objective rows before cs ≡ text_of (columns_written (objective ∷ names_of_rows rows) before cs)
columns_text_is objective rows before [] all = marks_text_is before false
columns_text_is objective rows before (c ∷ cs) all =
    let ws : List WrittenCard = map (entry_written (objective ∷ names_of_rows rows) c.name) (all_terms c) in
    let more : List WrittenCard = columns_written (objective ∷ names_of_rows rows) c.whole cs in
    ap₂ (λ (x y : List ℕ). x ++ y) (marks_text_is before c.whole) (ap₂ (λ (x y : List ℕ). x ++ y) (column_text_is objective rows c all.0) (columns_text_is objective rows c.whole cs all.1) ∙ sym (two_texts ws more))
    ∙ sym (two_texts (marks before c.whole) (ws ++ more))

side_text_is : (name : Text) (side : Option Number) → texts.right_side_card name side ≡ text_of (side_by name side)
side_text_is name None = refl
side_text_is name (Some q) = by_test (eq_ℚ q zero_ℚ)
  where
    by_test : (b : Bool) → cond b [] (card (codes "RHS" ∷ name ∷ written q ∷ [])) ≡ text_of (cond b [] (side_written name q ∷ []))
    by_test true = refl
    by_test false = sym (append-nil _)

range_text_is : (name : Text) (lower upper : Option Number) → texts.range_by name lower upper ≡ text_of (range_by name lower upper)
range_text_is name None None = refl
range_text_is name None (Some u) = refl
range_text_is name (Some l) None = refl
range_text_is name (Some l) (Some u) = by_test (eq_ℚ l u)
  where
    by_test : (b : Bool) → cond b [] (card (codes "RNG" ∷ name ∷ written (u -ℚ l) ∷ [])) ≡ text_of (cond b [] (range_written name (u -ℚ l) ∷ []))
    by_test true = refl
    by_test false = sym (append-nil _)

lower_text_is : (name : Text) (lower upper : Option Number) → texts.lower_text name lower upper ≡ text_of (lower_written name lower upper)
lower_text_is name None upper = sym (append-nil _)
lower_text_is name (Some q) upper = by_test (eq_ℚ q zero_ℚ && not (texts.is_below_zero upper))
  where
    by_test : (b : Bool) → cond b [] (texts.bound_at_card (codes "LO") name q) ≡ text_of (cond b [] (valued_written Lower name q ∷ []))
    by_test true = refl
    by_test false = sym (append-nil _)

upper_text_is : (name : Text) (is_whole : Bool) (upper : Option Number) → texts.upper_text name is_whole upper ≡ text_of (upper_written name is_whole upper)
upper_text_is name true None = sym (append-nil _)
upper_text_is name false None = refl
upper_text_is name is_whole (Some q) = sym (append-nil _)

ends_text_is : (c : ColumnDef) → texts.ends_text c ≡ text_of (ends_written c)
ends_text_is c =
    ap₂ (λ (x y : List ℕ). x ++ y) (lower_text_is c.name c.lower c.upper) (upper_text_is c.name c.whole c.upper)
    ∙ sym (two_texts (lower_written c.name c.lower c.upper) (upper_written c.name c.whole c.upper))

bounds_text_by : (c : ColumnDef) (lower upper : Option Number) → texts.bounds_by c lower upper ≡ text_of (bounds_by c lower upper)
bounds_text_by c None None = sym (append-nil _)
bounds_text_by c None (Some u) = ends_text_is c
bounds_text_by c (Some l) None = ends_text_is c
bounds_text_by c (Some l) (Some u) = by_test (eq_ℚ l u)
  where
    by_test : (b : Bool) → cond b (texts.bound_at_card (codes "FX") c.name l) (texts.ends_text c) ≡ text_of (cond b (valued_written Fixed c.name l ∷ []) (ends_written c))
    by_test true = sym (append-nil _)
    by_test false = ends_text_is c

semi_lower_text_is : (name : Text) (lower : Option Number) → texts.semi_lower_text name lower ≡ text_of (semi_lower_written name lower)
semi_lower_text_is name None = sym (append-nil _)
semi_lower_text_is name (Some q) = by_test (eq_ℚ q zero_ℚ)
  where
    by_test : (b : Bool) → cond b [] (texts.bound_at_card (codes "LO") name q) ≡ text_of (cond b [] (valued_written Lower name q ∷ []))
    by_test true = refl
    by_test false = sym (append-nil _)

semi_upper_text_is : (name : Text) (upper : Option Number) → texts.semi_upper_text name upper ≡ text_of (semi_upper_written name upper ∷ [])
semi_upper_text_is name None = sym (append-nil _)
semi_upper_text_is name (Some q) = sym (append-nil _)

semi_text_is : (c : ColumnDef) → texts.semi_text c ≡ text_of (semi_written c)
semi_text_is c =
    ap₂ (λ (x y : List ℕ). x ++ y) (semi_lower_text_is c.name c.lower) (semi_upper_text_is c.name c.upper)
    ∙ sym (two_texts (semi_lower_written c.name c.lower) (semi_upper_written c.name c.upper ∷ []))

bounds_text_is : (c : ColumnDef) → texts.bounds_text c ≡ text_of (bounds_written c)
bounds_text_is c = by_test c.semi
  where
    by_test : (b : Bool) → cond b (texts.semi_text c) (texts.bounds_by c c.lower c.upper) ≡ text_of (cond b (semi_written c) (bounds_by c c.lower c.upper))
    by_test true = semi_text_is c
    by_test false = bounds_text_by c c.lower c.upper

each_text_is : {X : Type 0} (text : X → List ℕ) (ws : X → List WrittenCard) → ((x : X) → text x ≡ text_of (ws x)) → (xs : List X) → flat_map text xs ≡ text_of (flat_map ws xs)
each_text_is text ws each [] = refl
each_text_is text ws each (x ∷ xs) = ap₂ (λ (a b : List ℕ). a ++ b) (each x) (each_text_is text ws each xs) ∙ sym (two_texts (ws x) (flat_map ws xs))

-- cards are lines
card_line : (words : List Text) (rest : List ℕ) → card words ++ rest ≡ spaced words ++ 10 ∷ rest
card_line words rest = append_assoc (spaced words) (10 ∷ []) rest

cards_lines : (ws : List WrittenCard) (rest : List Text) → text_of ws ++ unlined rest ≡ unlined (map line ws ++ rest)
cards_lines [] rest = refl
cards_lines (w ∷ ws) rest =
    append_assoc (card w.words) (text_of ws) (unlined rest) ∙ card_line w.words (text_of ws ++ unlined rest)
    ∙ ap (λ (t : List ℕ). spaced w.words ++ 10 ∷ t) (cards_lines ws rest)

has_card : (heading : List ℕ) (words : List Text) (rest : List ℕ) → section heading (card words ++ rest) ≡ heading ++ 10 ∷ (card words ++ rest)
has_card heading [] rest = refl
has_card heading (word ∷ words) rest = refl

section_is : (heading : Text) (ws : List WrittenCard) (rest : List Text) → section heading (text_of ws) ++ unlined rest ≡ unlined (section_lines heading ws ++ rest)
section_is heading [] rest = refl
section_is heading (w ∷ ws) rest =
    ap (λ (t : List ℕ). t ++ unlined rest) (has_card heading w.words (text_of ws))
    ∙ append_assoc heading (10 ∷ text_of (w ∷ ws)) (unlined rest)
    ∙ ap (λ (t : List ℕ). heading ++ 10 ∷ t) (cards_lines (w ∷ ws) rest)

sense_is : (sense : Sense) (rest : List Text) → whole.sense_text sense ++ unlined rest ≡ unlined (sense_lines sense ++ rest)
sense_is Min rest = refl
sense_is Max rest = refl

joined : (text rest : List ℕ) (others lines : List Text) → rest ≡ unlined others → text ++ unlined others ≡ unlined lines → text ++ rest ≡ unlined lines
joined text rest others lines is here = ap (λ (t : List ℕ). text ++ t) is ∙ here

-- a section's text by its cards
section_by : (heading : Text) (text : List ℕ) (ws : List WrittenCard) (rest : List Text) → text ≡ text_of ws → section heading text ++ unlined rest ≡ unlined (section_lines heading ws ++ rest)
section_by heading text ws rest is = ap (λ (t : List ℕ). section heading t ++ unlined rest) is ∙ section_is heading ws rest

heading_by : (text : List ℕ) (ws : List WrittenCard) (rest : List Text) → text ≡ text_of ws → text ++ unlined rest ≡ unlined (map line ws ++ rest)
heading_by text ws rest is = ap (λ (t : List ℕ). t ++ unlined rest) is ∙ cards_lines ws rest

rows_section_is : (p : ProgramData) (rest : List Text) → whole.rows_section p.objective p.rows ++ unlined rest ≡ unlined (codes "ROWS" ∷ (map line (rows_written p) ++ rest))
rows_section_is p rest =
    ap (λ (t : List ℕ). codes "ROWS\n" ++ t)
    (heading_by (card (codes "N" ∷ p.objective ∷ []) ++ flat_map texts.row_text p.rows) (rows_written p) rest (ap (λ (t : List ℕ). card (codes "N" ∷ p.objective ∷ []) ++ t) (rows_text_is p.rows)))

columns_section_is : (p : ProgramData) (rest : List Text) → EntriesAscend p
    → whole.columns_section p.objective p.rows p.columns ++ unlined rest ≡ unlined (codes "COLUMNS" ∷ (map line (columns_written (names_of_rows (all_rows p)) false p.columns) ++ rest))
columns_section_is p rest ascend =
    ap (λ (t : List ℕ). codes "COLUMNS\n" ++ t)
    (heading_by (texts.columns_text p.objective p.rows false p.columns) (columns_written (names_of_rows (all_rows p)) false p.columns) rest (columns_text_is p.objective p.rows false p.columns (recursion_from_All (λ (c : ColumnDef). Ascends 0 (length p.rows) c.entries) p.columns ascend)))

pub text_lines : (p : ProgramData) → EntriesAscend p → mps_text p ≡ unlined (written_lines p)
unfolding mps_text
text_lines p ascend =
    let sides : List WrittenCard = flat_map sides_written (all_rows p) in
    let ranges : List WrittenCard = flat_map ranges_written (all_rows p) in
    let bounds : List WrittenCard = flat_map bounds_written p.columns in
    let end : List Text = codes "ENDATA" ∷ [] in
    let from_bounds : List Text = section_lines (codes "BOUNDS") bounds ++ end in
    let from_ranges : List Text = section_lines (codes "RANGES") ranges ++ from_bounds in
    let from_sides : List Text = section_lines (codes "RHS") sides ++ from_ranges in
    let from_columns : List Text = codes "COLUMNS" ∷ (map line (columns_written (names_of_rows (all_rows p)) false p.columns) ++ from_sides) in
    let from_rows : List Text = codes "ROWS" ∷ (map line (rows_written p) ++ from_columns) in
    ap (λ (t : List ℕ). codes "NAME presolved\n" ++ t)
    (joined (whole.sense_text p.sense) _ from_rows (sense_lines p.sense ++ from_rows)
    (joined (whole.rows_section p.objective p.rows) _ from_columns from_rows
    (joined (whole.columns_section p.objective p.rows p.columns) _ from_sides from_columns
    (joined (section (codes "RHS") (whole.right_sides p.objective p.constant p.rows)) _ from_ranges from_sides
    (joined (section (codes "RANGES") (flat_map texts.range_text p.rows)) _ from_bounds from_ranges
    (section_by (codes "BOUNDS") (flat_map texts.bounds_text p.columns) bounds end (each_text_is texts.bounds_text bounds_written bounds_text_is p.columns))
    (section_by (codes "RANGES") (flat_map texts.range_text p.rows) ranges from_bounds (each_text_is texts.range_text ranges_written (λ r. range_text_is r.name r.lower r.upper) p.rows)))
    (section_by (codes "RHS") (whole.right_sides p.objective p.constant p.rows) sides from_ranges (each_text_is texts.right_side_text sides_written (λ r. side_text_is r.name (texts.right_side_by r.lower r.upper)) (all_rows p))))
    (columns_section_is p from_sides ascend))
    (rows_section_is p from_columns))
    (sense_is p.sense from_rows))
