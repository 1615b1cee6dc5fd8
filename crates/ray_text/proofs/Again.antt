-- What was written is read again.
use Rattle.std.proofs.Common.{◌≡◌, ◌+◌, ◌==◌, List, [], ◌∷◌, ◌++◌, length, get_or, Bool, true, false, cond, Option, Some, None, refl, sym, ap, ap₂, ◌∙◌, subst, arith, map}
use Rattle.std.specs.Prelude.{All, codes, is_some, ◌||◌}
use Rattle.std.specs.Str.{bytes_eq}
use Rattle.std.proofs.lemmas.Bool.{and_parts}
use Rattle.std.proofs.lemmas.List.{append-nil, length-map}
use Rattle.std.proofs.lemmas.List.Elements.{All-head, All-tail}
use Rattle.std.proofs.lemmas.List.Folds.{list_any_at}
use Rattle.fractions.specs.Number.{Number, zero_ℚ}
use Rattle.fractions.specs.Compare.{eq_ℚ}
use Rattle.fractions.specs.Lowest.{Fits}
use Rattle.fractions.specs.Comparisons.{eq_ℚ-is}
use Rattle.names.specs.Names.{place}
use Rattle.lp_model.specs.Name.{IsName}
use Rattle.lp_model.specs.Names.{Differ, WellNamed, names_of_rows, names_of_columns}
use Rattle.lp_model.specs.ProgramData.{ProgramData}
use Rattle.lp_rays.specs.RayData.{RayData, IsSized}
use Rattle.text_lines.specs.Faults.{or_later}
use Rattle.text_lines.proofs.LineLaws.{plain_line_first}
use Rattle.mps_profile.specs.Texts.{Text}
use Rattle.point_text.specs.Faults.{is_past, is_bad}
use Rattle.point_text.specs.Values.{number_in}
use Rattle.point_text.specs.declared.faults.SolFaultKind.{SolFaultKind}
use Rattle.ray_text.specs.declared.weights.EndWeights.{EndWeights}
use Rattle.ray_text.specs.RayLines.{Giving, Line, Opens, OfRow, OfColumn, line_of, lines_said}
use Rattle.ray_text.specs.Given.{of_rows, of_columns, given, weights_in, weights_or_none}
use Rattle.ray_text.specs.Faults.{is_open, giving_fault, line_fault}
use Rattle.ray_text.specs.Reading.{fault_from, ray_fault, said_from, said, lower_of, upper_of, ray_in}
use Rattle.ray_text.specs.RayText.{are_zero, weight_lines, ray_text, HasRoom}
use Rattle.ray_text.proofs.NameTables.{head_differs, rest_differs, has_place}
use Rattle.ray_text.proofs.Places.{differ, same, given_here, given_elsewhere, fault_of_numbers, ray_same}
use Rattle.ray_text.proofs.Unbroken.{name_field, each_none, written_again}
use Rattle.ray_text.proofs.Parsing.{IsWord, giving_of, givings, said_again}

-- ---- the lines of rows, and of columns, after others
-- each is without a fault
abbrev Sound : List Text → List Giving → List Giving → Type 0
Sound names before [] = Unit {0}
Sound names before (g ∷ gs) = (giving_fault names before g ≡ None) × Sound names (g ∷ before) gs

-- those after others, the nearest to the end first
abbrev onto : List Giving → List Giving → List Giving
onto before [] = before
onto before (g ∷ gs) = onto (g ∷ before) gs

row_sound : (rows columns : List Text) (before : List Line) (g : Giving) → is_open before ≡ true → giving_fault rows (of_rows before) g ≡ None → line_fault rows columns before (OfRow g) ≡ None
row_sound rows columns before g opened sound = rw (opened, sound) refl

column_sound : (rows columns : List Text) (before : List Line) (g : Giving) → is_open before ≡ true → giving_fault columns (of_columns before) g ≡ None → line_fault rows columns before (OfColumn g) ≡ None
column_sound rows columns before g opened sound = rw (opened, sound) refl

pass_rows : (rows columns : List Text) (before : List Line) (gs : List Giving) (rest : List Line) → is_open before ≡ true → Sound rows (of_rows before) gs
    → fault_from rows columns before (map OfRow gs ++ rest) ≡ fault_from rows columns (said_from before (map OfRow gs)) rest
pass_rows rows columns before [] rest opened sound = refl
pass_rows rows columns before (g ∷ gs) rest opened sound =
    ap (λ (o : Option SolFaultKind). or_later o (length before + 1) (fault_from rows columns (OfRow g ∷ before) (map OfRow gs ++ rest))) (row_sound rows columns before g opened sound.0)
    ∙ pass_rows rows columns (OfRow g ∷ before) gs rest opened sound.1

pass_columns : (rows columns : List Text) (before : List Line) (gs : List Giving) (rest : List Line) → is_open before ≡ true → Sound columns (of_columns before) gs
    → fault_from rows columns before (map OfColumn gs ++ rest) ≡ fault_from rows columns (said_from before (map OfColumn gs)) rest
pass_columns rows columns before [] rest opened sound = refl
pass_columns rows columns before (g ∷ gs) rest opened sound =
    ap (λ (o : Option SolFaultKind). or_later o (length before + 1) (fault_from rows columns (OfColumn g ∷ before) (map OfColumn gs ++ rest))) (column_sound rows columns before g opened sound.0)
    ∙ pass_columns rows columns (OfColumn g ∷ before) gs rest opened sound.1

-- what they say of rows and of columns
record After (before : List Line) (rows columns : List Giving) (lines : List Line) : Type 0 where
  pub opened : is_open lines ≡ is_open before
  pub rows_are : of_rows lines ≡ onto (of_rows before) rows
  pub columns_are : of_columns lines ≡ onto (of_columns before) columns

after_rows : (before : List Line) (gs : List Giving) → After before gs [] (said_from before (map OfRow gs))
after_rows before [] = record { opened = refl; rows_are = refl; columns_are = refl }
after_rows before (g ∷ gs) = let more = after_rows (OfRow g ∷ before) gs in record { opened = more.opened; rows_are = more.rows_are; columns_are = more.columns_are }

after_columns : (before : List Line) (gs : List Giving) → After before [] gs (said_from before (map OfColumn gs))
after_columns before [] = record { opened = refl; rows_are = refl; columns_are = refl }
after_columns before (g ∷ gs) = let more = after_columns (OfColumn g ∷ before) gs in record { opened = more.opened; rows_are = more.rows_are; columns_are = more.columns_are }

said_both : (before lines more : List Line) → said_from before (lines ++ more) ≡ said_from (said_from before lines) more
said_both before [] more = refl
said_both before (line ∷ lines) more = said_both (line ∷ before) lines more

-- ---- the weights of names
weights_again : (name : Text) (x y : Number) → Fits x → Fits y → weights_in (giving_of name x y) ≡ record { lower = x; upper = y }
weights_again name x y fx fy = ap₂ (λ (a b : Number). let w : EndWeights = record { lower = a; upper = b } in w) (ap number_in (written_again x fx)) (ap number_in (written_again y fy))

no_fault : (names : List Text) (before : List Giving) (name : Text) (x y : Number) → Fits x → Fits y → is_some (place name names) ≡ true → given before name ≡ None → giving_fault names before (giving_of name x y) ≡ None
no_fault names before name x y fx fy known new =
    fault_of_numbers names before (giving_of name x y) known (ap is_some new)
    (ap₂ (λ (a b : Bool). a || b) (ap is_past (written_again x fx)) (ap is_past (written_again y fy)))
    (ap₂ (λ (a b : Bool). a || b) (ap is_bad (written_again x fx)) (ap is_bad (written_again y fy)))

-- what is asked of the names that are left
record Suits (names rest : List Text) (lower upper : List Number) (before : List Giving) : Type 0 where
  pub differ : Differ rest
  pub lower_long : length lower ≡ length rest
  pub upper_long : length upper ≡ length rest
  pub lower_fits : All Fits lower
  pub upper_fits : All Fits upper
  pub known : All (λ name. is_some (place name names) ≡ true) rest
  pub new : All (λ name. given before name ≡ None) rest

-- what their lines give
record Gives (names rest : List Text) (lower upper : List Number) (before gs : List Giving) : Type 0 where
  pub sound : Sound names before gs
  pub lower_are : lower_of rest (onto before gs) ≡ lower
  pub upper_are : upper_of rest (onto before gs) ≡ upper
  pub others : (other : Text) → All (λ name. bytes_eq name other ≡ false) rest → given (onto before gs) other ≡ given before other

next : (names : List Text) (name : Text) (rest : List Text) (x y : Number) (lower upper : List Number) (before : List Giving) → Suits names (name ∷ rest) (x ∷ lower) (y ∷ upper) before → Suits names rest lower upper before
next names name rest x y lower upper before s = record {
  differ = rest_differs name rest s.differ;
  lower_long = omega (arith, s.lower_long);
  upper_long = omega (arith, s.upper_long);
  lower_fits = All-tail Fits x lower s.lower_fits;
  upper_fits = All-tail Fits y upper s.upper_fits;
  known = All-tail (λ other. is_some (place other names) ≡ true) name rest s.known;
  new = All-tail (λ other. given before other ≡ None) name rest s.new;
}

next_with : (names : List Text) (name : Text) (rest : List Text) (x y : Number) (lower upper : List Number) (before : List Giving) → Suits names (name ∷ rest) (x ∷ lower) (y ∷ upper) before
    → Suits names rest lower upper (giving_of name x y ∷ before)
next_with names name rest x y lower upper before s =
    let n = next names name rest x y lower upper before s in
    record {
      differ = n.differ;
      lower_long = n.lower_long;
      upper_long = n.upper_long;
      lower_fits = n.lower_fits;
      upper_fits = n.upper_fits;
      known = n.known;
      new = λ k d l. given_elsewhere before (giving_of name x y) (get_or rest k d) (head_differs name rest s.differ k d l) ∙ n.new k d l;
    }

-- no name after the first one is it
first_alone : (name : Text) (rest : List Text) → Differ (name ∷ rest) → All (λ other. bytes_eq other name ≡ false) rest
first_alone name rest apart k d l = differ (get_or rest k d) name (λ equal. head_differs name rest apart k d l (sym equal))

-- two zeros, which have no line
module _ (names : List Text) (name : Text) (rest : List Text) (x y : Number) (lower upper : List Number) (before gs : List Giving) (s : Suits names (name ∷ rest) (x ∷ lower) (y ∷ upper) before) where
  left_out : are_zero x y ≡ true → Gives names rest lower upper before gs → Gives names (name ∷ rest) (x ∷ lower) (y ∷ upper) before gs
  left_out zero r =
      let parts = and_parts (eq_ℚ x zero_ℚ) (eq_ℚ y zero_ℚ) zero in
      let none : given (onto before gs) name ≡ None = r.others name (first_alone name rest s.differ) ∙ All-head (λ other. given before other ≡ None) name rest s.new in
      record {
        sound = r.sound;
        lower_are = ap₂ (λ (q : Number) (qs : List Number). q ∷ qs) (ap (λ (o : Option EndWeights). (weights_or_none o).lower) none ∙ sym ((eq_ℚ-is x zero_ℚ).0 parts.0)) r.lower_are;
        upper_are = ap₂ (λ (q : Number) (qs : List Number). q ∷ qs) (ap (λ (o : Option EndWeights). (weights_or_none o).upper) none ∙ sym ((eq_ℚ-is y zero_ℚ).0 parts.1)) r.upper_are;
        others = λ other apart. r.others other (All-tail (λ first. bytes_eq first other ≡ false) name rest apart);
      }

  -- a line before others
  one_more : Gives names rest lower upper (giving_of name x y ∷ before) gs → Gives names (name ∷ rest) (x ∷ lower) (y ∷ upper) before (giving_of name x y ∷ gs)
  one_more r =
      let fx = All-head Fits x lower s.lower_fits in
      let fy = All-head Fits y upper s.upper_fits in
      let here : given (onto before (giving_of name x y ∷ gs)) name ≡ Some (record { lower = x; upper = y }) =
      r.others name (first_alone name rest s.differ) ∙ given_here before (giving_of name x y) name refl ∙ ap (λ (w : EndWeights). Some w) (weights_again name x y fx fy) in
      record {
        sound = (no_fault names before name x y fx fy (All-head (λ other. is_some (place other names) ≡ true) name rest s.known) (All-head (λ other. given before other ≡ None) name rest s.new), r.sound);
        lower_are = ap₂ (λ (q : Number) (qs : List Number). q ∷ qs) (ap (λ (o : Option EndWeights). (weights_or_none o).lower) here) r.lower_are;
        upper_are = ap₂ (λ (q : Number) (qs : List Number). q ∷ qs) (ap (λ (o : Option EndWeights). (weights_or_none o).upper) here) r.upper_are;
        others = λ other apart. r.others other (All-tail (λ first. bytes_eq first other ≡ false) name rest apart)
            ∙ ap (λ (b : Bool). cond b (Some (weights_in (giving_of name x y))) (given before other)) (All-head (λ first. bytes_eq first other ≡ false) name rest apart);
      }

again : (names rest : List Text) (lower upper : List Number) (before : List Giving) → Suits names rest lower upper before → Gives names rest lower upper before (givings rest lower upper)
again names [] [] [] before s = record { sound = tt; lower_are = refl; upper_are = refl; others = λ other all. refl }
again names [] (x ∷ lower) upper before s = absurd (omega (arith, s.lower_long))
again names [] [] (y ∷ upper) before s = absurd (omega (arith, s.upper_long))
again names (name ∷ rest) [] upper before s = absurd (omega (arith, s.lower_long))
again names (name ∷ rest) (x ∷ lower) [] before s = absurd (omega (arith, s.upper_long))
again names (name ∷ rest) (x ∷ lower) (y ∷ upper) before s =
    by (are_zero x y) refl (again names rest lower upper before (next names name rest x y lower upper before s))
    (again names rest lower upper (giving_of name x y ∷ before) (next_with names name rest x y lower upper before s))
  where
    by : (b : Bool) → are_zero x y ≡ b → Gives names rest lower upper before (givings rest lower upper) → Gives names rest lower upper (giving_of name x y ∷ before) (givings rest lower upper)
        → Gives names (name ∷ rest) (x ∷ lower) (y ∷ upper) before (cond b (givings rest lower upper) (giving_of name x y ∷ givings rest lower upper))
    by true zero without with_line = left_out names name rest x y lower upper before (givings rest lower upper) s zero without
    by false zero without with_line = one_more names name rest x y lower upper before (givings rest lower upper) s with_line

each_known : (names : List Text) → All (λ name. is_some (place name names) ≡ true) names
each_known names k d l = has_place (get_or names k d) names ∙ list_any_at (bytes_eq (get_or names k d)) names k d l (same (get_or names k d))

all_again : (names : List Text) (lower upper : List Number) → Differ names → length lower ≡ length names → length upper ≡ length names → All Fits lower → All Fits upper → Gives names names lower upper [] (givings names lower upper)
all_again names lower upper apart el eu fl fu =
    again names names lower upper [] (record { differ = apart; lower_long = el; upper_long = eu; lower_fits = fl; upper_fits = fu; known = each_known names; new = λ k d l. refl })

-- ---- the whole text
record Written (rows columns : List Text) (r : RayData) : Type 0 where
  pub row_names : All IsName rows
  pub column_names : All IsName columns
  pub rows_differ : Differ rows
  pub columns_differ : Differ columns
  pub sized : IsSized (length rows) (length columns) r
  pub room : HasRoom r

row_word : IsWord (codes "row") OfRow
row_word = record { field = name_field (codes "row") refl; says = λ g. refl }

column_word : IsWord (codes "column") OfColumn
column_word = record { field = name_field (codes "column") refl; says = λ g. refl }

-- the lines of a written text
lines_again : (rows columns : List Text) (r : RayData) → Written rows columns r
    → lines_said (ray_text rows columns r) ≡ Opens ∷ (map OfRow (givings rows r.lower_sides r.upper_sides) ++ (map OfColumn (givings columns r.lower_bounds r.upper_bounds) ++ []))
lines_again rows columns r h =
    let row_text = weight_lines (codes "row") rows r.lower_sides r.upper_sides in
    let column_text = weight_lines (codes "column") columns r.lower_bounds r.upper_bounds in
    let gs = givings rows r.lower_sides r.upper_sides in
    let hs = givings columns r.lower_bounds r.upper_bounds in
    ap (map line_of) (plain_line_first (codes "=ray=") (row_text ++ column_text) (name_field (codes "=ray=") refl).no_feeds (each_none (λ b. b == 13) (codes "=ray=") refl))
    ∙ ap (λ (ls : List Line). Opens ∷ ls)
    (said_again (codes "row") OfRow row_word rows r.lower_sides r.upper_sides column_text h.row_names h.sized.lower_sides h.sized.upper_sides h.room.lower_sides h.room.upper_sides
    ∙ ap (λ (ls : List Line). map OfRow gs ++ ls)
    (ap lines_said (sym (append-nil column_text))
    ∙ said_again (codes "column") OfColumn column_word columns r.lower_bounds r.upper_bounds [] h.column_names h.sized.lower_bounds h.sized.upper_bounds h.room.lower_bounds h.room.upper_bounds))

fault_again : (rows columns : List Text) (r : RayData) → Written rows columns r → ray_fault rows columns (ray_text rows columns r) ≡ None
fault_again rows columns r h =
    let gs = givings rows r.lower_sides r.upper_sides in
    let hs = givings columns r.lower_bounds r.upper_bounds in
    let by_rows = all_again rows r.lower_sides r.upper_sides h.rows_differ h.sized.lower_sides h.sized.upper_sides h.room.lower_sides h.room.upper_sides in
    let by_columns = all_again columns r.lower_bounds r.upper_bounds h.columns_differ h.sized.lower_bounds h.sized.upper_bounds h.room.lower_bounds h.room.upper_bounds in
    let after = after_rows (Opens ∷ []) gs in
    ap (fault_from rows columns []) (lines_again rows columns r h)
    ∙ pass_rows rows columns (Opens ∷ []) gs (map OfColumn hs ++ []) refl by_rows.sound
    ∙ pass_columns rows columns (said_from (Opens ∷ []) (map OfRow gs)) hs [] after.opened (subst (λ (b : List Giving). Sound columns b hs) (sym after.columns_are) by_columns.sound)

ray_again : (rows columns : List Text) (r : RayData) → Written rows columns r → ray_in rows columns (ray_text rows columns r) ≡ r
ray_again rows columns r h =
    let gs = givings rows r.lower_sides r.upper_sides in
    let hs = givings columns r.lower_bounds r.upper_bounds in
    let by_rows = all_again rows r.lower_sides r.upper_sides h.rows_differ h.sized.lower_sides h.sized.upper_sides h.room.lower_sides h.room.upper_sides in
    let by_columns = all_again columns r.lower_bounds r.upper_bounds h.columns_differ h.sized.lower_bounds h.sized.upper_bounds h.room.lower_bounds h.room.upper_bounds in
    let after = after_rows (Opens ∷ []) gs in
    let end = after_columns (said_from (Opens ∷ []) (map OfRow gs)) hs in
    let lines : said (ray_text rows columns r) ≡ said_from (said_from (Opens ∷ []) (map OfRow gs)) (map OfColumn hs) =
    ap (said_from []) (lines_again rows columns r h) ∙ said_both (Opens ∷ []) (map OfRow gs) (map OfColumn hs ++ []) ∙ ap (said_from (said_from (Opens ∷ []) (map OfRow gs))) (append-nil (map OfColumn hs)) in
    let row_lines : of_rows (said (ray_text rows columns r)) ≡ onto [] gs = ap of_rows lines ∙ end.rows_are ∙ after.rows_are in
    let column_lines : of_columns (said (ray_text rows columns r)) ≡ onto [] hs = ap of_columns lines ∙ end.columns_are ∙ ap (λ (b : List Giving). onto b hs) after.columns_are in
    sym (ray_same r r.lower_sides r.upper_sides r.lower_bounds r.upper_bounds _ _ _ _ refl
    (sym (ap (lower_of rows) row_lines ∙ by_rows.lower_are)) (sym (ap (upper_of rows) row_lines ∙ by_rows.upper_are))
    (sym (ap (lower_of columns) column_lines ∙ by_columns.lower_are)) (sym (ap (upper_of columns) column_lines ∙ by_columns.upper_are)))

well_written : (p : ProgramData) (r : RayData) → WellNamed p.objective p.rows p.columns → IsSized (length p.rows) (length p.columns) r → HasRoom r → Written (names_of_rows p.rows) (names_of_columns p.columns) r
well_written p r named sized room = record {
  row_names = All-tail IsName p.objective (names_of_rows p.rows) named.row_names;
  column_names = named.column_names;
  rows_differ = rest_differs p.objective (names_of_rows p.rows) named.rows;
  columns_differ = named.columns;
  sized = rw (length-map, length-map) sized;
  room = room;
}

pub written_fault : (p : ProgramData) (r : RayData) → WellNamed p.objective p.rows p.columns → IsSized (length p.rows) (length p.columns) r → HasRoom r
    → ray_fault (names_of_rows p.rows) (names_of_columns p.columns) (ray_text (names_of_rows p.rows) (names_of_columns p.columns) r) ≡ None
written_fault p r named sized room = fault_again (names_of_rows p.rows) (names_of_columns p.columns) r (well_written p r named sized room)

pub written_ray : (p : ProgramData) (r : RayData) → WellNamed p.objective p.rows p.columns → IsSized (length p.rows) (length p.columns) r → HasRoom r
    → ray_in (names_of_rows p.rows) (names_of_columns p.columns) (ray_text (names_of_rows p.rows) (names_of_columns p.columns) r) ≡ r
written_ray p r named sized room = ray_again (names_of_rows p.rows) (names_of_columns p.columns) r (well_written p r named sized room)
