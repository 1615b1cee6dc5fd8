use Rattle.std.proofs.Common.{◌≡◌, ◌||◌, Bool, true, Some, sym, ap, ap₂, ◌∙◌}
use Rattle.std.proofs.Math.Bool.{or-true}
use Rattle.std.specs.Prelude.{is_none}
use Rattle.std.specs.Str.{bytes_eq}
use Rattle.names.specs.Names.{place}
use Rattle.mps_profile.specs.Cards.{text_pair}
use Rattle.mps_profile.specs.Rows.{row_names}
use Rattle.mps_profile.specs.CardFaults.{is_bad, is_past, has_number}
use Rattle.mps_tables.proofs.Places.{same_name}
use Rattle.mps_tables.proofs.Columns.{named_here}
use Rattle.mps_tables.proofs.Firsts.{fourth}
use Rattle.mps_tables.proofs.tables.Tables.column_two.Goals as goal

pub returns-then-first-second : goal.returns-then-first-second
returns-then-first-second c = λ cards has.
    let here : place c.args.pair.row.now (row_names cards) ≡ Some c.in-Some.first = ap (place c.args.pair.row.now) (sym has.rows) ∙ sym c.in-Some.ensures.place in
    let there : place c.args.other.row.now (row_names cards) ≡ Some c.in-Some-find.second = ap (place c.args.other.row.now) (sym has.rows) ∙ sym c.in-Some-find.ensures.place in
    let same : bytes_eq c.args.pair.row.now c.args.other.row.now ≡ true = same_name _ _ (row_names cards) c.in-Some-find.second (here ∙ ap Some c.if-first-second.true) there in
    fourth _ _ _ _ _ _ _ _ _ (ap₂ (λ x y. is_bad x || is_bad y) c.in_ok-values.ensures.0 c.in_ok-values.ensures.1) (ap₂ (λ x y. is_past x || is_past y) c.in_ok-values.ensures.0 c.in_ok-values.ensures.1)
    (ap₂ (λ x y. is_none x || is_none y) here there)
    (ap (λ (t : Bool). has_number c.args.self.now.dialect cards c.args.name.now (text_pair c.args.pair) || has_number c.args.self.now.dialect cards c.args.name.now (text_pair c.args.other) || t) same
    ∙ or-true _)

pub returns-then-names : goal.returns-then-names
returns-then-names c = λ cards has.
    let here : place c.args.pair.row.now (row_names cards) ≡ Some c.in-Some.first = ap (place c.args.pair.row.now) (sym has.rows) ∙ sym c.in-Some.ensures.place in
    let there : place c.args.other.row.now (row_names cards) ≡ Some c.in-Some-find.second = ap (place c.args.other.row.now) (sym has.rows) ∙ sym c.in-Some-find.ensures.place in
    let again : _ = named_here cards c.args.self.now c.args.name.now (text_pair c.args.pair) c.in-Some.first _ has c.in-Some.ensures.place c.in_ok-entered.ensures.column c.if-names.ensures in
    fourth _ _ _ _ _ _ _ _ _ (ap₂ (λ x y. is_bad x || is_bad y) c.in_ok-values.ensures.0 c.in_ok-values.ensures.1) (ap₂ (λ x y. is_past x || is_past y) c.in_ok-values.ensures.0 c.in_ok-values.ensures.1)
    (ap₂ (λ x y. is_none x || is_none y) here there)
    (ap (λ (t : Bool). t || has_number c.args.self.now.dialect cards c.args.name.now (text_pair c.args.other) || bytes_eq c.args.pair.row.now c.args.other.row.now) again)

pub returns-then-names-2 : goal.returns-then-names-2
returns-then-names-2 c = λ cards has.
    let here : place c.args.pair.row.now (row_names cards) ≡ Some c.in-Some.first = ap (place c.args.pair.row.now) (sym has.rows) ∙ sym c.in-Some.ensures.place in
    let there : place c.args.other.row.now (row_names cards) ≡ Some c.in-Some-find.second = ap (place c.args.other.row.now) (sym has.rows) ∙ sym c.in-Some-find.ensures.place in
    let again : _ = named_here cards c.args.self.now c.args.name.now (text_pair c.args.other) c.in-Some-find.second _ has c.in-Some-find.ensures.place c.in_ok-entered.ensures.column c.if-names-2.ensures in
    fourth _ _ _ _ _ _ _ _ _ (ap₂ (λ x y. is_bad x || is_bad y) c.in_ok-values.ensures.0 c.in_ok-values.ensures.1) (ap₂ (λ x y. is_past x || is_past y) c.in_ok-values.ensures.0 c.in_ok-values.ensures.1)
    (ap₂ (λ x y. is_none x || is_none y) here there)
    (ap (λ (t : Bool). has_number c.args.self.now.dialect cards c.args.name.now (text_pair c.args.pair) || t || bytes_eq c.args.pair.row.now c.args.other.row.now) again
    ∙ ap (λ (t : Bool). t || bytes_eq c.args.pair.row.now c.args.other.row.now) (or-true _))
