use Rattle.std.proofs.Common.{◌≡◌, ◌||◌, Bool, false, Some, sym, ap, ◌∙◌}
use Rattle.std.specs.Prelude.{is_none}
use Rattle.names.specs.Names.{place}
use Rattle.mps_profile.specs.Cards.{text_pair}
use Rattle.mps_profile.specs.Rows.{row_names}
use Rattle.mps_profile.specs.CardFaults.{is_bad, is_past}
use Rattle.mps_tables.proofs.Columns.{named_here}
use Rattle.mps_tables.proofs.Firsts.{fourth}
use Rattle.mps_tables.proofs.tables.Tables.column_one.Goals as goal

pub returns-then-names : goal.returns-then-names
returns-then-names c = λ cards has.
    let here : place c.args.pair.row.now (row_names cards) ≡ Some c.in-Some.row = ap (place c.args.pair.row.now) (sym has.rows) ∙ sym c.in-Some.ensures.place in
    let again : _ = named_here cards c.args.self.now c.args.name.now (text_pair c.args.pair) c.in-Some.row _ has c.in-Some.ensures.place c.in_ok-entered.ensures.column c.if-names.ensures in
    fourth _ _ _ _ _ _ _ _ _ (ap is_bad (sym c.in_ok-value.ensures)) (ap is_past (sym c.in_ok-value.ensures)) (ap is_none here) (ap (λ (t : Bool). t || false) again)
