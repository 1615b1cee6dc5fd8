use Rattle.std.proofs.Common.{◌∙◌, sym, ap}
use Rattle.text_lines.specs.Lines.{lines_of}
use Rattle.mps_profile.specs.Texts.{Text}
use Rattle.mps_profile.specs.Items.{item_of, has_card, progress_of, cards_of}
use Rattle.mps_profile.specs.declared.dialect.Dialect.{Dialect}
use Rattle.mps_profile.specs.declared.dialect.Format.{Format}
use Rattle.mps_profile.specs.declared.progress.Progress.{Progress}
use Rattle.mps_cards.specs.Texts.{text_item, item_result}
use Rattle.mps_cards.specs.Splits.{format_of}
use Rattle.mps_reader.proofs.Lines.{took}
use Rattle.mps_reader.proofs.reader.Reader.line.Goals as goal

pub returns : goal.returns
returns c = λ before has.
    let taken = c.in_ok-take.ensures (cards_of c.args.self.now.tables.dialect.format before) has.tables in
    let follows = has_card (lines_of c.args.after.now) in
    let format = sym (ap (λ (d : Dialect). d.format) c.dialect.ensures) ∙ sym c.in_ok-split.ensures.format in
    let own = c.args.self.now.tables.dialect.format in
    let cut = format_of c.in_ok-split.split.texts in
    let is = ap (λ (f : Format). item_of f (progress_of own before) c.args.line.now follows) format
    ∙ ap (λ (p : Progress). item_of cut p c.args.line.now follows) (sym has.progress)
    ∙ ap (λ (t : Text). item_of cut c.args.self.now.progress t follows) (sym c.in_ok-split.ensures.line)
    ∙ sym c.item.ensures
    ∙ ap item_result c.in_ok-item.was in
    took c.args.self.now.tables.dialect before c.args.line.now (lines_of c.args.after.now) (text_item c.in_ok-item.item) c.args.self.now c.take.new.self has is taken.0 taken.1 taken.2
