use Rattle.std.proofs.Common.{sym, ap, ◌∙◌}
use Rattle.row_spans.specs.RowSums.{activity}
use Rattle.activities.proofs.Pieces.{others_place}
use Rattle.activities.proofs.row_sums.rest_off.Goals as goal

pub returns : goal.returns
returns c = c.rest_of.ensures ∙ ap (activity c.args.extreme) (sym (others_place c.args.spans.now c.args.place c.requires.spans c.requires.place))
