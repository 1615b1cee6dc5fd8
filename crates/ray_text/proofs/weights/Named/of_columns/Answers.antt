use Rattle.std.proofs.Common.{◌≡◌, None, replicate, ap, length, ◌∙◌, rules}
use Rattle.lp_model.specs.Names.{names_of_columns}
use Rattle.ray_text.proofs.Places.{none_held}
use Rattle.ray_text.proofs.weights.Named.of_columns.Goals as goal

pub returns : goal.returns
returns c =
    let items : c.in_ok-weights.weights.items ≡ replicate c.len.result None = search rules in
    record {
      table = c.in_ok-table.ensures;
      weights = items ∙ none_held (names_of_columns c.args.columns.now) c.len.result (c.len.ensures ∙ ap length c.in_ok-table.ensures);
    }
