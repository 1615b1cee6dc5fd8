use Rattle.std.proofs.Common.{ap, ◌∙◌}
use Rattle.lp_model.specs.Flags.{Flags}
use Rattle.undo_records.proofs.Walking.{names_live}
use Rattle.undo_records.proofs.walk.Walk.takes.Goals as goal

pub returns : goal.returns
returns c =
    names_live c.args.self.now c.args.undo.now _ _ _
    (c.as_slice.ensures.value ∙ ap (λ (f : Flags). f.rows) c.self.view_is)
    (c.as_slice-2.ensures.value ∙ ap (λ (f : Flags). f.columns) c.self.view_is)
    c.names_live.ensures
