use Rattle.std.proofs.Common.{◌≡◌, ◌⊎◌, subst}
use Rattle.std.specs.List.{Contains}
use Rattle.problem_model.specs.declared.part.Part.{Part}
use Rattle.problem_model.specs.Parts.{contents_of}
use Rattle.edit_laws.specs.Sizes.{SameSize}
use Rattle.line_groups.specs.Groups.{AreGroupsOf, LineGroups}
use Rattle.line_groups.proofs.Sharing.{closed, opened}
use Rattle.line_groups.proofs.parallels.Parallels.refresh.Goals as goal

pub returns : goal.returns
returns c f =
    let p = c.args.problem.now in
    let old : LineGroups = record { rows = c.self.inside.rows; columns = c.self.inside.columns } in
    let new : LineGroups = record { rows = c.refresh.new.self; columns = c.refresh-2.new.self } in
    subst (λ (t : LineGroups). AreGroupsOf t f → SameSize f p → ((a : Part) → (contents_of p a ≡ contents_of f a) ⊎ Contains c.args.parts.now a) → AreGroupsOf new p) c.self.view_is
    (λ (g : AreGroupsOf old f) (s : SameSize f p) (same : (a : Part) → (contents_of p a ≡ contents_of f a) ⊎ Contains c.args.parts.now a).
    closed new p (record { rows = c.in_ok-refresh.ensures f (opened old f g).rows s.rows same; columns = c.in_ok-refresh-2.ensures f (opened old f g).columns s.columns same }))
