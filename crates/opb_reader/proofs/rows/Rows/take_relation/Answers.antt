use Rattle.std.proofs.Common.{◌∙◌, ◌++◌, ◌∷◌, [], refl, ap}
use Rattle.mps_profile.specs.declared.row_kinds.RowKind.{RowKind}
use Rattle.opb_reader.proofs.HeldRows.{at_least_comes, equal_comes}
use Rattle.opb_reader.proofs.rows.Rows.take_relation.Goals as goal

pub returns-clause-at_least : goal.returns-clause-at_least
returns-clause-at_least c = λ tokens h shape is.
    at_least_comes tokens c.args.self.now _ h shape (c.in_ok-push.ensures.items ∙ ap (λ (kind : RowKind). c.args.self.now.kinds.items ++ kind ∷ []) is) refl refl refl refl

pub returns-clause-equal : goal.returns-clause-equal
returns-clause-equal c = λ tokens h shape is.
    equal_comes tokens c.args.self.now _ h shape (c.in_ok-push.ensures.items ∙ ap (λ (kind : RowKind). c.args.self.now.kinds.items ++ kind ∷ []) is) refl refl refl refl
