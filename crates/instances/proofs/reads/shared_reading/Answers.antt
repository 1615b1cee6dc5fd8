use Rattle.std.proofs.Common.{◌≡◌, Option, List, IfSome, subst, ◌∙◌}
use Rattle.problem_model.specs.declared.part.Read.{Read}
use Rattle.problem_model.specs.Sparse.{Sparse}
use Rattle.presolve_model.specs.declared.instance.Instance.{Instance}
use Rattle.presolve_model.specs.Enabled.{reading_of}
use Rattle.instances.proofs.reads.shared_reading.Goals as goal

-- the last one was read so, and the two read the same
pub returns-in-Some : goal.returns-in-Some
returns-in-Some c = λ (p : Sparse) h.
    let read = subst (λ (o : Option (Instance × List Read)). IfSome o (λ l. l.1 ≡ reading_of p l.0)) c.in-Some.is h in
    subst (λ (rs : List Read). IfSome c.share.result (λ reading. reading ≡ rs)) (read ∙ c.read_alike.ensures c.if-read_alike.true p) c.share.ensures
