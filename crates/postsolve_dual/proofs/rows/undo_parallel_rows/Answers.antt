use Rattle.std.proofs.Common.{List, sym, subst, ◌∙◌}
use Rattle.std.proofs.lemmas.Result.{err_from_is_err_and}
use Rattle.fractions.specs.Number.{Number, zero_ℚ}
use Rattle.lp_model.specs.declared.terms.Term.{Term}
use Rattle.lp_model.specs.Vectors.{vector_of}
use Rattle.undo_records.specs.Fitting.{TermsFit}
use Rattle.postsolve_dual.proofs.rows.undo_parallel_rows.Goals as goal

pub returns-in_err-is_from_multiple-clause-past : goal.returns-in_err-is_from_multiple-clause-past
returns-in_err-is_from_multiple-clause-past g c =
    let p = err_from_is_err_and c.from_residual.result c.from_residual.ensures.1 in
    rw p.1 (λ past f. c.in_err-is_from_multiple.ensures.past (subst (λ why. g.T.Exact.is_past why) p.2 past)
    (λ n. subst (λ (xs : List Number). TermsFit g.T.Exact.room zero_ℚ c.as_slice.result.now (vector_of xs)) (sym c.point.ensures)
    (subst (λ (ts : List Term). TermsFit g.T.Exact.room zero_ℚ ts (vector_of c.args.pair.now.point)) (sym c.as_slice.ensures)
    (f.0 (λ z. n (c.dual-dual.ensures ∙ z))))))
