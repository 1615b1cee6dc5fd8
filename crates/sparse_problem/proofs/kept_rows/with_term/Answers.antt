use Rattle.std.proofs.Common.{◌++◌, ◌∷◌, [], ◌∙◌, List, Option, Some, None, IfSome, subst, sym}
use Rattle.lp_model.specs.declared.terms.Term.{Term}
use Rattle.row_spans.specs.declared.span.Span.{Span}
use Rattle.row_spans.specs.Spans.{span_of, spans_among}
use Rattle.kept_sums.specs.KeptSums.{AreSumsOf}
use Rattle.kept_sums.specs.declared.kept.KeptSums.{KeptSums}
use Rattle.sparse_problem.proofs.Mending.{sums_more}
use Rattle.sparse_problem.proofs.kept_rows.with_term.Goals as goal

pub returns-then-is_column_live-clause-value : goal.returns-then-is_column_live-clause-value
returns-then-is_column_live-clause-value c = by c.with.result (subst (λ (s : Span). IfSome c.with.result (λ k. (a b : List Span) → AreSumsOf (a ++ b) c.args.kept.now → AreSumsOf (a ++ s ∷ b) k)) c.span_of.ensures c.with.ensures.value)
  where
    by : (o : Option KeptSums) → IfSome o (λ k. (a b : List Span) → AreSumsOf (a ++ b) c.args.kept.now → AreSumsOf (a ++ span_of c.args.parts.now c.args.term.now ∷ b) k)
        → IfSome o (λ k. (ts : List Term) → AreSumsOf (spans_among c.args.parts.now ts) c.args.kept.now → AreSumsOf (spans_among c.args.parts.now (ts ++ c.args.term.now ∷ [])) k)
    by None f = tt
    by (Some k) f = λ ts h. sums_more c.args.parts.now ts c.args.term.now c.args.kept.now k (sym c.is_column_live.ensures ∙ c.if-is_column_live.true) f h
