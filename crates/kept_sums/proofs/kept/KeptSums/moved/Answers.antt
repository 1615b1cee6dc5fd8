use Rattle.std.proofs.Common.{◌≡◌, ◌++◌, ◌∷◌, List, Option, Some, None, IfSome}
use Rattle.row_spans.specs.declared.span.Span.{Span}
use Rattle.row_spans.specs.declared.span.Extreme.TheVariants.{Least, Greatest}
use Rattle.row_spans.specs.Spans.{ends_at}
use Rattle.kept_sums.specs.CommonSums.{IsCommonSum}
use Rattle.kept_sums.specs.KeptSums.{AreSumsOf, crossed_count}
use Rattle.kept_sums.specs.declared.kept.KeptSums.{KeptSums}
use Rattle.kept_sums.proofs.Crossed.{counted, uncounted}
use Rattle.kept_sums.proofs.kept.KeptSums.moved.Goals as goal

pub returns-clause-value : goal.returns-clause-value
returns-clause-value c = by c.levelled.result c.levelled.ensures.value
  where
    by : (o : Option KeptSums) → IfSome o (λ k. (ss : List Span) → IsCommonSum (ends_at Least ss) c.in_ok-least.least → IsCommonSum (ends_at Greatest ss) c.in_ok-greatest.greatest → c.in_ok-crossed.crossed ≡ crossed_count ss → AreSumsOf ss k)
        → IfSome o (λ k. (a b : List Span) → AreSumsOf (a ++ c.args.before.now ∷ b) c.args.self.now → AreSumsOf (a ++ c.args.after.now ∷ b) k)
    by None f = tt
    by (Some k) f = λ a b h. f (a ++ c.args.after.now ∷ b) (c.in_ok-least.ensures.value a b h.least) (c.in_ok-greatest.ensures.value a b h.greatest)
        (counted a b c.args.after.now c.in_ok-others.others c.in_ok-crossed.crossed c.crossed_in-2.result c.crossed_in-2.ensures
        (uncounted a b c.args.before.now c.args.self.now.crossed c.in_ok-others.others c.crossed_in.result c.crossed_in.ensures h.crossed c.in_ok-others.ensures.0 c.in_ok-others.ensures.1)
        c.in_ok-crossed.ensures.1)
