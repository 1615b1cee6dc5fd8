use Rattle.std.proofs.Common.{sym, ap, ◌∙◌, subst}
use Rattle.record_values.specs.Values.{values}
use Rattle.record_values.proofs.telling.tell.Goals as goal

pub returns-in-DoubletonEquation : goal.returns-in-DoubletonEquation
returns-in-DoubletonEquation g c =
    subst (λ vs. g.H.Hearer.hears c.args.kept.now vs c.hear-in-DoubletonEquation.result c.hear-in-DoubletonEquation.new.kept)
    (c.doubleton_equation.ensures ∙ sym (ap values c.in-DoubletonEquation.is)) c.hear-in-DoubletonEquation.ensures

pub returns-in-SlackColumnSingleton : goal.returns-in-SlackColumnSingleton
returns-in-SlackColumnSingleton g c =
    subst (λ vs. g.H.Hearer.hears c.args.kept.now vs c.hear-in-SlackColumnSingleton.result c.hear-in-SlackColumnSingleton.new.kept)
    (c.slack_column_singleton.ensures ∙ sym (ap values c.in-SlackColumnSingleton.is)) c.hear-in-SlackColumnSingleton.ensures
