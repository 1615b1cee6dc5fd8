use Rattle.row_spans.specs.declared.span.Extreme.TheVariants.{Least, Greatest}
use Rattle.row_spans.proofs.Bridge.{activity-is, rest-is}
use Rattle.row_spans.proofs.laws.row_sums_are_activities.Goals as goal

pub returns-clause-least : goal.returns-clause-least
returns-clause-least c p i e s live h = activity-is p i Least e s live h

pub returns-clause-greatest : goal.returns-clause-greatest
returns-clause-greatest c p i e s live h = activity-is p i Greatest e s live h

pub returns-clause-least_rest : goal.returns-clause-least_rest
returns-clause-least_rest c p i j e s live h = rest-is p i j Least e s live h

pub returns-clause-greatest_rest : goal.returns-clause-greatest_rest
returns-clause-greatest_rest c p i j e s live h = rest-is p i j Greatest e s live h
