-- Entries whose ends take in 0.
use Rattle.lp_model.specs.Gaps.{reach_lower, reach_upper}
use Rattle.row_spans.specs.declared.span.Span.{Span}

-- an entry with the ends of the hull of 0 and its own where its column is semi-continuous
abbrev pub with_zero : Span → Span
with_zero s = record s { lower = reach_lower s.semi s.lower s.upper; upper = reach_upper s.semi s.lower s.upper }
