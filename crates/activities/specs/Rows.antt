-- What is looked at of a row before its activities are, and the rest from which a bound of one of its columns follows.
use Rattle.std.specs.Prelude.{ℕ, Bool, true, false, ◌&&◌}
use Rattle.lp_model.specs.EndTests.{is_in_order}
use Rattle.undo_records.specs.declared.side.Side.{Side}
use Rattle.undo_records.specs.declared.side.Side.TheVariants.{Lower, Upper}
use Rattle.problem_model.specs.Problems.{row_at, sides_at}
use Rattle.problem_model.specs.Sparse.{Sparse}
use Rattle.row_spans.specs.declared.span.Extreme.{Extreme}
use Rattle.row_spans.specs.declared.span.Extreme.TheVariants.{Least, Greatest}
use Rattle.row_spans.specs.Spans.{spans_of}
use Rattle.activity_laws.specs.Rows.{all_in_order}

-- the row is live, and neither its sides nor the bounds of its columns are crossed
abbrev pub is_uncrossed : Sparse → ℕ → Bool
is_uncrossed p i = (row_at p i).live && (is_in_order (sides_at p i).lower (sides_at p i).upper && all_in_order (spans_of p i))

-- the rest that goes with the side from which a bound follows: for an entry above 0 the lower bound follows from the lower side
abbrev pub source_of : Side → Bool → Extreme
source_of Lower true = Greatest
source_of Lower false = Least
source_of Upper true = Least
source_of Upper false = Greatest
