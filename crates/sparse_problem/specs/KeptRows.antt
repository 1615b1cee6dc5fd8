-- What is kept of the rows of a problem.
use Rattle.std.specs.Prelude.{◌≡◌, ℕ, false, List, Option, None, IfSome, slice_index_or, if◌then◌else◌}
use Rattle.fractions.specs.Number.{Number}
use Rattle.lp_model.specs.Gaps.{reach_lower, reach_upper}
use Rattle.lp_model.specs.declared.terms.Term.{Term}
use Rattle.lp_model.specs.Sparse.{has}
use Rattle.problem_model.specs.Problems.{bounds_at}
use Rattle.problem_model.specs.Sparse.{Sparse}
use Rattle.row_spans.specs.declared.span.Span.{Span}
use Rattle.row_spans.specs.Spans.{spans_of}
use Rattle.kept_sums.specs.KeptSums.{AreSumsOf}
use Rattle.kept_sums.specs.declared.kept.KeptSums.{KeptSums}

-- what is kept of row i, if something is
abbrev pub kept_at : List (Option KeptSums) → ℕ → Option KeptSums
kept_at ks i = slice_index_or ks i None

-- what is kept of a row are the sums of its entries within the bounds of their columns
unfoldable pub AreKept : Sparse → List (Option KeptSums) → Type 0
AreKept p ks = (i : ℕ) → IfSome (kept_at ks i) (AreSumsOf (spans_of p i))

-- so it is but for rows that the terms name
unfoldable pub AreKeptBut : Sparse → List Term → List (Option KeptSums) → Type 0
AreKeptBut p ts ks = (i : ℕ) → has i ts ≡ false → IfSome (kept_at ks i) (AreSumsOf (spans_of p i))

-- the entries of row i in p if one of the terms names it, else those in q
abbrev pub spans_between : Sparse → Sparse → List Term → ℕ → List Span
spans_between p q ts i = if has i ts then spans_of p i else spans_of q i

-- on the way from p to q, where the rows that the terms name are still to be mended
unfoldable pub AreBetween : Sparse → Sparse → List Term → List (Option KeptSums) → Type 0
AreBetween p q ts ks = (i : ℕ) → IfSome (kept_at ks i) (AreSumsOf (spans_between p q ts i))

-- the entry a of column j with the bounds l and u
abbrev pub span_within : Sparse → ℕ → Number → Option Number → Option Number → Span
span_within p j a l u = record { id = j; value = a; lower = reach_lower (bounds_at p j).semi l u; upper = reach_upper (bounds_at p j).semi l u; whole = (bounds_at p j).whole; semi = (bounds_at p j).semi }
