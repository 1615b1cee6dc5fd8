-- What rows and columns of a matrix have to do with one another.
use Rattle.std.specs.Prelude.{◌≡◌, ℕ, false, true, List, [], length, slice_index_or}
use Rattle.std.specs.List.{filter}
use Rattle.lp_model.specs.declared.terms.Term.{Term}
use Rattle.lp_model.specs.Sparse.{Ascends, dense}
use Rattle.problem_model.specs.declared.line.Line.{Line}
use Rattle.problem_model.specs.Grids.{Grid}

abbrev pub no_line : Line
no_line = record { live = false; entries = []; live_entries = 0; changes = 0 }

-- a row or a column by its id; past the last there is none
abbrev pub line_at : List Line → ℕ → Line
line_at lines k = slice_index_or lines k no_line

-- the terms that name a line that is live
abbrev pub live_only : List Line → List Term → List Term
live_only others ts = filter (λ t. (line_at others t.id).live) ts

-- the entries of each line name the others by ascending id, none of them 0, the live ones among them are counted, and a line that is
-- not live has none
pub record Crosses (lines others : List Line) : Type 0 where
  pub ascends : (k : ℕ) → Ascends 0 (length others) (line_at lines k).entries
  pub counted : (k : ℕ) → (line_at lines k).live_entries ≡ length (live_only others (line_at lines k).entries)
  pub gone : (k : ℕ) → (line_at lines k).live ≡ false → (line_at lines k).entries ≡ []

-- rows and columns that are live tell the same entries
pub record IsMatrix (g : Grid) : Type 0 where
  pub rows : Crosses g.rows g.columns
  pub columns : Crosses g.columns g.rows
  pub agree : (i j : ℕ) → (line_at g.rows i).live ≡ true → (line_at g.columns j).live ≡ true
      → dense (line_at g.rows i).entries j ≡ dense (line_at g.columns j).entries i
