-- K12: a row of two entries that is an equation, a x_j + b x_k = r, puts (r - b x_k) / a for x_j everywhere.
use Rattle.std.specs.Prelude.{ℕ, ⊤, Bool, false, not, ◌&&◌, ◌||◌, nat_eq, List, [], ◌∷◌, ◌++◌, map, All, Option, Some, None, unwrap_or, Result, Ok, Err}
use Rattle.fractions.specs.Number.{Number, zero_ℚ, ◌-ℚ◌, ◌*ℚ◌}
use Rattle.fractions.specs.Division.{◌/ℚ◌}
use Rattle.fractions.specs.Ends.{meet_low, meet_high}
use Rattle.fractions.specs.Floor.{is_whole}
use Rattle.fractions.specs.Lowest.{Fits}
use Rattle.fractions.specs.declared.Past.{Past}
use Rattle.lp_model.specs.EndTests.{is_fixed, is_in_order}
use Rattle.lp_model.specs.Sparse.{dense, without}
use Rattle.lp_model.specs.declared.terms.Term.{Term}
use Rattle.lp_substitutions.specs.DoubletonEquation.{image_lower, image_upper}
use Rattle.undo_records.specs.Fitting.{LessProductFits, QuotientFits}
use Rattle.undo_records.specs.declared.undo.Undo.{Undo}
use Rattle.undo_records.specs.declared.undo.Undo.TheVariants as undo
use Rattle.problem_model.specs.declared.edit.Edit.{Edit}
use Rattle.problem_model.specs.declared.edit.Edit.TheVariants.{SetEntry, SetCost, SetBounds, AddOffset, DeleteRow, DeleteColumn}
use Rattle.problem_model.specs.declared.part.Contents.{Contents}
use Rattle.problem_model.specs.declared.part.Contents.TheVariants.{Entries, Sides, Bounds}
use Rattle.problem_model.specs.declared.part.Part.{Part}
use Rattle.problem_model.specs.declared.part.Part.TheVariants as part
use Rattle.problem_model.specs.Problems.{row_entries, column_entries, sides_at, bounds_at, cost_at}
use Rattle.problem_model.specs.Sparse.{Sparse}
use Rattle.row_spans.specs.Exact.{exact_quotient}
use Rattle.rule_words.specs.Reading.{found_on, no_more}
use Rattle.rule_words.specs.MovedSides.{sides_less, SidesFit}

-- it reads the row, its sides, and the bounds of both columns
abbrev pub heads : ℕ → ℕ → ℕ → List Part
heads i j k = part.Row i ∷ part.Sides i ∷ part.Bounds j ∷ part.Bounds k ∷ []

-- the terms are one at j and one at k, in either order
abbrev pub are_at : ℕ → ℕ → List Term → Bool
are_at j k (t ∷ u ∷ []) = (nat_eq t.id j && nat_eq u.id k) || (nat_eq t.id k && nat_eq u.id j)
are_at j k other = false

-- a number that is made has room, and is whole
abbrev pub is_made_whole : Result Number Past → Bool
is_made_whole (Ok q) = is_whole q
is_made_whole (Err e) = false

-- j is continuous, or both are whole, and b/a and r/a are too
abbrev pub stays_whole : Bool → Bool → Number → Number → Number → Bool
stays_whole first second a b r = not first || (second && (is_made_whole (exact_quotient b a) && is_made_whole (exact_quotient r a)))

-- both sides are one number, and no bounds are crossed
abbrev pub is_doubleton_equation : ℕ → ℕ → Contents → Contents → Contents → Contents → Bool
is_doubleton_equation j k (Entries ts) (Sides l u) (Bounds m v w) (Bounds n x y) =
    are_at j k ts && (is_fixed l u false && (is_in_order m v && (is_in_order n x && stays_whole w y (dense ts j) (dense ts k) (unwrap_or l zero_ℚ))))
is_doubleton_equation j k row sides first second = false

abbrev pub holds : ℕ → ℕ → List Contents → Bool
holds j k (row ∷ sides ∷ first ∷ second ∷ []) = is_doubleton_equation j k row sides first second
holds j k other = false

abbrev pub enabled : Sparse → ℕ → ℕ → ℕ → Bool
enabled p i j k = holds j k (found_on (heads i j k) no_more p)

-- a and b are entries of the row, and r is both its sides
abbrev pub entry_at : Sparse → ℕ → ℕ → Number
entry_at p i j = dense (row_entries p i) j

abbrev pub equal_of : Sparse → ℕ → Number
equal_of p i = unwrap_or (sides_at p i).lower zero_ℚ

-- b/a and r/a
abbrev pub factor : Sparse → ℕ → ℕ → ℕ → Number
factor p i j k = entry_at p i k /ℚ entry_at p i j

abbrev pub shift : Sparse → ℕ → ℕ → Number
shift p i j = equal_of p i /ℚ entry_at p i j

-- the other entries of column j
abbrev pub others : Sparse → ℕ → ℕ → List Term
others p i j = without i (column_entries p j)

-- the term times q leaves its row's entry in column k
abbrev pub new_entry : Sparse → ℕ → Number → Term → Number
new_entry p k q t = dense (column_entries p k) t.id -ℚ t.value *ℚ q

abbrev pub entry_less : Sparse → ℕ → Number → Term → Edit
entry_less p k q t = SetEntry t.id k (new_entry p k q t)

-- what k costs for both
abbrev pub joined_cost : Sparse → ℕ → ℕ → ℕ → Number
joined_cost p i j k = cost_at p k -ℚ cost_at p j *ℚ factor p i j k

-- k's bounds meet what j's say of x_k
abbrev pub joined_lower : Sparse → ℕ → ℕ → ℕ → Option Number
joined_lower p i j k = meet_low (bounds_at p k).lower (image_lower (entry_at p i j) (entry_at p i k) (equal_of p i) (bounds_at p j).lower (bounds_at p j).upper)

abbrev pub joined_upper : Sparse → ℕ → ℕ → ℕ → Option Number
joined_upper p i j k = meet_high (bounds_at p k).upper (image_upper (entry_at p i j) (entry_at p i k) (equal_of p i) (bounds_at p j).lower (bounds_at p j).upper)

-- then the row and column j go
abbrev pub column_joined : ℕ → ℕ → ℕ → Number → Option Number → Option Number → Number → List Edit
column_joined i j k cost l u amount = SetCost k cost ∷ SetBounds k l u ∷ AddOffset amount ∷ DeleteRow i ∷ DeleteColumn j ∷ []

abbrev pub edits : Sparse → ℕ → ℕ → ℕ → List Edit
edits p i j k =
    map (entry_less p k (factor p i j k)) (others p i j)
    ++ (map (sides_less p (shift p i j)) (others p i j)
    ++ column_joined i j k (joined_cost p i j k) (joined_lower p i j k) (joined_upper p i j k) (cost_at p j *ℚ shift p i j))

-- the record keeps the equation, k's old bounds, and the rest of column j
abbrev pub record_of : Sparse → ℕ → ℕ → ℕ → Undo
record_of p i j k = undo.DoubletonEquation (record { row = i; column = j; kept = k; value = entry_at p i j; kept_value = entry_at p i k; equal = equal_of p i; lower = (bounds_at p k).lower; upper = (bounds_at p k).upper; cost = cost_at p j; entries = others p i j })

-- for a term: the new entry and the new sides of its row
pub record TermComputes (p : Sparse) (k : ℕ) (q s : Number) (t : Term) : Type 0 where
  pub entry : LessProductFits (dense (column_entries p k) t.id) t.value q
  pub sides : SidesFit p s t

-- (r - a v) / b
abbrev pub ImageFits : Number → Number → Number → Option Number → Type 0
ImageFits a b r None = ⊤
ImageFits a b r (Some v) = Fits (a *ℚ v) × QuotientFits r (a *ℚ v) b

-- the quotients, products and differences are computed
pub record Computes (p : Sparse) (i j k : ℕ) : Type 0 where
  pub entries_quotient : Fits (factor p i j k)
  pub sides_quotient : Fits (shift p i j)
  pub terms : All (TermComputes p k (factor p i j k) (shift p i j)) (others p i j)
  pub cost : LessProductFits (cost_at p k) (cost_at p j) (factor p i j k)
  pub amount : Fits (cost_at p j *ℚ shift p i j)
  pub lower : ImageFits (entry_at p i j) (entry_at p i k) (equal_of p i) (bounds_at p j).lower
  pub upper : ImageFits (entry_at p i j) (entry_at p i k) (equal_of p i) (bounds_at p j).upper
