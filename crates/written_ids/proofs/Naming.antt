-- The rows that a column names when it is read, live or not: they are live, and at new ids they are the same rows.
use Rattle.std.proofs.Common.{◌≡◌, ℕ, Bool, true, false, List, map, refl, ap, ◌∙◌}
use Rattle.std.specs.List.{All}
use Rattle.std.proofs.lemmas.List.Elements.{All-map, All-nil}
use Rattle.lp_model.specs.declared.terms.Term.{Term}
use Rattle.problem_model.specs.declared.part.Contents.TheVariants as holds
use Rattle.problem_model.specs.declared.part.Part.TheVariants.{Sides, Col}
use Rattle.problem_model.specs.Parts.{contents_of}
use Rattle.problem_model.specs.Problems.{column_at, column_entries, cost_at}
use Rattle.problem_model.specs.Sparse.{Sparse}
use Rattle.problem_laws.proofs.Entries.{column_entries-live}
use Rattle.rule_words.specs.Reading.{sides_of, terms_in}
use Rattle.written_ids.specs.NewIds.{Ids, term_at, terms_at}
use Rattle.written_ids.proofs.Lists.{map_across}
use Rattle.written_ids.proofs.NewIds.{contents_at, part_at}
use Rattle.written_ids.proofs.OneToOne.{NamesLive}
use Rattle.written_ids.proofs.Standing.{AreThere, IsThere, held}

-- the entries of a column that was read
abbrev pub entries_read : Sparse → ℕ → List Term
entries_read p j = terms_in (contents_of p (Col j))

pub entries_read_live : (p : Sparse) (j : ℕ) → All (NamesLive p.matrix.rows) (entries_read p j)
entries_read_live p j = by (column_at p j).live
  where
    by : (on : Bool) → All (NamesLive p.matrix.rows) (terms_in (held on (holds.Column (column_entries p j) (cost_at p j))))
    by true = column_entries-live p j
    by false = All-nil (NamesLive p.matrix.rows)

pub entries_read_at : (n : Ids) (p : Sparse) (j : ℕ) → terms_in (contents_at n (contents_of p (Col j))) ≡ terms_at n.row (entries_read p j)
entries_read_at n p j = by (column_at p j).live
  where
    by : (on : Bool) → terms_in (contents_at n (held on (holds.Column (column_entries p j) (cost_at p j)))) ≡ terms_at n.row (terms_in (held on (holds.Column (column_entries p j) (cost_at p j))))
    by true = refl
    by false = refl

-- ---- the sides of the rows that terms name
pub sides_of_at : (n : Ids) (ts : List Term) → sides_of (terms_at n.row ts) ≡ map (part_at n) (sides_of ts)
sides_of_at n ts = map_across (term_at n.row) (λ t. Sides t.id) (part_at n) (λ t. Sides t.id) (λ t. refl) ts

pub sides_read_at : (n : Ids) (p : Sparse) (j : ℕ) → sides_of (terms_in (contents_at n (contents_of p (Col j)))) ≡ map (part_at n) (sides_of (entries_read p j))
sides_read_at n p j = ap sides_of (entries_read_at n p j) ∙ sides_of_at n (entries_read p j)

pub sides_read_there : (p : Sparse) (j : ℕ) → AreThere p (sides_of (entries_read p j))
sides_read_there p j = All-map (IsThere p) (λ t. Sides t.id) (entries_read p j) (entries_read_live p j)
