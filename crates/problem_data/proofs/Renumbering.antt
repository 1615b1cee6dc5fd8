-- One number of changes set in a list.
use Rattle.std.proofs.Common.{◌≡◌, ◌≢◌, ℕ, nat_eq, ◌<◌, Bool, List, length, set, get_or, refl, sym, ap, ◌∙◌, subst, arith, ◌⊎◌, inl, inr}
use Rattle.std.specs.Prelude.{if◌then◌else◌}
use Rattle.std.proofs.lemmas.Bool.{eq-eqb, ne_eqb, cases_eq}
use Rattle.std.proofs.lemmas.List.{ext_get_or, length-set, get_or-set_same, get_or-set_other, get_or_default}
use Rattle.problem_model.specs.declared.line.Line.{Line}
use Rattle.problem_model.specs.declared.line.Sides.{Sides}
use Rattle.problem_model.specs.declared.line.Bounds.{Bounds}
use Rattle.problem_model.specs.declared.part.Part.TheVariants as part
use Rattle.problem_model.specs.Matrices.{no_line, line_at}
use Rattle.problem_model.specs.Problems.{no_sides, no_bounds, IsSparse}
use Rattle.problem_model.specs.Parts.{changes_of}
use Rattle.problem_model.specs.Raised.{each_at, numbered}
use Rattle.problem_model.specs.Sparse.{Sparse}
use Rattle.problem_laws.proofs.Numbering.{length-each_at, each_at-get, numbered_sparse}
use Rattle.problem_data.specs.Renumbered.{number_put, changes_put}

-- what has numbers of changes
module _ {X : Type 0} (num : X → ℕ) (give : ℕ → X → X) (d : X) (keeps : (x : X) → give (num x) x ≡ x) (xs : List X) where
  -- each with the number that it has
  each_self : each_at (λ m x. give (num (get_or xs m d)) x) 0 xs ≡ xs
  each_self = ext_get_or d (each_at (λ m x. give (num (get_or xs m d)) x) 0 xs) xs (length-each_at (λ m x. give (num (get_or xs m d)) x) 0 xs)
      (λ m l. each_at-get (λ m x. give (num (get_or xs m d)) x) d xs m (omega (arith, l, length-each_at (λ m x. give (num (get_or xs m d)) x) 0 xs)) ∙ keeps (get_or xs m d))

  -- one with another
  set_each : (k n : ℕ) → k < length xs → set xs k (give n (get_or xs k d)) ≡ each_at (λ m x. give (if nat_eq m k then n else num (get_or xs m d)) x) 0 xs
  set_each k n within = ext_get_or d (set xs k (give n (get_or xs k d))) (each_at f 0 xs) (length-set xs k (give n (get_or xs k d)) ∙ sym (length-each_at f 0 xs))
      (λ m l. by m (omega (arith, l, length-set xs k (give n (get_or xs k d)))) (cases_eq m k))
    where
      f : ℕ → X → X
      f = λ m x. give (if nat_eq m k then n else num (get_or xs m d)) x

      by : (m : ℕ) → m < length xs → (m ≡ k) ⊎ (m ≢ k) → get_or (set xs k (give n (get_or xs k d))) m d ≡ get_or (each_at f 0 xs) m d
      by m l (inl e) =
          ap (λ (i : ℕ). get_or (set xs k (give n (get_or xs k d))) i d) e ∙ get_or-set_same xs k (give n (get_or xs k d)) d within
          ∙ ap (λ (i : ℕ). give n (get_or xs i d)) (sym e)
          ∙ sym (each_at-get f d xs m l ∙ ap (λ (b : Bool). give (if b then n else num (get_or xs m d)) (get_or xs m d)) (eq-eqb m k e))
      by m l (inr o) =
          get_or-set_other xs k m (give n (get_or xs k d)) d o
          ∙ sym (each_at-get f d xs m l ∙ ap (λ (b : Bool). give (if b then n else num (get_or xs m d)) (get_or xs m d)) (ne_eqb m k o) ∙ keeps (get_or xs m d))

lines_self : (lines : List Line) → each_at (λ m l. record l { changes = (line_at lines m).changes }) 0 lines ≡ lines
lines_self = each_self (λ (l : Line). l.changes) (λ n l. record l { changes = n }) no_line (λ l. refl)

sides_self : (ss : List Sides) → each_at (λ m s. record s { changes = (get_or ss m no_sides).changes }) 0 ss ≡ ss
sides_self = each_self (λ (s : Sides). s.changes) (λ n s. record s { changes = n }) no_sides (λ s. refl)

bounds_self : (bs : List Bounds) → each_at (λ m b. record b { changes = (get_or bs m no_bounds).changes }) 0 bs ≡ bs
bounds_self = each_self (λ (b : Bounds). b.changes) (λ n b. record b { changes = n }) no_bounds (λ b. refl)

pub row_put : (p : Sparse) (i n : ℕ) (rows : List Line) → i < length p.matrix.rows → rows ≡ set p.matrix.rows i (record (line_at p.matrix.rows i) { changes = n })
    → record p { matrix = record { rows = rows; columns = p.matrix.columns } } ≡ changes_put p (part.Row i) n
row_put p i n rows l e t = record p {
  matrix = record { rows = (e ∙ set_each (λ (l : Line). l.changes) (λ n l. record l { changes = n }) no_line (λ l. refl) p.matrix.rows i n l) t; columns = sym (lines_self p.matrix.columns) t };
  sides = sym (sides_self p.sides) t;
  bounds = sym (bounds_self p.bounds) t;
}

pub row_kept : (p : Sparse) (i n : ℕ) (rows : List Line) → IsSparse p → i < length p.matrix.rows → rows ≡ set p.matrix.rows i (record (line_at p.matrix.rows i) { changes = n })
    → IsSparse (record p { matrix = record { rows = rows; columns = p.matrix.columns } })
row_kept p i n rows s l e = subst IsSparse (sym (row_put p i n rows l e)) (numbered_sparse p (number_put p (part.Row i) n) s)

pub column_put : (p : Sparse) (j n : ℕ) (columns : List Line) → j < length p.matrix.columns → columns ≡ set p.matrix.columns j (record (line_at p.matrix.columns j) { changes = n })
    → record p { matrix = record { rows = p.matrix.rows; columns = columns } } ≡ changes_put p (part.Col j) n
column_put p j n columns l e t = record p {
  matrix = record { rows = sym (lines_self p.matrix.rows) t; columns = (e ∙ set_each (λ (l : Line). l.changes) (λ n l. record l { changes = n }) no_line (λ l. refl) p.matrix.columns j n l) t };
  sides = sym (sides_self p.sides) t;
  bounds = sym (bounds_self p.bounds) t;
}

pub column_kept : (p : Sparse) (j n : ℕ) (columns : List Line) → IsSparse p → j < length p.matrix.columns → columns ≡ set p.matrix.columns j (record (line_at p.matrix.columns j) { changes = n })
    → IsSparse (record p { matrix = record { rows = p.matrix.rows; columns = columns } })
column_kept p j n columns s l e = subst IsSparse (sym (column_put p j n columns l e)) (numbered_sparse p (number_put p (part.Col j) n) s)

pub sides_put : (p : Sparse) (i n : ℕ) (x d : Sides) → i < length p.sides → x ≡ get_or p.sides i d → record p { sides = set p.sides i (record x { changes = n }) } ≡ changes_put p (part.Sides i) n
sides_put p i n x d l e t = record p {
  matrix = record { rows = sym (lines_self p.matrix.rows) t; columns = sym (lines_self p.matrix.columns) t };
  sides = (ap (λ (s : Sides). set p.sides i (record s { changes = n })) (e ∙ get_or_default p.sides i d no_sides l) ∙ set_each (λ (s : Sides). s.changes) (λ n s. record s { changes = n }) no_sides (λ s. refl) p.sides i n l) t;
  bounds = sym (bounds_self p.bounds) t;
}

pub bounds_put : (p : Sparse) (j n : ℕ) (x d : Bounds) → j < length p.bounds → x ≡ get_or p.bounds j d → record p { bounds = set p.bounds j (record x { changes = n }) } ≡ changes_put p (part.Bounds j) n
bounds_put p j n x d l e t = record p {
  matrix = record { rows = sym (lines_self p.matrix.rows) t; columns = sym (lines_self p.matrix.columns) t };
  sides = sym (sides_self p.sides) t;
  bounds = (ap (λ (b : Bounds). set p.bounds j (record b { changes = n })) (e ∙ get_or_default p.bounds j d no_bounds l) ∙ set_each (λ (b : Bounds). b.changes) (λ n b. record b { changes = n }) no_bounds (λ b. refl) p.bounds j n l) t;
}

-- a problem with the numbers that it has
pub numbered_self : (p : Sparse) → numbered p (changes_of p) ≡ p
numbered_self p t = record p {
  matrix = record { rows = lines_self p.matrix.rows t; columns = lines_self p.matrix.columns t };
  sides = sides_self p.sides t;
  bounds = bounds_self p.bounds t;
}
