-- Numbers of changes: at the start of a run, and as a test of what stands.
use Rattle.std.proofs.Common.{◌≡◌, ◌⊎◌, inl, inr, ℕ, zero, suc, ◌<◌, ◌≤◌, Bool, true, false, ◌&&◌, List, [], ◌∷◌, length, map, sym, refl, ap, ap₂, ◌∙◌, arith}
use Rattle.std.specs.Prelude.{slice_index_or}
use Rattle.std.proofs.lemmas.Bool.{cases_eq, cases_lt, eq-eqb, ne_eqb}
use Rattle.std.proofs.lemmas.List.{get_or_past}
use Rattle.lp_model.specs.ProgramData.{ProgramData}
use Rattle.lp_model.specs.declared.program.RowDef.{RowDef}
use Rattle.lp_model.specs.declared.program.ColumnDef.{ColumnDef}
use Rattle.problem_model.specs.declared.line.Line.{Line}
use Rattle.problem_model.specs.declared.line.Sides.{Sides}
use Rattle.problem_model.specs.declared.line.Bounds.{Bounds}
use Rattle.problem_model.specs.declared.part.Part.{Part}
use Rattle.problem_model.specs.declared.part.Part.TheVariants as part
use Rattle.problem_model.specs.declared.part.Read.{Read}
use Rattle.problem_model.specs.Matrices.{line_at, no_line}
use Rattle.problem_model.specs.Parts.{changes_of}
use Rattle.problem_model.specs.Problems.{no_bounds, no_sides, row_at}
use Rattle.problem_model.specs.Programs.{bounds_of, IsProblemOf, line_of, sides_of}
use Rattle.problem_model.specs.Reading.{read_of}
use Rattle.problem_model.specs.Sparse.{Sparse}
use Rattle.presolve_model.specs.declared.instance.Instance.{Instance}
use Rattle.presolve_model.specs.Enabled.{reads}
use Rattle.presolve_model.proofs.Readings.{parts_same, reading_same}
use Rattle.place_laws.specs.Standing.{IsFresh, IsLaterAt}
use Rattle.round_laws.specs.Passing.{are_unchanged}
use Rattle.round_laws.proofs.Committing.{fresh_parts, same_reads}

-- ---- nothing of a program's problem has changed
module _ (program : ProgramData) (p : Sparse) (o : IsProblemOf program p) where
  columns_new : (cs : List ColumnDef) (j : ℕ) → (line_at (map (λ c. line_of c.entries) cs) j).changes ≡ 0
  columns_new [] j = refl
  columns_new (c ∷ cs) zero = refl
  columns_new (c ∷ cs) (suc j) = columns_new cs j

  sides_new : (rs : List RowDef) (i : ℕ) → (slice_index_or (map sides_of rs) i no_sides).changes ≡ 0
  sides_new [] i = refl
  sides_new (r ∷ rs) zero = refl
  sides_new (r ∷ rs) (suc i) = sides_new rs i

  bounds_new : (cs : List ColumnDef) (j : ℕ) → (slice_index_or (map bounds_of cs) j no_bounds).changes ≡ 0
  bounds_new [] j = refl
  bounds_new (c ∷ cs) zero = refl
  bounds_new (c ∷ cs) (suc j) = bounds_new cs j

  pub never_changed : (a : Part) → changes_of p a ≡ 0
  never_changed (part.Row i) = by (cases_lt i (length program.rows))
    where
      by : (i < length program.rows) ⊎ (length program.rows ≤ i) → (row_at p i).changes ≡ 0
      by (inl l) = ap (λ (y : Line). y.changes) (o.live i l)
      by (inr g) = ap (λ (y : Line). y.changes) (get_or_past p.matrix.rows i no_line (let e = o.rows in omega (arith, e, g)))
  never_changed (part.Sides i) = ap (λ (ss : List Sides). (slice_index_or ss i no_sides).changes) o.sides ∙ sides_new program.rows i
  never_changed (part.Col j) = ap (λ (ls : List Line). (line_at ls j).changes) o.columns ∙ columns_new program.columns j
  never_changed (part.Bounds j) = ap (λ (bs : List Bounds). (slice_index_or bs j no_bounds).changes) o.bounds ∙ bounds_new program.columns j

-- ---- numbers that stand tell that a reading stands
module _ (s : Part → ℕ) (f p : Sparse) (later : (a : Part) → IsLaterAt f p a) (stamped : (a : Part) → s a ≡ changes_of f a) where
  part_stands : (a : Part) → changes_of p a ≡ s a → read_of p a ≡ read_of f a
  part_stands a e = by (later a)
    where
      by : IsLaterAt f p a → read_of p a ≡ read_of f a
      by (inl g) = g
      by (inr l) = absurd (let g = stamped a in omega (arith, l, e, g))

  reads_stand : (ps : List Part) → are_unchanged s p ps ≡ true → map (read_of p) ps ≡ map (read_of f) ps
  reads_stand [] h = refl
  reads_stand (a ∷ ps) h = by (cases_eq (changes_of p a) (s a)) (reads_stand ps)
    where
      by : (changes_of p a ≡ s a) ⊎ (changes_of p a ≡ s a → ⊥) → (are_unchanged s p ps ≡ true → map (read_of p) ps ≡ map (read_of f) ps) → map (read_of p) (a ∷ ps) ≡ map (read_of f) (a ∷ ps)
      by (inl e) ih = ap₂ (λ (x : Read) (xs : List Read). x ∷ xs) (part_stands a e) (ih (sym (ap (λ (b : Bool). b && are_unchanged s p ps) (eq-eqb (changes_of p a) (s a) e)) ∙ h))
      by (inr n) ih = absurd (let g : false ≡ true = sym (ap (λ (b : Bool). b && are_unchanged s p ps) (ne_eqb (changes_of p a) (s a) n)) ∙ h in cc)

  stand_reads : (ps : List Part) → map (read_of p) ps ≡ map (read_of f) ps → are_unchanged s p ps ≡ true
  stand_reads [] h = refl
  stand_reads (a ∷ ps) h =
      let first : read_of p a ≡ read_of f a = ap (λ (rs : List Read). slice_index_or rs 0 (read_of p a)) h in
      let rest : map (read_of p) ps ≡ map (read_of f) ps = ap tail_of h in
      let e : changes_of p a ≡ s a = ap (λ (r : Read). r.changes) first ∙ sym (stamped a) in
      ap₂ (λ (b c : Bool). b && c) (eq-eqb (changes_of p a) (s a) e) (stand_reads ps rest)
    where
      tail_of : List Read → List Read
      tail_of [] = []
      tail_of (r ∷ rs) = rs

  -- said of what the instance reads of the present problem
  pub unchanged_fresh : (e : Instance) → are_unchanged s p (reads p e) ≡ true → IsFresh f p e
  unchanged_fresh e h = same_reads f p e (sym (reading_same p f e (sym (reads_stand (reads p e) h))))

  pub changed_stale : (e : Instance) → are_unchanged s p (reads p e) ≡ false → IsFresh f p e → ⊥
  changed_stale e h fresh =
      let same : map (read_of p) (reads f e) ≡ map (read_of f) (reads f e) = fresh_parts f p e fresh in
      let parts : reads p e ≡ reads f e = parts_same f p e same in
      let t : are_unchanged s p (reads p e) ≡ true = stand_reads (reads p e) (ap (map (read_of p)) parts ∙ same ∙ ap (map (read_of f)) (sym parts)) in
      let g : true ≡ false = sym t ∙ h in cc
