-- K11 at new ids: which rows it reads, and its condition there.
use Rattle.std.proofs.Common.{◌≡◌, ℕ, Bool, true, false, not, ◌&&◌, ◌||◌, nat_le, List, [], ◌∷◌, ◌++◌, get_or, map, is_none, refl, sym, ap, ap₂, ◌∙◌}
use Rattle.std.specs.Prelude.{if◌then◌else◌}
use Rattle.std.specs.List.{All, filter}
use Rattle.std.proofs.lemmas.List.{length-map, map-append}
use Rattle.std.proofs.lemmas.List.Elements.{All-append, All-cons, All-filter, All-head, All-map, All-tail}
use Rattle.fractions.specs.Number.{Number}
use Rattle.fractions.specs.Compare.{le_ℚ}
use Rattle.lp_model.specs.declared.terms.Term.{Term}
use Rattle.lp_model.specs.EndTests.{is_apart, is_place}
use Rattle.lp_model.specs.Sparse.{dense, has}
use Rattle.lp_model.specs.Vectors.{Vector}
use Rattle.problem_model.specs.declared.line.Line.{Line}
use Rattle.problem_model.specs.declared.part.Contents.{Contents}
use Rattle.problem_model.specs.declared.part.Contents.TheVariants as holding
use Rattle.problem_model.specs.declared.part.Part.TheVariants.{Row, Sides, Col, Bounds}
use Rattle.problem_model.specs.Parts.{bounds_held, contents_of}
use Rattle.problem_model.specs.Problems.{bounds_at, column_at, column_entries, cost_at, row_at, row_entries}
use Rattle.problem_model.specs.Sparse.{Sparse}
use Rattle.problem_laws.proofs.Entries.{column_entries-live, row_entries-live}
use Rattle.rule_words.specs.Reading.{found_on, terms_in}
use Rattle.dual_laws.specs.DominatedColumn.{all_take_over, heads, holds, more, rows_of_both, share, takes_over}
use Rattle.written_ids.specs.NewIds.{Ids, term_at, terms_at}
use Rattle.written_ids.specs.Standing.{AreOneToOne, IsLive, IsOneToOne}
use Rattle.written_ids.proofs.Lists.{all_two, map_across}
use Rattle.written_ids.proofs.Naming.{entries_read, entries_read_at, entries_read_live}
use Rattle.written_ids.proofs.NewIds.{contents_at, part_at}
use Rattle.written_ids.proofs.OneToOne.{NamesLive, dense_at, equal_at, has_at}
use Rattle.written_ids.proofs.Standing.{AreThere, IsThere, held}
use Rattle.written_rules.proofs.Locks.{are_uncrossed_at}

-- ---- the rows of both columns
-- the terms of us whose ids are not among those of ts
abbrev others : List Term → List Term → List Term
others ts us = filter (λ u. not (has u.id ts)) us

module _ (f : ℕ → ℕ) (lines : List Line) (o : IsOneToOne f lines) (ts : List Term) (on : All (NamesLive lines) ts) where
  others_at : (us : List Term) → All (NamesLive lines) us → others (terms_at f ts) (terms_at f us) ≡ terms_at f (others ts us)
  others_at [] h = refl
  others_at (u ∷ us) h =
      ap₂ (λ (b : Bool) (xs : List Term). if not b then term_at f u ∷ xs else xs) (has_at f lines o u.id ts (All-head (NamesLive lines) u us h) on) (others_at us (All-tail (NamesLive lines) u us h))
      ∙ step (has u.id ts)
    where
      step : (b : Bool) → (if not b then term_at f u ∷ terms_at f (others ts us) else terms_at f (others ts us)) ≡ terms_at f (if not b then u ∷ others ts us else others ts us)
      step true = refl
      step false = refl

  rows_of_both_at : (us : List Term) → All (NamesLive lines) us → rows_of_both (terms_at f ts) (terms_at f us) ≡ map f (rows_of_both ts us)
  rows_of_both_at us h =
      ap (λ (xs : List Term). map (λ t. t.id) (terms_at f ts ++ xs)) (others_at us h)
      ∙ ap (map (λ t. t.id)) (sym (map-append (term_at f) ts (others ts us)))
      ∙ map_across (term_at f) (λ t. t.id) f (λ t. t.id) (λ t. refl) (ts ++ others ts us)

rows_of_both_live : (lines : List Line) (ts us : List Term) → All (NamesLive lines) ts → All (NamesLive lines) us → All (IsLive lines) (rows_of_both ts us)
rows_of_both_live lines ts us h g =
    All-map (IsLive lines) (λ t. t.id) (ts ++ others ts us) (All-append (NamesLive lines) ts (others ts us) h (All-filter (λ u. not (has u.id ts)) (NamesLive lines) us g))

-- ---- what it reads
pub sides_of_both_at : (n : Ids) (p : Sparse) → AreOneToOne n p → (j k : ℕ)
    → map Sides (rows_of_both (terms_in (contents_at n (contents_of p (Col j)))) (terms_in (contents_at n (contents_of p (Col k)))))
    ≡ map (part_at n) (map Sides (rows_of_both (entries_read p j) (entries_read p k)))
sides_of_both_at n p o j k =
    (λ t. map Sides (rows_of_both (entries_read_at n p j t) (entries_read_at n p k t)))
    ∙ ap (map Sides) (rows_of_both_at n.row p.matrix.rows o.row (entries_read p j) (entries_read_live p j) (entries_read p k) (entries_read_live p k))
    ∙ map_across n.row Sides (part_at n) Sides (λ i. refl) (rows_of_both (entries_read p j) (entries_read p k))

pub sides_of_both_there : (p : Sparse) (j k : ℕ) → AreThere p (map Sides (rows_of_both (entries_read p j) (entries_read p k)))
sides_of_both_there p j k = All-map (IsThere p) Sides (rows_of_both (entries_read p j) (entries_read p k))
    (rows_of_both_live p.matrix.rows (entries_read p j) (entries_read p k) (entries_read_live p j) (entries_read_live p k))

pub lines_there : (p : Sparse) (i j k : ℕ) → (row_at p i).live ≡ true → (column_at p j).live ≡ true → (column_at p k).live ≡ true → AreThere p (heads i j k)
lines_there p i j k h f g =
    All-cons (IsThere p) (Row i) (Col j ∷ Col k ∷ Bounds j ∷ Bounds k ∷ []) h
    (All-append (IsThere p) (Col j ∷ Col k ∷ []) (Bounds j ∷ Bounds k ∷ []) (all_two (IsThere p) (Col j) (Col k) f g) (all_two (IsThere p) (Bounds j) (Bounds k) f g))

-- ---- its condition
module _ (n : Ids) where
  takes_over_at : (a b : Number) (s : Contents) → takes_over a b (contents_at n s) ≡ takes_over a b s
  takes_over_at a b (holding.Sides l u) = refl
  takes_over_at a b s = refl

  -- numbers that are the same at the new ids
  abbrev SameAt : Vector → Vector → Vector → Vector → ℕ → Type 0
  SameAt c d a b i = (c (n.row i) ≡ a i) × (d (n.row i) ≡ b i)

  all_take_over_at : (c d a b : Vector) (is : List ℕ) (ss : List Contents) → All (SameAt c d a b) is → all_take_over c d (map n.row is) (map (contents_at n) ss) ≡ all_take_over a b is ss
  all_take_over_at c d a b [] ss h = refl
  all_take_over_at c d a b (i ∷ is) [] h = refl
  all_take_over_at c d a b (i ∷ is) (s ∷ ss) h =
      let e = All-head (SameAt c d a b) i is h in
      ap₂ (λ (x y : Bool). x && y) ((λ t. takes_over (e.0 t) (e.1 t) (contents_at n s)) ∙ takes_over_at (a i) (b i) s) (all_take_over_at c d a b is ss (All-tail (SameAt c d a b) i is h))

module _ (n : Ids) (p : Sparse) (o : AreOneToOne n p) (i j k : ℕ) (first : (column_at p j).live ≡ true) (second : (column_at p k).live ≡ true) where
  abbrev row : List Term
  row = row_entries p i

  abbrev ts : List Term
  ts = column_entries p j

  abbrev us : List Term
  us = column_entries p k

  share_at : share (terms_at n.column row) (n.column j) (n.column k) ≡ share row j k
  share_at =
      let a = length-map row (term_at n.column) in
      let b = has_at n.column p.matrix.columns o.column j row first (row_entries-live p i) in
      let c = has_at n.column p.matrix.columns o.column k row second (row_entries-live p i) in
      λ t. nat_le (a t) 64 && (b t && c t)

  over_at : (ss : List Contents) → all_take_over (dense (terms_at n.row ts)) (dense (terms_at n.row us)) (rows_of_both (terms_at n.row ts) (terms_at n.row us)) (map (contents_at n) ss)
      ≡ all_take_over (dense ts) (dense us) (rows_of_both ts us) ss
  over_at ss =
      let a : Vector = dense (terms_at n.row ts) in
      let b : Vector = dense (terms_at n.row us) in
      let is : List ℕ = rows_of_both ts us in
      let on = rows_of_both_live p.matrix.rows ts us (column_entries-live p j) (column_entries-live p k) in
      ap (λ (ks : List ℕ). all_take_over a b ks (map (contents_at n) ss)) (rows_of_both_at n.row p.matrix.rows o.row ts (column_entries-live p j) us (column_entries-live p k))
      ∙ all_take_over_at n a b (dense ts) (dense us) is ss (λ m d l. let q = get_or is m d in
      (dense_at n.row p.matrix.rows o.row q ts (on m d l) (column_entries-live p j), dense_at n.row p.matrix.rows o.row q us (on m d l) (column_entries-live p k)))

  -- what it reads, where the row and the columns are live or not; and the condition, where all are
  abbrev found : Bool → Bool → Bool → List Contents
  found r a b =
      let x : Contents = held a (holding.Column ts (cost_at p j)) in
      let y : Contents = held b (holding.Column us (cost_at p k)) in
      held r (holding.Entries row) ∷ x ∷ y
      ∷ held a (bounds_held (bounds_at p j).semi (bounds_at p j).lower (bounds_at p j).upper (bounds_at p j).whole)
      ∷ held b (bounds_held (bounds_at p k).semi (bounds_at p k).lower (bounds_at p k).upper (bounds_at p k).whole)
      ∷ map (contents_of p) (map Sides (rows_of_both (terms_in x) (terms_in y)))

  -- and what, where all are live and the bounds are of either kind
  abbrev kind_found : Bool → Bool → List Contents
  kind_found a b =
      holding.Entries row ∷ holding.Column ts (cost_at p j) ∷ holding.Column us (cost_at p k)
      ∷ bounds_held a (bounds_at p j).lower (bounds_at p j).upper (bounds_at p j).whole
      ∷ bounds_held b (bounds_at p k).lower (bounds_at p k).upper (bounds_at p k).whole
      ∷ map (contents_of p) (map Sides (rows_of_both ts us))

  all_kind : (semi other : Bool) → holds (n.column j) (n.column k) (map (contents_at n) (kind_found semi other)) ≡ holds j k (kind_found semi other)
  all_kind true other = refl
  all_kind false true = refl
  all_kind false false =
      let a = bounds_at p j in
      let b = bounds_at p k in
      let ss : List Contents = map (contents_of p) (map Sides (rows_of_both ts us)) in
      let same = equal_at n.column p.matrix.columns o.column j k first second in
      λ t. not (same t) && (share_at t && (is_none a.upper && (is_apart b.lower b.upper && (is_place b.lower b.whole
      && (le_ℚ (cost_at p j) (cost_at p k) && ((not a.whole || b.whole) && (are_uncrossed_at n ss t && over_at ss t)))))))

  all_live : holds (n.column j) (n.column k) (map (contents_at n) (found true true true)) ≡ holds j k (found true true true)
  all_live = all_kind (bounds_at p j).semi (bounds_at p k).semi

  pub dominated_column_alike : (row_at p i).live ≡ true → holds (n.column j) (n.column k) (map (contents_at n) (found_on (heads i j k) more p)) ≡ holds j k (found_on (heads i j k) more p)
  dominated_column_alike h =
      (λ t. holds (n.column j) (n.column k) (map (contents_at n) (found (h t) (first t) (second t))))
      ∙ all_live
      ∙ sym (λ t. holds j k (found (h t) (first t) (second t)))
