-- The instances at a row's entries: those of a problem before, or none of them is enabled and reads what it read there.
use Rattle.std.proofs.Common.{◌≡◌, ◌⊎◌, inl, inr, suc, ◌<◌, Bool, true, false, List, [], ◌∷◌, map, refl, sym, ap, ◌∙◌, arith, true≢false}
use Rattle.std.specs.Prelude.{ℕ, if◌then◌else◌}
use Rattle.std.specs.List.{Contains, filter}
use Rattle.undo_records.specs.declared.side.Side.{Side}
use Rattle.activity_laws.specs.BoundTightening.{bounds_of}
use Rattle.presolve_model.specs.Tallies.{Open}
use Rattle.place_laws.proofs.ShortLists.{each_mapped}
use Rattle.problem_model.specs.Parts.{changes_of}
use Rattle.lp_model.specs.declared.terms.Term.{Term}
use Rattle.problem_model.specs.declared.part.Contents.TheVariants as holding
use Rattle.problem_model.specs.declared.part.Part.TheVariants as part
use Rattle.problem_model.specs.declared.part.Read.{Read}
use Rattle.problem_model.specs.Problems.{column_at, column_entries, cost_at, row_at, row_entries}
use Rattle.problem_model.specs.Reading.{read_of}
use Rattle.problem_model.specs.Sparse.{Sparse}
use Rattle.rule_words.specs.Reading.{terms_in}
use Rattle.presolve_model.specs.declared.instance.Instance.{Instance}
use Rattle.presolve_model.specs.Enabled.{enabled_on}
use Rattle.place_laws.specs.Standing.{IsFresh, IsLaterAt, Moves}

-- none is enabled on p and reads what it read on f
abbrev pub NoneStands : Sparse → Sparse → List Instance → Type 0
NoneStands f p es = (e : Instance) → Contains es e → enabled_on p e ≡ true → IsFresh f p e → ⊥

abbrev pub IsAlikeFrom : Sparse → Sparse → List Instance → List Instance → Type 0
IsAlikeFrom f p es fs = (es ≡ fs) ⊎ (NoneStands f p es × NoneStands f p fs)

-- it reads row i, and is enabled where that is live
pub record ReadsRow (f p : Sparse) (i : ℕ) (e : Instance) : Type 0 where
  pub reads : IsFresh f p e → read_of p (part.Row i) ≡ read_of f (part.Row i)
  pub live : enabled_on p e ≡ true → (row_at p i).live ≡ true

-- the row has the entries that it had, or what reads it is stale, or not enabled
pub row_cases : (f p : Sparse) (i : ℕ) → IsLaterAt f p (part.Row i) → (row_entries f i ≡ row_entries p i) ⊎ ((e : Instance) → ReadsRow f p i e → enabled_on p e ≡ true → IsFresh f p e → ⊥)
row_cases f p i later = by later (row_at p i).live (row_at f i).live refl refl
  where
    by : IsLaterAt f p (part.Row i) → (a b : Bool) → (row_at p i).live ≡ a → (row_at f i).live ≡ b → (row_entries f i ≡ row_entries p i) ⊎ ((e : Instance) → ReadsRow f p i e → enabled_on p e ≡ true → IsFresh f p e → ⊥)
    by (inr l) a b x y = inr (λ e h on fresh. let n = ap (λ (r : Read). r.changes) (h.reads fresh) in omega (arith, l, n))
    by (inl same) false b x y = inr (λ e h on fresh. true≢false (sym (h.live on) ∙ x))
    by (inl same) true b x y = inl (entries b y)
      where
        holds : (if (row_at p i).live then holding.Entries (row_entries p i) else holding.Gone) ≡ (if (row_at f i).live then holding.Entries (row_entries f i) else holding.Gone)
        holds = ap (λ (r : Read). r.contents) same

        entries : (d : Bool) → (row_at f i).live ≡ d → row_entries f i ≡ row_entries p i
        entries true e = sym (ap terms_in (sym (ap (λ (t : Bool). if t then holding.Entries (row_entries p i) else holding.Gone) x) ∙ holds ∙ ap (λ (t : Bool). if t then holding.Entries (row_entries f i) else holding.Gone) e))
        entries false e = absurd (let z : holding.Entries (row_entries p i) ≡ holding.Gone = sym (ap (λ (t : Bool). if t then holding.Entries (row_entries p i) else holding.Gone) x) ∙ holds ∙ ap (λ (t : Bool). if t then holding.Entries (row_entries f i) else holding.Gone) e in cc)

pub alike_by_row : (f p : Sparse) (i : ℕ) (g : List Term → List Instance) → IsLaterAt f p (part.Row i) → ((ts : List Term) (e : Instance) → Contains (g ts) e → ReadsRow f p i e)
    → IsAlikeFrom f p (g (row_entries f i)) (g (row_entries p i))
alike_by_row f p i g later each = by (row_cases f p i later)
  where
    by : (row_entries f i ≡ row_entries p i) ⊎ ((e : Instance) → ReadsRow f p i e → enabled_on p e ≡ true → IsFresh f p e → ⊥) → IsAlikeFrom f p (g (row_entries f i)) (g (row_entries p i))
    by (inl same) = inl (ap g same)
    by (inr none) = inr (λ e c. none e (each (row_entries f i) e c), λ e c. none e (each (row_entries p i) e c))

-- ---- the same of a column
-- it reads column j, and is enabled where that is live
pub record ReadsColumn (f p : Sparse) (j : ℕ) (e : Instance) : Type 0 where
  pub reads : IsFresh f p e → read_of p (part.Col j) ≡ read_of f (part.Col j)
  pub live : enabled_on p e ≡ true → (column_at p j).live ≡ true

pub column_cases : (f p : Sparse) (j : ℕ) → IsLaterAt f p (part.Col j) → (column_entries f j ≡ column_entries p j) ⊎ ((e : Instance) → ReadsColumn f p j e → enabled_on p e ≡ true → IsFresh f p e → ⊥)
column_cases f p j later = by later (column_at p j).live (column_at f j).live refl refl
  where
    by : IsLaterAt f p (part.Col j) → (a b : Bool) → (column_at p j).live ≡ a → (column_at f j).live ≡ b → (column_entries f j ≡ column_entries p j) ⊎ ((e : Instance) → ReadsColumn f p j e → enabled_on p e ≡ true → IsFresh f p e → ⊥)
    by (inr l) a b x y = inr (λ e h on fresh. let n = ap (λ (r : Read). r.changes) (h.reads fresh) in omega (arith, l, n))
    by (inl same) false b x y = inr (λ e h on fresh. true≢false (sym (h.live on) ∙ x))
    by (inl same) true b x y = inl (entries b y)
      where
        holds : (if (column_at p j).live then holding.Column (column_entries p j) (cost_at p j) else holding.Gone) ≡ (if (column_at f j).live then holding.Column (column_entries f j) (cost_at f j) else holding.Gone)
        holds = ap (λ (r : Read). r.contents) same

        entries : (d : Bool) → (column_at f j).live ≡ d → column_entries f j ≡ column_entries p j
        entries true e = sym (ap terms_in (sym (ap (λ (t : Bool). if t then holding.Column (column_entries p j) (cost_at p j) else holding.Gone) x) ∙ holds ∙ ap (λ (t : Bool). if t then holding.Column (column_entries f j) (cost_at f j) else holding.Gone) e))
        entries false e = absurd (let z : holding.Column (column_entries p j) (cost_at p j) ≡ holding.Gone = sym (ap (λ (t : Bool). if t then holding.Column (column_entries p j) (cost_at p j) else holding.Gone) x) ∙ holds ∙ ap (λ (t : Bool). if t then holding.Column (column_entries f j) (cost_at f j) else holding.Gone) e in cc)

pub alike_by_column : (f p : Sparse) (j : ℕ) (g : List Term → List Instance) → IsLaterAt f p (part.Col j) → ((ts : List Term) (e : Instance) → Contains (g ts) e → ReadsColumn f p j e)
    → IsAlikeFrom f p (g (column_entries f j)) (g (column_entries p j))
alike_by_column f p j g later each = by (column_cases f p j later)
  where
    by : (column_entries f j ≡ column_entries p j) ⊎ ((e : Instance) → ReadsColumn f p j e → enabled_on p e ≡ true → IsFresh f p e → ⊥) → IsAlikeFrom f p (g (column_entries f j)) (g (column_entries p j))
    by (inl same) = inl (ap g same)
    by (inr none) = inr (λ e c. none e (each (column_entries f j) e c), λ e c. none e (each (column_entries p j) e c))

-- ---- those that are open
module _ (f p : Sparse) (opens now : Open) (moves : Moves f p opens now) where
  -- of some sides the same are open, or the bounds of one have changed
  kept_cases : (xs : List (ℕ × Side)) → (filter (λ x. opens x.0 x.1) xs ≡ filter (λ x. now x.0 x.1) xs) ⊎ ((x : ℕ × Side) × Contains xs x × (changes_of f (part.Bounds x.0) < changes_of p (part.Bounds x.0)))
  kept_cases [] = inl refl
  kept_cases (x ∷ xs) = by (moves x.0 x.1) (kept_cases xs)
    where
      by : (now x.0 x.1 ≡ opens x.0 x.1) ⊎ (changes_of f (part.Bounds x.0) < changes_of p (part.Bounds x.0))
          → (filter (λ y. opens y.0 y.1) xs ≡ filter (λ y. now y.0 y.1) xs) ⊎ ((y : ℕ × Side) × Contains xs y × (changes_of f (part.Bounds y.0) < changes_of p (part.Bounds y.0)))
          → (filter (λ y. opens y.0 y.1) (x ∷ xs) ≡ filter (λ y. now y.0 y.1) (x ∷ xs)) ⊎ ((y : ℕ × Side) × Contains (x ∷ xs) y × (changes_of f (part.Bounds y.0) < changes_of p (part.Bounds y.0)))
      by (inr l) k = inr (x, (0, omega arith, refl), l)
      by (inl e) (inr (y, (k, l, h), m)) = inr (y, (suc k, omega (arith, l), h), m)
      by (inl e) (inl g) = inl (λ t. if sym e t then x ∷ g t else g t)

  -- they stand for instances at row i that read the bounds of its columns
  pub alike_by_bounds : (i : ℕ) (g : ℕ × Side → Instance) → IsLaterAt f p (part.Row i) → ((x : ℕ × Side) → ReadsRow f p i (g x))
      → ((x : ℕ × Side) (y : ℕ × Side) → Contains (bounds_of (row_entries p i)) y → enabled_on p (g x) ≡ true → IsFresh f p (g x) → read_of p (part.Bounds y.0) ≡ read_of f (part.Bounds y.0))
      → IsAlikeFrom f p (map g (filter (λ x. opens x.0 x.1) (bounds_of (row_entries f i)))) (map g (filter (λ x. now x.0 x.1) (bounds_of (row_entries p i))))
  alike_by_bounds i g later reads bounds = by (row_cases f p i later) (kept_cases (bounds_of (row_entries p i)))
    where
      both : ((x : ℕ × Side) → enabled_on p (g x) ≡ true → IsFresh f p (g x) → ⊥) → (xs ys : List (ℕ × Side)) → IsAlikeFrom f p (map g xs) (map g ys)
      both none xs ys = inr (
        λ e c. each_mapped (λ (y : Instance). enabled_on p y ≡ true → IsFresh f p y → ⊥) g xs e (λ x d. none x) c,
        λ e c. each_mapped (λ (y : Instance). enabled_on p y ≡ true → IsFresh f p y → ⊥) g ys e (λ x d. none x) c,
      )

      by : (row_entries f i ≡ row_entries p i) ⊎ ((e : Instance) → ReadsRow f p i e → enabled_on p e ≡ true → IsFresh f p e → ⊥)
          → (filter (λ x. opens x.0 x.1) (bounds_of (row_entries p i)) ≡ filter (λ x. now x.0 x.1) (bounds_of (row_entries p i))) ⊎ ((x : ℕ × Side) × Contains (bounds_of (row_entries p i)) x × (changes_of f (part.Bounds x.0) < changes_of p (part.Bounds x.0)))
          → IsAlikeFrom f p (map g (filter (λ x. opens x.0 x.1) (bounds_of (row_entries f i)))) (map g (filter (λ x. now x.0 x.1) (bounds_of (row_entries p i))))
      by (inr none) k = both (λ x. none (g x) (reads x)) (filter (λ x. opens x.0 x.1) (bounds_of (row_entries f i))) (filter (λ x. now x.0 x.1) (bounds_of (row_entries p i)))
      by (inl same) (inl kept) = inl (ap (λ ts. map g (filter (λ x. opens x.0 x.1) (bounds_of ts))) same ∙ ap (map g) kept)
      by (inl same) (inr (y, c, l)) = both (λ x on fresh. let n = ap (λ (r : Read). r.changes) (bounds x y c on fresh) in omega (arith, l, n)) (filter (λ x. opens x.0 x.1) (bounds_of (row_entries f i))) (filter (λ x. now x.0 x.1) (bounds_of (row_entries p i)))
