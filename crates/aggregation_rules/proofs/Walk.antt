-- A walk along terms by ascending id.
use Rattle.std.proofs.Common.{◌≡◌, ◌≢◌, ℕ, true, zero, suc, ◌+◌, ◌<◌, ◌≤◌, List, [], ◌∷◌, ◌++◌, length, get_or, take, drop, ◌-◌, sym, ap, ◌∙◌, subst, arith}
use Rattle.std.specs.List.{All}
use Rattle.std.proofs.Math.Seq.{take-length}
use Rattle.fractions.specs.Number.{Number, zero_ℚ, ◌-ℚ◌, ◌*ℚ◌}
use Rattle.lp_model.specs.declared.terms.Term.{Term}
use Rattle.lp_model.specs.Sparse.{Ascends, dense}
use Rattle.undo_records.specs.Fitting.{LessProductFits}
use Rattle.problem_model.specs.declared.edit.Edit.{Edit}
use Rattle.problem_model.specs.declared.edit.Edit.TheVariants.{SetEntry}
use Rattle.problem_model.specs.Problems.{row_at, column_at, column_entries}
use Rattle.problem_model.specs.Sparse.{Sparse}
use Rattle.problem_laws.proofs.Entries.{column_entries-dense}
use Rattle.problem_laws.proofs.Terms.{ascends-wider, dense-absent, dense-cons_other, dense-cons_same, has-below}
use Rattle.aggregation_laws.specs.DoubletonEquation.{entry_less}
use Rattle.aggregation_rules.specs.Parts.{EntryFits}

-- a term below an id is left behind
pub step_same : (id : ℕ) (t : Term) (ts us : List Term) → t.id < id → ((m : ℕ) → id ≤ m → dense (t ∷ ts) m ≡ dense us m) → (m : ℕ) → id ≤ m → dense ts m ≡ dense us m
step_same id t ts us l h m g = let n : t.id ≢ m = omega (arith, l, g) in sym (dense-cons_other t ts m n) ∙ h m g

pub step_ascends : (t : Term) (ts us : List Term) → ((n : ℕ) → Ascends 0 n us → Ascends 0 n (t ∷ ts)) → (n : ℕ) → Ascends 0 n us → Ascends 0 n ts
step_ascends t ts us h n a = ascends-wider ts (suc t.id) 0 n (omega arith) (h n a).3

pub from_here : (id : ℕ) (t : Term) (ts us : List Term) → id ≤ t.id → ((n : ℕ) → Ascends 0 n us → Ascends 0 n (t ∷ ts)) → (n : ℕ) → Ascends 0 n us → Ascends id n (t ∷ ts)
from_here id t ts us l h n a = let b = h n a in (l, b.1, b.2, b.3)

-- another id than the first has no number
pub none_before : (id : ℕ) (t : Term) (ts : List Term) (n : ℕ) → t.id ≢ id → Ascends id n (t ∷ ts) → zero_ℚ ≡ dense (t ∷ ts) id
none_before id t ts n d a = sym (dense-cons_other t ts id d ∙ dense-absent id ts (has-below ts (suc t.id) n id a.3 (omega (arith, d, a.0))))

-- later terms have greater ids
ids_from : (m n : ℕ) (ts : List Term) (d : ℕ) (x : Term) → Ascends m n ts → d < length ts → m ≤ (get_or ts d x).id
ids_from m n [] d x a l = absurd (omega (arith, l))
ids_from m n (t ∷ ts) zero x a l = a.0
ids_from m n (t ∷ ts) (suc d) x a l = let h = ids_from (suc t.id) n ts d x a.3 (omega (arith, l)) in omega (arith, h, a.0)

pub ids_rise : (m n : ℕ) (ts : List Term) (i d : ℕ) (y x : Term) → Ascends m n ts → i ≤ d → d < length ts → (get_or ts i y).id ≤ (get_or ts d x).id
ids_rise m n [] i d y x a g l = absurd (omega (arith, l))
ids_rise m n (t ∷ ts) zero zero y x a g l = omega arith
ids_rise m n (t ∷ ts) zero (suc d) y x a g l = let h = ids_from (suc t.id) n ts d x a.3 (omega (arith, l)) in omega (arith, h)
ids_rise m n (t ∷ ts) (suc i) zero y x a g l = absurd (omega (arith, g))
ids_rise m n (t ∷ ts) (suc i) (suc d) y x a g l = ids_rise (suc t.id) n ts i d y x a.3 (omega (arith, g)) (omega (arith, l))

-- the first term, and those after it
pub after_is : (t : Term) (rs : List Term) → 1 ≤ length rs → t ≡ get_or rs 0 t → rs ≡ t ∷ take (length rs - 1) (drop 1 rs)
after_is t [] l e = absurd (omega (arith, l))
after_is t (u ∷ rs) l e = let n : length rs ≡ length (u ∷ rs) - 1 = omega arith in ap (λ v. v ∷ rs) (sym e) ∙ ap (λ vs. t ∷ vs) (sym (take-length rs)) ∙ ap (λ m. t ∷ take m rs) n

pub first_says : (id : ℕ) (t : Term) (rs : List Term) → 1 ≤ length rs → t ≡ get_or rs 0 t → t.id ≡ id → t.value ≡ dense rs id
first_says id t [] l e h = absurd (omega (arith, l))
first_says id t (u ∷ rs) l e h = sym (dense-cons_same t rs id h) ∙ ap (λ v. dense (v ∷ rs) id) e

pub first_not : (id : ℕ) (t : Term) (rs : List Term) (n : ℕ) → 1 ≤ length rs → t ≡ get_or rs 0 t → t.id ≢ id → Ascends id n rs → zero_ℚ ≡ dense rs id
first_not id t [] n l e h a = absurd (omega (arith, l))
first_not id t (u ∷ rs) n l e h a = none_before id u rs n (λ f. h (ap (λ (v : Term). v.id) e ∙ f)) a

-- ---- the walk along the kept column, one step for each term
module _ (p : Sparse) (k : ℕ) where
  -- what is left says the entries that are to come
  abbrev Says : List Term → List Term → ℕ → Type 0
  Says rest ts i = (d : ℕ) (x : Term) → i ≤ d → d < length ts → dense rest (get_or ts d x).id ≡ dense (column_entries p k) (get_or ts d x).id

  pub walk_starts : (rest ts : List Term) → rest ≡ (column_at p k).entries → All (λ t. (row_at p t.id).live ≡ true) ts → Says rest ts 0
  walk_starts rest ts e h d x g l = ap (λ (us : List Term). dense us (get_or ts d x).id) e ∙ sym (column_entries-dense p k (get_or ts d x).id (h d x l))

  module _ (rest after ts : List Term) (i : ℕ) (t : Term) (l : i < length ts) (e : t ≡ get_or ts i t) where
    pub before_is : (a : Number) → Ascends 0 (length p.matrix.rows) rest → Says rest ts i → ((m : ℕ) → t.id ≤ m → dense after m ≡ dense rest m) → ((n : ℕ) → Ascends 0 n rest → Ascends t.id n after)
        → ((n : ℕ) → Ascends t.id n after → a ≡ dense after t.id) → a ≡ dense (column_entries p k) t.id
    before_is a b s same rises h = h (length p.matrix.rows) (rises (length p.matrix.rows) b) ∙ same t.id (omega arith)
        ∙ ap (λ (u : Term). dense rest u.id) e ∙ s i t (omega arith) l ∙ ap (λ (u : Term). dense (column_entries p k) u.id) (sym e)

    pub walk_on : Ascends 0 (length p.matrix.rows) ts → Ascends 0 (length p.matrix.rows) rest → Says rest ts i → ((m : ℕ) → t.id ≤ m → dense after m ≡ dense rest m) → ((n : ℕ) → Ascends 0 n rest → Ascends t.id n after)
        → Ascends 0 (length p.matrix.rows) after × Says after ts (i + 1)
    walk_on c b s same rises = (
      ascends-wider after t.id 0 (length p.matrix.rows) (omega arith) (rises (length p.matrix.rows) b),
      λ d x g m. same (get_or ts d x).id (subst (λ (u : Term). u.id ≤ (get_or ts d x).id) (sym e) (ids_later d x g m)) ∙ s d x (omega (arith, g)) m,
    )
      where
        ids_later : (d : ℕ) (x : Term) → (i + 1) ≤ d → d < length ts → (get_or ts i t).id ≤ (get_or ts d x).id
        ids_later d x g m = ids_rise 0 (length p.matrix.rows) ts i d t x c (omega (arith, g)) m

  module _ (q : Number) (t : Term) (a : Number) where
    pub entry_made : (old new : List Edit) → a ≡ dense (column_entries p k) t.id → new ≡ old ++ SetEntry t.id k (a -ℚ t.value *ℚ q) ∷ [] → new ≡ old ++ entry_less p k q t ∷ []
    entry_made old new e n = n ∙ ap (λ (b : Number). old ++ SetEntry t.id k (b -ℚ t.value *ℚ q) ∷ []) e

    pub entry_fits : a ≡ dense (column_entries p k) t.id → LessProductFits a t.value q → EntryFits p k q t
    entry_fits e h = subst (λ (b : Number). LessProductFits b t.value q) e h

    pub entry_unfit : a ≡ dense (column_entries p k) t.id → EntryFits p k q t → LessProductFits a t.value q
    entry_unfit e h = subst (λ (b : Number). LessProductFits b t.value q) (sym e) h
