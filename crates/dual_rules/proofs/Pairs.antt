-- Pairs of columns.
use Rattle.std.proofs.Common.{◌≡◌, ℕ, zero, suc, ◌+◌, ◌-◌, ◌<◌, ◌≤◌, Bool, true, false, not, ◌&&◌, ◌||◌, cond, nat_eq, nat_le, List, [], ◌∷◌, ◌++◌, length, map, take, drop, get_or, append-nil, append_assoc, Option, is_none, refl, sym, ap, ap₂, ◌∙◌, subst, arith}
use Rattle.std.specs.Prelude.{if◌then◌else◌}
use Rattle.std.specs.List.{All, filter, flat_map}
use Rattle.std.proofs.lemmas.Bool.{and_parts}
use Rattle.std.proofs.lemmas.List.Elements.{All-append, All-nil, All-cons, All-head, All-tail, filter-append}
use Rattle.std.proofs.lemmas.List.{map-append}
use Rattle.std.proofs.Math.Seq.{take-length}
use Rattle.fractions.specs.Number.{Number}
use Rattle.fractions.specs.Compare.{le_ℚ}
use Rattle.lp_model.specs.declared.terms.Term.{Term}
use Rattle.lp_model.specs.EndTests.{is_apart, is_in_order, is_place}
use Rattle.lp_model.specs.Sparse.{dense, has}
use Rattle.problem_model.specs.declared.line.Bounds.{Bounds}
use Rattle.problem_model.specs.declared.line.Sides.{Sides}
use Rattle.problem_model.specs.declared.part.Contents.{Contents}
use Rattle.problem_model.specs.declared.part.Contents.TheVariants as holding
use Rattle.problem_model.specs.declared.part.Part.{Part}
use Rattle.problem_model.specs.declared.part.Part.TheVariants as part
use Rattle.problem_model.specs.Matrices.{live_only}
use Rattle.problem_model.specs.Parts.{bounds_held, contents_of}
use Rattle.problem_model.specs.Problems.{bounds_at, column_at, column_entries, cost_at, row_at, row_entries, sides_at, IsSparse}
use Rattle.problem_model.specs.Sparse.{Sparse}
use Rattle.rule_words.specs.Reading.{terms_in}
use Rattle.dual_laws.specs.DominatedColumn.{all_take_over, enabled, is_dominated_column, pairs_of, rows_of_both, share, takes_over}
use Rattle.dual_laws.specs.Locks.{are_uncrossed}
use Rattle.problem_laws.proofs.Entries.{live_entries_name, live_entries_tell, row_entries-live, row_entries-tell}
use Rattle.problem_laws.proofs.Terms.{has-cons_same, not_both}
use Rattle.dual_rules.specs.Merging.{admits, all_admit}
use Rattle.dual_rules.specs.declared.dominated_column.Standing.{Standing}
use Rattle.dual_rules.specs.Pairs.{IsStanding, Tells, are_live, dominates, entries_of, is_endless, is_short, may_stay, pair_if, pairs_among, pairs_beside}
use Rattle.dual_rules.proofs.Merging.{admits_at}
use Rattle.dual_rules.proofs.Remaining.{left, one_more}

-- the tests in another order
pub and_none : (b : Bool) → (b && false) ≡ false
and_none true = refl
and_none false = refl

regroup : (n s u a l c w m : Bool) → (n && (s && (u && (a && (l && (c && (w && m))))))) ≡ (s && ((n && (u && (a && (l && (c && w))))) && m))
regroup false s u a l c w m = sym (and_none s)
regroup true false u a l c w m = refl
regroup true true false a l c w m = refl
regroup true true true false l c w m = refl
regroup true true true true false c w m = refl
regroup true true true true true false w m = refl
regroup true true true true true true w m = refl

-- a semi-continuous column neither stands in for another one nor is dominated
first_refused : (n s m : Bool) → false ≡ (s && ((n && false) && m))
first_refused n false m = refl
first_refused false true m = refl
first_refused true true m = refl

second_refused : (n s u m : Bool) → false ≡ (s && ((n && (u && false)) && m))
second_refused n false u m = refl
second_refused false true u m = refl
second_refused true true false m = refl
second_refused true true true m = refl

by_parts : (f : Part → Contents) (j k : ℕ) (row ts us : List Term) (c d : Number) (l u m n : Option Number) (w x : Bool) (r a b y z : Bool)
    → is_dominated_column (if r then holding.Entries row else holding.Gone) (if a then holding.Column ts c else holding.Gone) (if b then holding.Column us d else holding.Gone) (if a then bounds_held y l u w else holding.Gone) (if b then bounds_held z m n x else holding.Gone)
    (map f (map part.Sides (rows_of_both (terms_in (if a then holding.Column ts c else holding.Gone)) (terms_in (if b then holding.Column us d else holding.Gone))))) j k
    ≡ ((r && (a && b)) && (share row j k && ((not (nat_eq j k) && (not y && (is_none u && (not z && (is_apart m n && (is_place m x && (le_ℚ c d && (not w || x)))))))) && (are_uncrossed (map f (map part.Sides (rows_of_both ts us)))
    && all_take_over (dense ts) (dense us) (rows_of_both ts us) (map f (map part.Sides (rows_of_both ts us)))))))
by_parts f j k row ts us c d l u m n w x true true true false false =
    regroup (not (nat_eq j k)) (share row j k) (is_none u) (is_apart m n) (is_place m x) (le_ℚ c d) (not w || x)
    (are_uncrossed (map f (map part.Sides (rows_of_both ts us))) && all_take_over (dense ts) (dense us) (rows_of_both ts us) (map f (map part.Sides (rows_of_both ts us))))
by_parts f j k row ts us c d l u m n w x true true true true z =
    first_refused (not (nat_eq j k)) (share row j k) (are_uncrossed (map f (map part.Sides (rows_of_both ts us))) && all_take_over (dense ts) (dense us) (rows_of_both ts us) (map f (map part.Sides (rows_of_both ts us))))
by_parts f j k row ts us c d l u m n w x true true true false true =
    second_refused (not (nat_eq j k)) (share row j k) (is_none u) (are_uncrossed (map f (map part.Sides (rows_of_both ts us))) && all_take_over (dense ts) (dense us) (rows_of_both ts us) (map f (map part.Sides (rows_of_both ts us))))
by_parts f j k row ts us c d l u m n w x true true false y z = refl
by_parts f j k row ts us c d l u m n w x true false b y z = refl
by_parts f j k row ts us c d l u m n w x false a b y z = refl

pub enabled_is : (p : Sparse) (i j k : ℕ) → enabled p i j k ≡ (are_live p i j k && (share (row_entries p i) j k && dominates p j k))
enabled_is p i j k = by_parts (contents_of p) j k (row_entries p i) (column_entries p j) (column_entries p k) (cost_at p j) (cost_at p k) (bounds_at p j).lower (bounds_at p j).upper (bounds_at p k).lower (bounds_at p k).upper
    (bounds_at p j).whole (bounds_at p k).whole (row_at p i).live (column_at p j).live (column_at p k).live (bounds_at p j).semi (bounds_at p k).semi

-- ---- lists of pairs
abbrev Pair : Type 0
Pair = ℕ × ℕ

none_kept : (P : Pair → Bool) (xs : List Pair) → ((x : Pair) → P x ≡ false) → filter P xs ≡ []
none_kept P [] h = refl
none_kept P (x ∷ xs) h = ap (λ (b : Bool). cond b (x ∷ filter P xs) (filter P xs)) (h x) ∙ none_kept P xs h

-- a column may stand in for others: it has no upper bound, and isn't semi-continuous
abbrev may_stand_in : Sparse → ℕ → Bool
may_stand_in p j = not (bounds_at p j).semi && is_none (bounds_at p j).upper

-- any other one dominates none
dominates_none : (p : Sparse) (j k : ℕ) → may_stand_in p j ≡ false → dominates p j k ≡ false
dominates_none p j k e = by (not (nat_eq j k)) (not (bounds_at p j).semi) (is_none (bounds_at p j).upper) e
  where
    by : (n s u : Bool) → (s && u) ≡ false → ((n && (s && (u && may_stay p (cost_at p j) (bounds_at p j).whole k))) && all_admit p (column_entries p j) (column_entries p k)) ≡ false
    by false s u f = refl
    by true false u f = refl
    by true true false f = refl
    by true true true f = absurd (not_both refl f)

pub none_beside : (p : Sparse) (j : ℕ) (ts : List Term) → may_stand_in p j ≡ false → pairs_beside p j ts ≡ []
none_beside p j [] e = refl
none_beside p j (t ∷ ts) e = ap (λ (b : Bool). cond b ((j, t.id) ∷ pairs_beside p j ts) (pairs_beside p j ts)) (dominates_none p j t.id e) ∙ none_beside p j ts e

pub at_once : (p : Sparse) (j : ℕ) (ts : List Term) (x : List Pair) (q : Bool) → q ≡ may_stand_in p j → q ≡ false → x ≡ x ++ pairs_beside p j ts
at_once p j ts x q e g = sym (ap (λ (l : List Pair). x ++ l) (none_beside p j ts (sym e ∙ g)) ∙ append-nil x)

beside_step : (p : Sparse) (j : ℕ) (t : Term) (ts : List Term) → pairs_beside p j (t ∷ ts) ≡ pair_if (dominates p j t.id) j t.id ++ pairs_beside p j ts
beside_step p j t ts = by (dominates p j t.id)
  where
    by : (b : Bool) → cond b ((j, t.id) ∷ pairs_beside p j ts) (pairs_beside p j ts) ≡ pair_if b j t.id ++ pairs_beside p j ts
    by true = refl
    by false = refl

-- one more
pub beside_more : (p : Sparse) (j : ℕ) (ss : List Standing) (i : ℕ) (s : Standing) (x y z : List Pair) → i < length ss → s ≡ get_or ss i s → x ++ pairs_beside p j (entries_of (drop i ss)) ≡ z
    → y ≡ x ++ pair_if (dominates p j s.entry.id) j s.entry.id → y ++ pairs_beside p j (entries_of (drop (i + 1) ss)) ≡ z
beside_more p j ss i s x y z l e h g =
    one_more x y (pairs_beside p j (entries_of (drop i ss))) (pair_if (dominates p j s.entry.id) j s.entry.id) (pairs_beside p j (entries_of (drop (i + 1) ss))) z h
    (ap (λ (rest : List Standing). pairs_beside p j (entries_of rest)) (left ss i s l e) ∙ beside_step p j s.entry (entries_of (drop (i + 1) ss))) g

pub among_more : (p : Sparse) (us : List Term) (ss : List Standing) (i : ℕ) (s : Standing) (x y z : List Pair) → i < length ss → s ≡ get_or ss i s → x ++ pairs_among p (entries_of (drop i ss)) us ≡ z
    → y ≡ x ++ pairs_beside p s.entry.id us → y ++ pairs_among p (entries_of (drop (i + 1) ss)) us ≡ z
among_more p us ss i s x y z l e h g =
    one_more x y (pairs_among p (entries_of (drop i ss)) us) (pairs_beside p s.entry.id us) (pairs_among p (entries_of (drop (i + 1) ss)) us) z h
    (ap (λ (rest : List Standing). pairs_among p (entries_of rest) us) (left ss i s l e)
    ∙ filter-append (λ (q : Pair). dominates p q.0 q.1) (map (λ (u : Term). (s.entry.id, u.id)) us) (flat_map (λ (v : Term). map (λ (u : Term). (v.id, u.id)) us) (entries_of (drop (i + 1) ss)))) g

-- ---- columns of a row
-- the next live column, of the terms that are left
pub standing_next : (p : Sparse) (ss new : List Standing) (t : Term) (rs all : List Term) (s : Standing) → 1 ≤ length rs → t ≡ get_or rs 0 t → (column_at p t.id).live ≡ true → new ≡ ss ++ s ∷ [] → IsStanding p s → s.entry ≡ t
    → All (IsStanding p) ss → entries_of ss ++ live_only p.matrix.columns rs ≡ all
    → All (IsStanding p) new × (entries_of new ++ live_only p.matrix.columns (take (length rs - 1) (drop 1 rs)) ≡ all)
standing_next p ss new t [] all s l e live is own same h g = absurd (omega (arith, l))
standing_next p ss new t (v ∷ rs) all s l e live is own same h g =
    let n : length rs ≡ length (v ∷ rs) - 1 = omega arith in
    let r : take (length (v ∷ rs) - 1) rs ≡ rs = ap (λ m. take m rs) (sym n) ∙ take-length rs in
    let first : t ∷ live_only p.matrix.columns rs ≡ live_only p.matrix.columns (t ∷ rs) = ap (λ (b : Bool). cond b (t ∷ live_only p.matrix.columns rs) (live_only p.matrix.columns rs)) (sym live) in (
      subst (All (IsStanding p)) (sym is) (All-append (IsStanding p) ss (s ∷ []) h (All-cons (IsStanding p) s [] own (All-nil (IsStanding p)))),
      ap (λ (xs : List Term). entries_of new ++ live_only p.matrix.columns xs) r
          ∙ ap (λ (us : List Term). us ++ live_only p.matrix.columns rs) (ap entries_of is ∙ map-append (λ (x : Standing). x.entry) ss (s ∷ []))
          ∙ append_assoc (entries_of ss) (s.entry ∷ []) (live_only p.matrix.columns rs)
          ∙ ap (λ (w : Term). entries_of ss ++ w ∷ live_only p.matrix.columns rs) same
          ∙ ap (λ (us : List Term). entries_of ss ++ us) first
          ∙ ap (λ (w : Term). entries_of ss ++ live_only p.matrix.columns (w ∷ rs)) e
          ∙ g,
    )

-- one that isn't live is passed over
pub standing_past : (p : Sparse) (ss : List Standing) (t : Term) (rs all : List Term) → 1 ≤ length rs → t ≡ get_or rs 0 t → (column_at p t.id).live ≡ false
    → entries_of ss ++ live_only p.matrix.columns rs ≡ all → entries_of ss ++ live_only p.matrix.columns (take (length rs - 1) (drop 1 rs)) ≡ all
standing_past p ss t [] all l e gone g = absurd (omega (arith, l))
standing_past p ss t (v ∷ rs) all l e gone g =
    let n : length rs ≡ length (v ∷ rs) - 1 = omega arith in
    let r : take (length (v ∷ rs) - 1) rs ≡ rs = ap (λ m. take m rs) (sym n) ∙ take-length rs in
    let first : live_only p.matrix.columns rs ≡ live_only p.matrix.columns (t ∷ rs) = ap (λ (b : Bool). cond b (t ∷ live_only p.matrix.columns rs) (live_only p.matrix.columns rs)) (sym gone) in
    ap (λ (xs : List Term). entries_of ss ++ live_only p.matrix.columns xs) r
    ∙ ap (λ (us : List Term). entries_of ss ++ us) first
    ∙ ap (λ (w : Term). entries_of ss ++ live_only p.matrix.columns (w ∷ rs)) e
    ∙ g

-- what holds of the entries holds of the columns
pub of_entries : (P : Term → Type 0) (ss : List Standing) → All P (entries_of ss) → All (λ s. P s.entry) ss
of_entries P [] h = All-nil (λ (s : Standing). P s.entry)
of_entries P (s ∷ ss) h = All-cons (λ (t : Standing). P t.entry) s ss (All-head P s.entry (entries_of ss) h) (of_entries P ss (All-tail P s.entry (entries_of ss) h))

-- ---- the pairs of a row
not_short : (p : Sparse) (i j k : ℕ) → is_short p i ≡ false → enabled p i j k ≡ false
not_short p i j k e = enabled_is p i j k ∙ by (row_at p i).live (nat_le (length (row_entries p i)) 64) e
  where
    by : (r s : Bool) → (r && s) ≡ false → ((r && ((column_at p j).live && (column_at p k).live)) && ((s && (has j (row_entries p i) && has k (row_entries p i))) && dominates p j k)) ≡ false
    by false s f = refl
    by true true f = absurd (not_both refl f)
    by true false f = and_none ((column_at p j).live && (column_at p k).live)

pub none_at : (p : Sparse) (i : ℕ) → is_short p i ≡ false → [] ≡ filter (λ x. enabled p i x.0 x.1) (pairs_of (row_entries p i))
none_at p i e = sym (none_kept (λ x. enabled p i x.0 x.1) (pairs_of (row_entries p i)) (λ x. not_short p i x.0 x.1 e))

more : (k : ℕ) (t : Term) (ts : List Term) → has k ts ≡ true → has k (t ∷ ts) ≡ true
more k t ts e = by (nat_eq t.id k)
  where
    by : (b : Bool) → (b || has k ts) ≡ true
    by true = refl
    by false = e

-- in a live row that is short, two of its columns are an enabled pair where the first dominates the second
module _ (p : Sparse) (i : ℕ) (short : is_short p i ≡ true) where
  abbrev ts : List Term
  ts = row_entries p i

  pair_is : (j k : ℕ) → (column_at p j).live ≡ true → (column_at p k).live ≡ true → has j ts ≡ true → has k ts ≡ true → enabled p i j k ≡ dominates p j k
  pair_is j k a b c d = let e = and_parts (row_at p i).live (nat_le (length ts) 64) short in
      enabled_is p i j k ∙ ap₂ (λ (x y : Bool). x && (y && dominates p j k))
      (ap₂ (λ (x y : Bool). x && y) e.0 (ap₂ (λ (x y : Bool). x && y) a b))
      (ap₂ (λ (x y : Bool). x && y) e.1 (ap₂ (λ (x y : Bool). x && y) c d))

  -- terms of the row
  InRow : Term → Type 0
  InRow t = ((column_at p t.id).live ≡ true) × (has t.id ts ≡ true)

  beside_is : (t : Term) (us : List Term) → InRow t → All InRow us → filter (λ x. enabled p i x.0 x.1) (map (λ (u : Term). (t.id, u.id)) us) ≡ pairs_beside p t.id us
  unfolding InRow
  beside_is t [] a h = refl
  beside_is t (u ∷ us) a h = let b = All-head InRow u us h in
      ap₂ (λ (q : Bool) (l : List Pair). cond q ((t.id, u.id) ∷ l) l) (pair_is t.id u.id a.0 b.0 a.1 b.1) (beside_is t us a (All-tail InRow u us h))

  among_is : (vs us : List Term) → All InRow vs → All InRow us → filter (λ x. enabled p i x.0 x.1) (flat_map (λ (v : Term). map (λ (u : Term). (v.id, u.id)) us) vs) ≡ pairs_among p vs us
  among_is [] us a b = refl
  among_is (v ∷ vs) us a b =
      filter-append (λ (q : Pair). enabled p i q.0 q.1) (map (λ (u : Term). (v.id, u.id)) us) (flat_map (λ (w : Term). map (λ (u : Term). (w.id, u.id)) us) vs)
      ∙ ap₂ (λ (l m : List Pair). l ++ m) (beside_is v us (All-head InRow v vs a) b) (among_is vs us (All-tail InRow v vs a) b)
      ∙ sym (filter-append (λ (q : Pair). dominates p q.0 q.1) (map (λ (u : Term). (v.id, u.id)) us) (flat_map (λ (w : Term). map (λ (u : Term). (w.id, u.id)) us) vs))

  all_in_row : All InRow ts
  unfolding InRow
  all_in_row = λ n d l. (row_entries-live p i n d l, named ts n d l)
    where
      named : (us : List Term) (n : ℕ) (d : Term) → n < length us → has (get_or us n d).id us ≡ true
      named [] n d l = absurd (omega (arith, l))
      named (u ∷ us) zero d l = has-cons_same u.id u us refl
      named (u ∷ us) (suc n) d l = more (get_or us n d).id u us (named us n d (omega (arith, l)))

  -- what the row asks of two of its entries is asked of their columns
  at_row : IsSparse p → (s : Sides) → s ≡ sides_at p i → (t u : Term) → InRow t → InRow u → dense ts t.id ≡ t.value → dense ts u.id ≡ u.value → Tells p s t u
  unfolding InRow
  at_row q s e t u a b x y = λ h.
      let l = (and_parts (row_at p i).live (nat_le (length ts) 64) short).0 in
      let g = admits_at p (column_entries p t.id) (column_entries p u.id) i h (sym (live_entries_name p i t.id q l a.0) ∙ a.1) in
      let v = sym (live_entries_tell p i t.id q l a.0) ∙ x in
      let w = sym (live_entries_tell p i u.id q l b.0) ∙ y in
      let f = ap (λ (z : Bool). if z then holding.Sides (sides_at p i).lower (sides_at p i).upper else holding.Gone) l ∙ ap (λ (z : Sides). holding.Sides z.lower z.upper) (sym e) in
      let k = ap₂ (λ (m n : Number). admits m n (contents_of p (part.Sides i))) (sym v) (sym w) ∙ g in
      (and_parts (is_in_order s.lower s.upper) (takes_over t.value u.value (holding.Sides s.lower s.upper)) (ap (admits t.value u.value) (sym f) ∙ k)).1

  pub all_tell : IsSparse p → (s : Sides) → s ≡ sides_at p i → All (λ t. All (λ u. Tells p s t u) ts) ts
  all_tell q s e = λ n d l m o k. at_row q s e (get_or ts n d) (get_or ts m o) (all_in_row n d l) (all_in_row m o k) (row_entries-tell p i q n d l) (row_entries-tell p i q m o k)

  pairs_are : pairs_among p ts ts ≡ filter (λ x. enabled p i x.0 x.1) (pairs_of ts)
  pairs_are = sym (among_is ts ts all_in_row all_in_row)

pub pairs_found : (p : Sparse) (i : ℕ) (us : List Term) (x y : List Pair) → is_short p i ≡ true → us ≡ row_entries p i → x ≡ [] → y ≡ x ++ pairs_among p us us → y ≡ filter (λ x. enabled p i x.0 x.1) (pairs_of (row_entries p i))
pairs_found p i us x y s e f g = g ∙ ap₂ (λ (l : List Pair) (vs : List Term). l ++ pairs_among p vs vs) f e ∙ pairs_are p i s

-- ---- rows whose columns all have an upper bound
abbrev Ended : Sparse → Term → Type 0
Ended p t = is_none (bounds_at p t.id).upper ≡ false

pub none_among : (p : Sparse) (ts us : List Term) → All (Ended p) ts → pairs_among p ts us ≡ []
none_among p [] us h = refl
none_among p (t ∷ ts) us h = filter-append (λ x. dominates p x.0 x.1) (map (λ u. (t.id, u.id)) us) (flat_map (λ t. map (λ u. (t.id, u.id)) us) ts) ∙ ap₂ (λ (x y : List Pair). x ++ y) (none_beside p t.id us (ap (λ (b : Bool). not (bounds_at p t.id).semi && b) (All-head (Ended p) t ts h) ∙ and_none (not (bounds_at p t.id).semi))) (none_among p ts us (All-tail (Ended p) t ts h))

pub one_ended : (p : Sparse) (t : Term) (ts : List Term) → is_endless p t.id ≡ false → All (Ended p) (live_only p.matrix.columns ts) → All (Ended p) (live_only p.matrix.columns (t ∷ ts))
one_ended p t ts e h = by (column_at p t.id).live e
  where
    by : (b : Bool) → (b && is_none (bounds_at p t.id).upper) ≡ false → All (Ended p) (cond b (t ∷ live_only p.matrix.columns ts) (live_only p.matrix.columns ts))
    by true g = All-cons (Ended p) t (live_only p.matrix.columns ts) g h
    by false g = h

pub ended_more : (p : Sparse) (ts : List Term) (i : ℕ) (t : Term) → i < length ts → t ≡ get_or ts i t → is_endless p t.id ≡ false
    → All (Ended p) (live_only p.matrix.columns (drop (i + 1) ts)) → All (Ended p) (live_only p.matrix.columns (drop i ts))
ended_more p ts i t l e n h = subst (λ (us : List Term). All (Ended p) (live_only p.matrix.columns us)) (sym (left ts i t l e)) (one_ended p t (drop (i + 1) ts) n h)
