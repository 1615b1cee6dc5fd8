-- Steps by which groups are made.
use Rattle.std.proofs.Common.{◌≡◌, ◌≢◌, ◌⊎◌, inl, inr, ℕ, zero, suc, ◌+◌, ◌<◌, ◌≤◌, nat_eq, Bool, true, false, List, [], ◌∷◌, ◌++◌, length, get_or, set, Option, Some, None, refl, sym, ap, ◌∙◌, subst, arith, length-append}
use Rattle.std.specs.Prelude.{position, if◌then◌else◌}
use Rattle.std.specs.List.{Contains, flat_map, list_any}
use Rattle.std.specs.List.Sorted.{IsPermutation}
use Rattle.std.specs.List.Retain.{DiffersFromLast, IsFiltered}
use lib.Dec.{eqb}
use Rattle.std.proofs.lemmas.List.Elements.{Contains-append_left, Contains-append_right, Contains-push_cases}
use Rattle.std.proofs.lemmas.List.Filters.{dedup_is}
use Rattle.std.proofs.lemmas.List.Kept.{Contains-dedup_nat}
use Rattle.std.proofs.lemmas.List.Sorted.{Contains-permutation}
use Rattle.std.proofs.lemmas.Bool.{cases_eq, cases_lt, eq-eqb}
use Rattle.std.proofs.lemmas.List.{length-set, get_or-set_same, get_or-set_other, get_or_append_left, get_or_push, get_or_past}
use Rattle.fractions.proofs.Totals.{at_or_off}
use Rattle.problem_model.specs.declared.part.Contents.TheVariants.{Entries, Column, Gone}
use Rattle.problem_model.specs.declared.part.Part.{Part}
use Rattle.problem_model.specs.Parts.{contents_of}
use Rattle.problem_model.specs.Problems.{column_at, column_entries, cost_at, row_at, row_entries}
use Rattle.problem_model.specs.Sparse.{Sparse}
use Rattle.problem_laws.proofs.AtIds.{live_inside}
use Rattle.line_groups.specs.declared.groups.Kind.{Kind}
use Rattle.line_groups.specs.declared.groups.Kind.TheVariants.{Rows, Columns}
use Rattle.sorted_ids.specs.Ascending.{AscendsFrom}
use Rattle.line_groups.specs.Groups.{Grouped, IsTable, StandsUnder, alone, group_at, ids_in, if_more, lone_at, many_at, number_at}
use Rattle.line_groups.specs.Steps.{Adds, AreOf, HasGroup, Puts, Renews, RenewsLines, count_in, key_by, lines_in, part_of}
use Rattle.line_groups.specs.Keys.{key_in}
use Rattle.line_groups.proofs.Positions.{place_last, place_left}

-- ---- one list of many gets longer
module _ (old new : List (List ℕ)) (n i : ℕ) (ids : List ℕ) (inside : n < length old) (is : new ≡ set old n ids) where
  here : get_or new n [] ≡ ids
  here = ap (λ (xs : List (List ℕ)). get_or xs n []) is ∙ get_or-set_same old n ids [] inside

  there : (m : ℕ) → m ≢ n → get_or new m [] ≡ get_or old m []
  there m off = ap (λ (xs : List (List ℕ)). get_or xs m []) is ∙ get_or-set_other old n m ids [] off

  pub puts : Contains ids i → ((k : ℕ) → Contains (get_or old n []) k → Contains ids k) → (AscendsFrom 0 (get_or old n []) → AscendsFrom 0 ids) → Puts old new n i
  puts has keeps up = record {
    long = ap length is ∙ length-set old n ids;
    there = subst (λ (xs : List ℕ). Contains xs i) (sym here) has;
    kept = at_or_off (λ m. (k : ℕ) → Contains (get_or old m []) k → Contains (get_or new m []) k) n
        (λ k h. subst (λ (xs : List ℕ). Contains xs k) (sym here) (keeps k h))
        (λ m off k h. subst (λ (xs : List ℕ). Contains xs k) (sym (there m off)) h);
    ascends = λ all. at_or_off (λ m. AscendsFrom 0 (get_or new m [])) n
        (subst (AscendsFrom 0) (sym here) (up (all n)))
        (λ m off. subst (AscendsFrom 0) (sym (there m off)) (all m));
  }

-- ---- a line is put into a group
pub put_adds : (old new : Grouped) (count key n i : ℕ) → IsTable old count → position (nat_eq key) old.keys ≡ Some n → i < count
    → new.keys ≡ old.keys → new.numbers ≡ set old.numbers i n → Puts old.groups new.groups n i → Adds old new count key i
put_adds old new count key n i t e l keys numbers puts = record {
  table = record { long = ap length numbers ∙ length-set old.numbers i n ∙ t.long; paired = puts.long ∙ t.paired ∙ ap length (sym keys); ascends = puts.ascends t.ascends };
  there = record {
    number = ap (position (nat_eq key)) keys ∙ e ∙ ap (λ (m : ℕ). Some m) (sym mine);
    among = subst (λ (m : ℕ). Contains (ids_in new m) i) (sym mine) puts.there;
  };
  kept = λ k m off s. record {
    number = ap (position (nat_eq m)) keys ∙ s.number ∙ ap (λ (x : ℕ). Some x) (sym (same k off));
    among = subst (λ (x : ℕ). Contains (ids_in new x) k) (sym (same k off)) (puts.kept (number_at old k) k s.among);
  };
}
  where
    mine : number_at new i ≡ n
    mine = ap (λ (xs : List ℕ). get_or xs i 0) numbers ∙ get_or-set_same old.numbers i n 0 (let h = t.long in omega (arith, l, h))

    same : (k : ℕ) → k ≢ i → number_at new k ≡ number_at old k
    same k off = ap (λ (xs : List ℕ). get_or xs k 0) numbers ∙ get_or-set_other old.numbers i k n 0 off

-- ---- there is a group with a key
pub had_group : (g : Grouped) (count key n : ℕ) → IsTable g count → Some n ≡ position (nat_eq key) g.keys → HasGroup g g count key n
had_group g count key n t e = record { table = t; there = sym e; kept = λ k m s. s }

-- a new one comes last, and has no ids
module _ (old new : Grouped) (count key n : ℕ) (t : IsTable old count) (none : false ≡ list_any (nat_eq key) old.keys) (last : n ≡ length old.keys)
    (keys : new.keys ≡ (if list_any (nat_eq key) old.keys then old.keys else old.keys ++ key ∷ [])) (numbers : new.numbers ≡ old.numbers) (groups : new.groups ≡ old.groups ++ [] ∷ []) where
  longer : new.keys ≡ old.keys ++ key ∷ []
  longer = keys ∙ ap (λ (b : Bool). if b then old.keys else old.keys ++ key ∷ []) (sym none)

  ids_same : (m : ℕ) → ids_in new m ≡ ids_in old m
  ids_same m = ap (λ (xs : List (List ℕ)). get_or xs m []) groups ∙ by (cases_lt m (length old.groups))
    where
      by : (m < length old.groups) ⊎ (length old.groups ≤ m) → get_or (old.groups ++ [] ∷ []) m [] ≡ get_or old.groups m []
      by (inl l) = get_or_append_left old.groups ([] ∷ []) [] m l
      by (inr l) = beyond (cases_eq m (length old.groups)) ∙ sym (get_or_past old.groups m [] l)
        where
          beyond : (m ≡ length old.groups) ⊎ (m ≢ length old.groups) → get_or (old.groups ++ [] ∷ []) m [] ≡ []
          beyond (inl e) = get_or_push old.groups [] [] m (sym e)
          beyond (inr o) = get_or_past (old.groups ++ [] ∷ []) m [] (let long = length-append old.groups ([] ∷ []) in omega (arith, l, o, long))

  pub new_group : HasGroup old new count key n
  new_group = record {
    table = record {
      long = ap length numbers ∙ t.long;
      paired = ap length groups ∙ length-append old.groups ([] ∷ []) ∙ ap (λ m. m + 1) t.paired ∙ sym (length-append old.keys (key ∷ [])) ∙ ap length (sym longer);
      ascends = λ m. subst (AscendsFrom 0) (sym (ids_same m)) (t.ascends m);
    };
    there = ap (position (nat_eq key)) longer ∙ place_last (nat_eq key) old.keys key (sym none) (eq-eqb key key refl) ∙ ap (λ (m : ℕ). Some m) (sym last);
    kept = λ k m s. record {
      number = ap (position (nat_eq m)) longer ∙ place_left (nat_eq m) old.keys (key ∷ []) (number_at old k) s.number ∙ ap (λ (xs : List ℕ). Some (get_or xs k 0)) (sym numbers);
      among = subst (λ (xs : List ℕ). Contains xs k) (sym (ids_same (number_at new k))) (subst (λ (xs : List ℕ). Contains (ids_in old (get_or xs k 0)) k) (sym numbers) s.among);
    };
  }

-- ---- both
pub adds : (old mid new : Grouped) (count key n i : ℕ) → HasGroup old mid count key n → Adds mid new count key i → Adds old new count key i
adds old mid new count key n i h a = record { table = a.table; there = a.there; kept = λ k m off s. a.kept k m off (h.kept k m s) }

-- ---- a line with the key that it has now
pub renews : (old new : Grouped) (count : ℕ) (key : ℕ → Option ℕ) (h i : ℕ) → key i ≡ Some h → Adds old new count h i → Renews old new count key i
renews old new count key h i e a = record { table = a.table; kept = λ k m f s. by k m f s (cases_eq k i) }
  where
    mine : (k m : ℕ) → key k ≡ Some m → k ≡ i → StandsUnder new m k
    mine k m f g =
        let same : Some h ≡ Some m = sym e ∙ ap key (sym g) ∙ f in
        let eq : h ≡ m = cc in
        subst (λ (x : ℕ). StandsUnder new x k) eq (subst (λ (x : ℕ). StandsUnder new h x) (sym g) a.there)

    by : (k m : ℕ) → key k ≡ Some m → StandsUnder old m k ⊎ (k ≡ i) → (k ≡ i) ⊎ (k ≢ i) → StandsUnder new m k
    by k m f s (inl g) = mine k m f g
    by k m f (inl s) (inr o) = a.kept k m o s
    by k m f (inr g) (inr o) = mine k m f g

pub none_renews : (g : Grouped) (count : ℕ) (key : ℕ → Option ℕ) (i : ℕ) → IsTable g count → key i ≡ None → Renews g g count key i
none_renews g count key i t e = record { table = t; kept = λ k m f s. by k m f s }
  where
    by : (k m : ℕ) → key k ≡ Some m → StandsUnder g m k ⊎ (k ≡ i) → StandsUnder g m k
    by k m f (inl s) = s
    by k m f (inr g) = let bad : Some m ≡ None = sym f ∙ ap key g ∙ e in cc

-- a line that has a key is one of the lines
pub key_inside : (p : Sparse) (kind : Kind) (i h : ℕ) → key_by p kind i ≡ Some h → i < count_in kind p
key_inside p Rows i h e = live_inside p.matrix.rows i (by (row_at p i).live e)
  where
    by : (b : Bool) → key_in (if b then Entries (row_entries p i) else Gone) ≡ Some h → b ≡ true
    by true f = refl
    by false f = cc
key_inside p Columns i h e = live_inside p.matrix.columns i (by (column_at p i).live e)
  where
    by : (b : Bool) → key_in (if b then Column (column_entries p i) (cost_at p i) else Gone) ≡ Some h → b ≡ true
    by true f = refl
    by false f = cc

-- the lines below one, and this one
pub below_or : (k n : ℕ) → k < n + 1 → (k < n) ⊎ (k ≡ n)
below_or k n l = by (cases_eq k n)
  where
    by : (k ≡ n) ⊎ (k ≢ n) → (k < n) ⊎ (k ≡ n)
    by (inl e) = inr e
    by (inr o) = inl (omega (arith, l, o))

-- of those that were there before, and line i, each that has a key stands in its group
pub more_stand : (old new : Grouped) (count : ℕ) (key : ℕ → Option ℕ) (i : ℕ) → Renews old new count key i → ((k m : ℕ) → k < i → key k ≡ Some m → StandsUnder old m k)
    → (k m : ℕ) → k < i + 1 → key k ≡ Some m → StandsUnder new m k
more_stand old new count key i r each k m l e = by (below_or k i l)
  where
    by : (k < i) ⊎ (k ≡ i) → StandsUnder new m k
    by (inl b) = r.kept k m e (inl (each k m b e))
    by (inr g) = r.kept k m e (inr g)

-- ---- some lines
pub no_lines : (g : Grouped) (p : Sparse) (kind : Kind) (lines : List ℕ) → IsTable g (count_in kind p) → length lines ≡ 0 → RenewsLines g g p kind lines
no_lines g p kind lines t e = record { table = t; kept = by }
  where
    by : (k m : ℕ) → key_by p kind k ≡ Some m → StandsUnder g m k ⊎ Contains lines k → StandsUnder g m k
    by k m f (inl s) = s
    by k m f (inr (j, l, h)) = absurd (omega (arith, l, e))

pub lines_more : (start old new : Grouped) (p : Sparse) (kind : Kind) (lines : List ℕ) (i : ℕ) → RenewsLines start old p kind lines → Renews old new (count_in kind p) (key_by p kind) i → RenewsLines start new p kind (lines ++ i ∷ [])
lines_more start old new p kind lines i r s = record { table = s.table; kept = by }
  where
    now : (k m : ℕ) → key_by p kind k ≡ Some m → Contains lines k ⊎ (i ≡ k) → StandsUnder new m k
    now k m f (inl c) = s.kept k m f (inl (r.kept k m f (inr c)))
    now k m f (inr e) = s.kept k m f (inr (sym e))

    by : (k m : ℕ) → key_by p kind k ≡ Some m → StandsUnder start m k ⊎ Contains (lines ++ i ∷ []) k → StandsUnder new m k
    by k m f (inl h) = s.kept k m f (inl (r.kept k m f (inl h)))
    by k m f (inr c) = now k m f (Contains-push_cases lines i k c)

-- ---- the groups of another problem
pub recounted : (g : Grouped) (m n : ℕ) → m ≡ n → IsTable g n → IsTable g m
recounted g m n e t = record { long = t.long ∙ sym e; paired = t.paired; ascends = t.ascends }

pub refreshed : (old new : Grouped) (p f : Sparse) (kind : Kind) (parts : List Part) (lines : List ℕ) → AreOf f kind old → ((a : Part) → (contents_of p a ≡ contents_of f a) ⊎ Contains parts a) → ((k : ℕ) → Contains parts (part_of kind k) → Contains lines k)
    → RenewsLines old new p kind lines → AreOf p kind new
refreshed old new p f kind parts lines g same there r = record { table = r.table; each = λ k m e. by k m e (same (part_of kind k)) }
  where
    by : (k m : ℕ) → key_by p kind k ≡ Some m → (contents_of p (part_of kind k) ≡ contents_of f (part_of kind k)) ⊎ Contains parts (part_of kind k) → StandsUnder new m k
    by k m e (inl s) = r.kept k m e (inl (g.each k m (sym (ap key_in s) ∙ e)))
    by k m e (inr c) = r.kept k m e (inr (there k c))

-- ---- the ids in groups
flat_at : {X : Type 0} (f : X → List ℕ) (xs : List X) (x : X) (y k : ℕ) → k < length xs → get_or xs k x ≡ x → Contains (f x) y → Contains (flat_map f xs) y
flat_at f [] x y k l e d = absurd (omega (arith, l))
flat_at f (z ∷ xs) x y zero l e d = Contains-append_left (f z) (flat_map f xs) y (subst (λ w. Contains (f w) y) (sym e) d)
flat_at f (z ∷ xs) x y (suc k) l e d = Contains-append_right (f z) (flat_map f xs) y (flat_at f xs x y k (omega (arith, l)) e d)

pub kept_beside : (g : Grouped) (lines read old mid new : List ℕ) → mid ≡ old ++ flat_map (lone_at g) lines → new ≡ mid ++ flat_map (ids_in g) read → (k : ℕ) → Contains old k → Contains new k
kept_beside g lines read old mid new e f k c =
    subst (λ (xs : List ℕ). Contains xs k) (sym f) (Contains-append_left mid (flat_map (ids_in g) read) k (subst (λ (xs : List ℕ). Contains xs k) (sym e) (Contains-append_left old (flat_map (lone_at g) lines) k c)))

-- an id of a group is alone there, or the group has more
one_or_more : (is : List ℕ) (n m : ℕ) → Contains is m → Contains (alone is) m ⊎ Contains (if_more is n) n
one_or_more [] n m (k, l, e) = absurd (omega (arith, l))
one_or_more (i ∷ []) n m c = inl c
one_or_more (i ∷ j ∷ is) n m c = inr (0, omega arith, refl)

pub ids_beside : (g : Grouped) (lines numbers once read old mid new : List ℕ) → mid ≡ old ++ flat_map (lone_at g) lines → numbers ≡ flat_map (many_at g) lines → ((n : ℕ) → Contains numbers n → Contains once n) → read ≡ once
    → new ≡ mid ++ flat_map (ids_in g) read → (k m : ℕ) → Contains lines k → Contains (group_at g k) m → Contains new m
ids_beside g lines numbers once read old mid new f e keeps r is k m c d = subst (λ (xs : List ℕ). Contains xs m) (sym is) (by (one_or_more (group_at g k) (number_at g k) m d))
  where
    by : Contains (lone_at g k) m ⊎ Contains (many_at g k) (number_at g k) → Contains (mid ++ flat_map (ids_in g) read) m
    by (inl h) = Contains-append_left mid (flat_map (ids_in g) read) m (subst (λ (xs : List ℕ). Contains xs m) (sym f) (Contains-append_right old (flat_map (lone_at g) lines) m (flat_at (lone_at g) lines k m c.0 c.1 c.2 h)))
    by (inr h) =
        let at : Contains read (number_at g k) = subst (λ (xs : List ℕ). Contains xs (number_at g k)) (sym r) (keeps (number_at g k) (subst (λ (xs : List ℕ). Contains xs (number_at g k)) (sym e) (flat_at (many_at g) lines k (number_at g k) c.0 c.1 c.2 h))) in
        Contains-append_right mid (flat_map (ids_in g) read) m (flat_at (ids_in g) read (number_at g k) m at.0 at.1 at.2 d)

pub kept_once : (a b c : List ℕ) → IsPermutation a b → IsFiltered (DiffersFromLast eqb) [] b c → (k : ℕ) → Contains a k → Contains c k
kept_once a b c p f k h = subst (λ (ks : List ℕ). Contains ks k) (sym (dedup_is eqb b c f)) (Contains-dedup_nat b k (Contains-permutation a b k p h))

-- the lines of parts are among those that are kept once
pub lines_kept : (kind : Kind) (parts : List Part) (lines once : List ℕ) → lines ≡ flat_map (lines_in kind) parts → ((k : ℕ) → Contains lines k → Contains once k)
    → (k : ℕ) → Contains parts (part_of kind k) → Contains once k
lines_kept kind parts lines once e f k c =
    f k (subst (λ (ks : List ℕ). Contains ks k) (sym e) (flat_at (lines_in kind) parts (part_of kind k) k c.0 c.1 c.2 (own kind)))
  where
    own : (h : Kind) → Contains (lines_in h (part_of h k)) k
    own Rows = (0, omega arith, refl)
    own Columns = (0, omega arith, refl)
