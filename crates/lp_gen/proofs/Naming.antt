-- Names of a letter and a number.
use Rattle.std.proofs.Common.{◌≡◌, ◌≢◌, ℕ, zero, suc, ◌+◌, ◌<◌, ◌≤◌, ◌^◌, ◌%◌, Bool, true, false, List, [], ◌∷◌, length, map, ◌∙◌, sym, refl, ap, ap₂, subst, arith}
use Rattle.std.specs.Prelude.{not, ◌&&◌, codes}
use Rattle.std.specs.List.{list_all, range_with_len, All}
use Rattle.std.specs.Fmt.{decimal}
use Rattle.std.proofs.lemmas.Fmt.{decimal_by_steps, decimal_injective}
use Rattle.std.proofs.lemmas.Nat.{mod_below}
use Rattle.std.proofs.lemmas.Bool.{ne_eqb, or_from}
use Rattle.std.proofs.lemmas.List.Elements.{All-cons}
use Rattle.std.proofs.lemmas.List.Folds.{list_all-append}
use Rattle.std.proofs.lemmas.List.FromFn.{length-map-range_with_len, get_or-map-range_with_len}
use Rattle.std.proofs.lemmas.List.Kept.{AllPairs-cons}
use Rattle.lp_model.specs.Name.{is_break, IsName}
use Rattle.lp_model.specs.Names.{Differ, WellNamed, names_of_rows, names_of_columns}
use Rattle.lp_gen.specs.Generated.{generated, row_of, columns_seed}
use Rattle.lp_gen.specs.Columns.{column_of}
use Rattle.lp_gen.proofs.Listing.{map_joined}

-- ---- a letter and digits are a name
digit_stays : (d : ℕ) → d < 10 → is_break (48 + d) ≡ false
digit_stays d l =
    or_from _ _ (or_from _ _ (ne_eqb (48 + d) 32 (λ e. omega (arith, e))) (ne_eqb (48 + d) 9 (λ e. omega (arith, e)))) (ne_eqb (48 + d) 10 (λ e. omega (arith, e)))

abbrev stays : ℕ → Bool
stays b = not (is_break b)

digits_stay : (n : ℕ) → n < 2 ^ 64 → list_all stays (decimal n) ≡ true
digits_stay n few = decimal_by_steps (λ _ ds. list_all stays ds ≡ true) (λ d l. one d l) (λ d ds _ before. list_all-append stays ds ((48 + d % 10) ∷ []) ∙ ap₂ (λ (x y : Bool). x && y) before (one (d % 10) (mod_below d 10 (omega arith)))) n few
  where
    one : (d : ℕ) → d < 10 → list_all stays ((48 + d) ∷ []) ≡ true
    one d l = ap (λ (b : Bool). not b && true) (digit_stays d l)

pub numbered_named : (letter n : ℕ) → is_break letter ≡ false → n < 2 ^ 64 → IsName (letter ∷ decimal n)
numbered_named letter n stay few = ap₂ (λ (x y : Bool). not x && y) (ne_eqb (suc (length (decimal n))) 0 (λ e. omega (arith, e))) (ap₂ (λ (x y : Bool). not x && y) stay (digits_stay n few))

-- ---- such names differ
same_tail : {x y : ℕ} {xs ys : List ℕ} → x ∷ xs ≡ y ∷ ys → xs ≡ ys
same_tail e = cc

numbered_differ : (letter n : ℕ) → n ≤ 2 ^ 64 → Differ (map (λ i. letter ∷ decimal i) (range_with_len 0 n))
numbered_differ letter n few i j d l m e =
    let long = length-map-range_with_len (λ i. letter ∷ decimal i) 0 n in
    let below_j : j < n = omega (arith, long, m) in
    let below_i : i < n = omega (arith, l, below_j) in
    let zero_i : 0 + i ≡ i = omega arith in
    let zero_j : 0 + j ≡ j = omega arith in
    let same : letter ∷ decimal i ≡ letter ∷ decimal j =
    sym (get_or-map-range_with_len (λ i. letter ∷ decimal i) 0 n i i d below_i zero_i) ∙ e ∙ get_or-map-range_with_len (λ i. letter ∷ decimal i) 0 n j j d below_j zero_j in
    omega (arith, l, decimal_injective i j (omega (arith, below_i, few)) (omega (arith, below_j, few)) (same_tail same))

numbered_names : (letter a n : ℕ) → is_break letter ≡ false → a + n ≤ 2 ^ 64 → All IsName (map (λ i. letter ∷ decimal i) (range_with_len a n))
numbered_names letter a zero stay few = λ k d l. absurd (omega (arith, l))
numbered_names letter a (suc n) stay few =
    All-cons IsName (letter ∷ decimal a) (map (λ i. letter ∷ decimal i) (range_with_len (a + 1) n)) (numbered_named letter a stay (omega (arith, few))) (numbered_names letter (a + 1) n stay (omega (arith, few)))

-- ---- COST is a name, and no name of a row
cost_named : IsName (codes "COST")
cost_named = refl

first : ℕ → List ℕ → ℕ
first d [] = d
first d (x ∷ xs) = x

cost_differs : (a n : ℕ) → All (λ name. codes "COST" ≢ name) (map (λ i. 82 ∷ decimal i) (range_with_len a n))
unfolding first
cost_differs a zero = λ k d l. absurd (omega (arith, l))
cost_differs a (suc n) =
    All-cons (λ name. codes "COST" ≢ name) (82 ∷ decimal a) (map (λ i. 82 ∷ decimal i) (range_with_len (a + 1) n)) (λ e. let clash : 67 ≡ 82 = ap (first 0) e in omega (arith, clash)) (cost_differs (a + 1) n)

pub well_named : (seed rows columns : ℕ) → rows ≤ 2 ^ 64 → columns ≤ 2 ^ 64 → WellNamed (codes "COST") (generated seed rows columns).rows (generated seed rows columns).columns
well_named seed rows columns few_rows few_columns = record {
  row_names = subst (λ (names : List (List ℕ)). All IsName (codes "COST" ∷ names)) (sym of_rows) (All-cons IsName (codes "COST") _ cost_named (numbered_names 82 0 rows refl (omega (arith, few_rows))));
  column_names = subst (All IsName) (sym of_columns) (numbered_names 67 0 columns refl (omega (arith, few_columns)));
  rows = subst (λ (names : List (List ℕ)). Differ (codes "COST" ∷ names)) (sym of_rows) (AllPairs-cons (λ name other. name ≢ other) (codes "COST") _ (cost_differs 0 rows) (numbered_differ 82 rows few_rows));
  columns = subst Differ (sym of_columns) (numbered_differ 67 columns few_columns);
}
  where
    of_rows : names_of_rows (generated seed rows columns).rows ≡ map (λ i. 82 ∷ decimal i) (range_with_len 0 rows)
    of_rows = map_joined (λ r. r.name) (row_of seed rows columns) (range_with_len 0 rows)

    of_columns : names_of_columns (generated seed rows columns).columns ≡ map (λ j. 67 ∷ decimal j) (range_with_len 0 columns)
    of_columns = map_joined (λ c. c.name) (column_of (columns_seed seed rows) rows) (range_with_len 0 columns)
