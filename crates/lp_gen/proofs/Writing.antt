-- The program can be written, and its entries ascend.
use Rattle.std.proofs.Common.{◌≡◌, ◌≢◌, ℕ, zero, suc, ◌+◌, ◌<◌, ◌≤◌, ◌^◌, ℤ, pos, ◌-ℤ◌, nat_abs, [], ◌∷◌, Option, Some, None, map, length, ◌∙◌, sym, refl, ap, subst, arith, lit<}
use Rattle.std.specs.List.{All, range_with_len, cons_option}
use Rattle.std.specs.Option.{option_map}
use Rattle.std.proofs.lemmas.Int.{ints}
use Rattle.std.proofs.lemmas.List.Elements.{All-nil, All-cons}
use Rattle.std.proofs.lemmas.List.FromFn.{length-map-range_with_len}
use Rattle.fractions.specs.Ring.{ring, v, num, ◌:*◌}
use Rattle.fractions.specs.Number.{rational, integral, of_ℤ, zero_ℚ, neg_ℚ, ◌+ℚ◌, lift2}
use Rattle.fractions.specs.Gcd.{gcd, coprime_by}
use Rattle.fractions.specs.Lowest.{Fits, of_lowest, over_of, under_of}
use Rattle.fractions.specs.Order.{non_neg_ℚ, ≤ℚ_refl}
use Rattle.fractions.specs.Decimal as decimals
use Rattle.fractions.specs.declared.Numbers.{Numbers}
use Rattle.fractions.specs.declared.Numbers.TheVariants.{Decimal, Fractions}
use Rattle.lp_model.specs.declared.program.ColumnDef.{ColumnDef}
use Rattle.lp_model.specs.Sparse.{Ascends}
use Rattle.lp_model.specs.Writable.{WritableNumber, IsNear, WritableRow, WritableColumn, Writable, EntriesAscend}
use Rattle.lp_gen.specs.declared.rows.RowKind.{RowKind}
use Rattle.lp_gen.specs.declared.rows.RowKind.TheVariants.{AtMost, AtLeast, Equal}
use Rattle.lp_gen.specs.Draws.{drawn}
use Rattle.lp_gen.specs.Columns.{whole, term, coefficient_in, entries_seed, column_from, column_of, column_seed, coefficient_sum}
use Rattle.lp_gen.specs.Rows.{kind_of, row_with}
use Rattle.lp_gen.specs.Generated.{columns_seed, sides_seed, row_of, generated}
use Rattle.lp_gen.proofs.Drawing.{drawn_below}
use Rattle.lp_gen.proofs.Entries.{terms_on}
use Rattle.lp_gen.proofs.Listing.{all_listed}
use Rattle.lp_gen.proofs.Summing.{coefficient_sized, sum_small}

-- ---- whole numbers
no_divisor : (n : ℕ) → gcd n 1 ≡ 1
no_divisor n = coprime_by n 1 (λ d _ h. h)

over_of_whole : (z : ℤ) → over_of (of_ℤ z) ≡ z
unfolding of_ℤ
over_of_whole z = (of_lowest (integral z) (no_divisor (nat_abs z))).0

under_of_whole : (z : ℤ) → under_of (of_ℤ z) ≡ 1
unfolding of_ℤ
under_of_whole z = (of_lowest (integral z) (no_divisor (nat_abs z))).1

whole_Fits : (z : ℤ) → nat_abs z < 2 ^ 127 → Fits (of_ℤ z)
whole_Fits z l = record {
  over = subst (λ (y : ℤ). nat_abs y < 2 ^ 127) (sym (over_of_whole z)) l;
  under = subst (λ (d : ℕ). d < 2 ^ 127) (sym (under_of_whole z)) (lit< tt);
}

whole_decimal : (z : ℤ) → nat_abs z < 2 ^ 127 → decimals.Decimal (of_ℤ z)
whole_decimal z l = record {
  places = 0;
  few = omega arith;
  written = record { digits = z; small = l; value = ring rational (of_ℤ z ∷ []) (v 0 :* num (pos 1)) (v 0) refl };
}

whole_number : (numbers : Numbers) (z : ℤ) → nat_abs z < 2 ^ 127 → WritableNumber numbers (of_ℤ z)
whole_number Decimal z l = (whole_Fits z l, whole_decimal z l)
whole_number Fractions z l = whole_Fits z l

natural_number : (numbers : Numbers) (n : ℕ) → n < 2 ^ 127 → WritableNumber numbers (whole n)
natural_number numbers n l = whole_number numbers (pos n) l

whole_not_zero : (n : ℕ) → 0 < n → whole n ≢ zero_ℚ
whole_not_zero n some e =
    let same : pos n ≡ pos 0 = sym (over_of_whole (pos n)) ∙ ap over_of e ∙ over_of_whole (pos 0) in
    let none : n ≡ 0 = cc in
    omega (arith, some, none)

near_zero : IsNear zero_ℚ
unfolding non_neg_ℚ neg_ℚ ◌+ℚ◌ lift2 of_ℤ
near_zero = (record { lt = tt }, record { lt = tt })

near_ten : IsNear (whole 10)
unfolding non_neg_ℚ neg_ℚ ◌+ℚ◌ lift2 of_ℤ
near_ten = (record { lt = tt }, record { lt = tt })

-- ---- entries
terms_ascend : (f : ℕ → Option ℕ) (a n low top : ℕ) → ((i c : ℕ) → f i ≡ Some c → 0 < c) → low ≤ a → a + n ≤ top → Ascends low top (terms_on f a n)
terms_ascend f a zero low top some from to = tt
terms_ascend f a (suc n) low top some from to = by (λ l m. terms_ascend f (a + 1) n l top some m (omega (arith, to))) (f a) refl
  where
    by : ((l : ℕ) → l ≤ a + 1 → Ascends l top (terms_on f (a + 1) n)) → (o : Option ℕ) → f a ≡ o → Ascends low top (cons_option (option_map (term a) o) (terms_on f (a + 1) n))
    by later None is = later low (omega (arith, from))
    by later (Some c) is = (from, omega (arith, to), whole_not_zero c (some a c is), later (suc a) (omega arith))

terms_written : (numbers : Numbers) (f : ℕ → Option ℕ) (a n : ℕ) → ((i c : ℕ) → f i ≡ Some c → c ≤ 9) → All (λ t. WritableNumber numbers t.value) (terms_on f a n)
terms_written numbers f a zero few = All-nil (λ t. WritableNumber numbers t.value)
terms_written numbers f a (suc n) few = by (terms_written numbers f (a + 1) n few) (f a) refl
  where
    by : All (λ t. WritableNumber numbers t.value) (terms_on f (a + 1) n) → (o : Option ℕ) → f a ≡ o → All (λ t. WritableNumber numbers t.value) (cons_option (option_map (term a) o) (terms_on f (a + 1) n))
    by later None is = later
    by later (Some c) is = All-cons (λ t. WritableNumber numbers t.value) (term a c) _ (natural_number numbers c (omega (arith, few a c is))) later

-- ---- columns and rows
column_written : (numbers : Numbers) (seed rows j : ℕ) → WritableColumn numbers (column_from seed rows j)
column_written numbers seed rows j = record {
  cost = natural_number numbers (drawn seed 0 11) (omega (arith, drawn_below seed 0 11 (omega arith)));
  lower = (natural_number numbers 0 (omega arith), near_zero);
  upper = (natural_number numbers 10 (omega arith), near_ten);
  entries = terms_written numbers (coefficient_in (entries_seed seed) rows 3) 0 rows (λ i c is. (coefficient_sized (entries_seed seed) rows 3 i c is).1);
}

difference_small : (q e : ℕ) → q < 2 ^ 32 → e < 2 ^ 32 → nat_abs (pos q -ℤ pos e) < 2 ^ 127
difference_small q e l m = omega (arith, ints, l, m)

row_written : (numbers : Numbers) (i : ℕ) (kind : RowKind) (q e : ℕ) → q < 2 ^ 31 → e < 5 → WritableRow numbers (row_with i kind q e)
row_written numbers i AtMost q e l m = natural_number numbers (q + e) (omega (arith, l, m))
row_written numbers i AtLeast q e l m = whole_number numbers (pos q -ℤ pos e) (difference_small q e (omega (arith, l)) (omega (arith, m)))
row_written numbers i Equal q e l m = record {
  lower_number = natural_number numbers q (omega (arith, l));
  upper_number = natural_number numbers q (omega (arith, l));
  ascends = ≤ℚ_refl (whole q);
  width = λ apart. absurd (apart refl);
}

pub generated_ascends : (seed rows columns : ℕ) → EntriesAscend (generated seed rows columns)
generated_ascends seed rows columns =
    let many : length (map (row_of seed rows columns) (range_with_len 0 rows)) ≡ rows = length-map-range_with_len (row_of seed rows columns) 0 rows in
    all_listed (λ (column : ColumnDef). Ascends 0 (length (map (row_of seed rows columns) (range_with_len 0 rows))) column.entries) (column_of (columns_seed seed rows) rows) (range_with_len 0 columns)
    (λ j. terms_ascend (coefficient_in (entries_seed (column_seed (columns_seed seed rows) j)) rows 3) 0 rows 0 _ (λ i c is. (coefficient_sized _ rows 3 i c is).0) (omega arith) (omega (arith, many)))

pub generated_written : (numbers : Numbers) (seed rows columns : ℕ) → columns ≤ 100000 → Writable numbers (generated seed rows columns)
generated_written numbers seed rows columns few = record {
  constant = natural_number numbers 0 (omega arith);
  rows = all_listed (WritableRow numbers) (row_of seed rows columns) (range_with_len 0 rows)
      (λ i. row_written numbers i (kind_of (drawn seed i 3)) (coefficient_sum (columns_seed seed rows) rows columns i) (drawn (sides_seed seed rows columns) i 5)
      (omega (arith, few, sum_small (columns_seed seed rows) rows columns i)) (drawn_below (sides_seed seed rows columns) i 5 (omega arith)));
  columns = all_listed (WritableColumn numbers) (column_of (columns_seed seed rows) rows) (range_with_len 0 columns) (λ j. column_written numbers (column_seed (columns_seed seed rows) j) rows j);
}
