-- Walks over a row's spans: the least common denominator, and the sums over it, of what was passed and what is left.
use Rattle.std.proofs.Common.{◌≡◌, ℕ, ◌+◌, ◌*◌, ◌^◌, ◌<◌, ◌≤◌, ℤ, pos, ◌+ℤ◌, nat_abs, List, [], ◌∷◌, ◌++◌, Option, Some, None, sym, ap, ◌∙◌, subst, arith}
use Prim.Native.Nat.{◌∣◌}
use native.Mathlib.Nat.{dvd_trans, dvd_antisymm, dvd-mul_right}
use Rattle.std.proofs.lemmas.Int.{ints}
use Rattle.fractions.specs.Number.{Number}
use Rattle.row_spans.specs.Spans.{ends_at}
use Rattle.row_spans.specs.declared.span.Span.{Span}
use Rattle.row_spans.specs.declared.span.Extreme.{Extreme}
use Rattle.row_spans.specs.declared.span.Extreme.TheVariants.{Least, Greatest}
use Rattle.kept_sums.specs.CommonSums.{numerator, sum_of_numerators, sum_of_sizes, AreOver, infinite_count}
use Rattle.kept_sums.specs.RowTotals.{both_ends, IsLeastCommon, AreTotals, IsLight, IsTame, IsLeastWith, ArePastWith, IsWithin, no_sum, no_sums, IsSumWith, AreSumsWith, AreTooHeavy}
use Rattle.kept_sums.specs.declared.row_totals.EndSum.{EndSum}
use Rattle.kept_sums.specs.declared.row_totals.RowSums.{RowSums}
use Rattle.kept_sums.specs.declared.row_totals.RowTotals.{RowTotals}
use Rattle.kept_sums.proofs.Mended.{ends_at-++}
use Rattle.kept_sums.proofs.Numerators.{over-scaled}

-- ---- terms in two pieces
module _ (d : ℕ) where
  over-join : (a b : List (Option Number)) → AreOver d a → AreOver d b → AreOver d (a ++ b)
  over-join [] b g h = h
  over-join (e ∷ a) b g h = (g.0, over-join a b g.1 h)

  over-left : (a b : List (Option Number)) → AreOver d (a ++ b) → AreOver d a
  over-left [] b h = tt
  over-left (e ∷ a) b h = (h.0, over-left a b h.1)

  over-right : (a b : List (Option Number)) → AreOver d (a ++ b) → AreOver d b
  over-right [] b h = h
  over-right (e ∷ a) b h = over-right a b h.1

  numerators-++ : (a b : List (Option Number)) → sum_of_numerators d (a ++ b) ≡ sum_of_numerators d a +ℤ sum_of_numerators d b
  numerators-++ [] b = none (sum_of_numerators d b)
    where
      none : (x : ℤ) → x ≡ pos 0 +ℤ x
      none x = omega (arith, ints)
  numerators-++ (e ∷ a) b = ap (λ z. numerator d e +ℤ z) (numerators-++ a b) ∙ both (numerator d e) (sum_of_numerators d a) (sum_of_numerators d b)
    where
      both : (x y z : ℤ) → x +ℤ (y +ℤ z) ≡ (x +ℤ y) +ℤ z
      both x y z = omega (arith, ints)

  sizes-++ : (a b : List (Option Number)) → sum_of_sizes d (a ++ b) ≡ sum_of_sizes d a + sum_of_sizes d b
  sizes-++ [] b = none (sum_of_sizes d b)
    where
      none : (x : ℕ) → x ≡ 0 + x
      none x = omega arith
  sizes-++ (e ∷ a) b = ap (λ (n : ℕ). nat_abs (numerator d e) + n) (sizes-++ a b) ∙ both (nat_abs (numerator d e)) (sum_of_sizes d a) (sum_of_sizes d b)
    where
      both : (x y z : ℕ) → x + (y + z) ≡ (x + y) + z
      both x y z = omega arith

infinite-++ : (a b : List (Option Number)) → infinite_count (a ++ b) ≡ infinite_count a + infinite_count b
infinite-++ [] b = none (infinite_count b)
  where
    none : (x : ℕ) → x ≡ 0 + x
    none x = omega arith
infinite-++ (None ∷ a) b = let h = infinite-++ a b in omega (arith, h)
infinite-++ (Some q ∷ a) b = infinite-++ a b

-- ---- both ends of spans in two pieces
module _ (d : ℕ) (a b : List Span) where
  both-join : AreOver d (both_ends a) → AreOver d (both_ends b) → AreOver d (both_ends (a ++ b))
  both-join g h = over-join d (ends_at Least (a ++ b)) (ends_at Greatest (a ++ b))
      (subst (AreOver d) (sym (ends_at-++ Least a b)) (over-join d (ends_at Least a) (ends_at Least b) (over-left d (ends_at Least a) (ends_at Greatest a) g) (over-left d (ends_at Least b) (ends_at Greatest b) h)))
      (subst (AreOver d) (sym (ends_at-++ Greatest a b)) (over-join d (ends_at Greatest a) (ends_at Greatest b) (over-right d (ends_at Least a) (ends_at Greatest a) g) (over-right d (ends_at Least b) (ends_at Greatest b) h)))

  least-over : AreOver d (both_ends (a ++ b)) → AreOver d (ends_at Least a ++ ends_at Least b)
  least-over h = subst (AreOver d) (ends_at-++ Least a b) (over-left d (ends_at Least (a ++ b)) (ends_at Greatest (a ++ b)) h)

  greatest-over : AreOver d (both_ends (a ++ b)) → AreOver d (ends_at Greatest a ++ ends_at Greatest b)
  greatest-over h = subst (AreOver d) (ends_at-++ Greatest a b) (over-right d (ends_at Least (a ++ b)) (ends_at Greatest (a ++ b)) h)

  pub both-left : AreOver d (both_ends (a ++ b)) → AreOver d (both_ends a)
  both-left h = over-join d (ends_at Least a) (ends_at Greatest a) (over-left d (ends_at Least a) (ends_at Least b) (least-over h)) (over-left d (ends_at Greatest a) (ends_at Greatest b) (greatest-over h))

  pub both-right : AreOver d (both_ends (a ++ b)) → AreOver d (both_ends b)
  both-right h = over-join d (ends_at Least b) (ends_at Greatest b) (over-right d (ends_at Least a) (ends_at Least b) (least-over h)) (over-right d (ends_at Greatest a) (ends_at Greatest b) (greatest-over h))

  sizes-of : (x : Extreme) → sum_of_sizes d (ends_at x (a ++ b)) ≡ sum_of_sizes d (ends_at x a) + sum_of_sizes d (ends_at x b)
  sizes-of x = ap (sum_of_sizes d) (ends_at-++ x a b) ∙ sizes-++ d (ends_at x a) (ends_at x b)

  light-left : IsLight d (a ++ b) → IsLight d a
  light-left h = record { short = h.short; least = by _ _ _ (sizes-of Least) h.least; greatest = by _ _ _ (sizes-of Greatest) h.greatest }
    where
      by : (n x y : ℕ) → n ≡ x + y → n ≤ 2 ^ 63 → x ≤ 2 ^ 63
      by n x y e l = omega (arith, e, l)

  light-right : IsLight d (a ++ b) → IsLight d b
  light-right h = record { short = h.short; least = by _ _ _ (sizes-of Least) h.least; greatest = by _ _ _ (sizes-of Greatest) h.greatest }
    where
      by : (n x y : ℕ) → n ≡ x + y → n ≤ 2 ^ 63 → y ≤ 2 ^ 63
      by n x y e l = omega (arith, e, l)

-- ---- the denominator
-- c is that of the spans that were passed, and the rest are left
pub record IsDenominatorOf (all : List Span) (c : ℕ) (rest : List Span) : Type 0 where
  pub positive : 0 < c
  pub short : c ≤ 2 ^ 63
  pub left : (m : ℕ) → 0 < m → AreOver m (both_ends all) → (c ∣ m) × AreOver m (both_ends rest)
  pub over : (m : ℕ) → 0 < m → c ∣ m → AreOver m (both_ends rest) → AreOver m (both_ends all)
  pub light : (m : ℕ) → IsLight m all → IsLight m rest

itself : (c : ℕ) → c ∣ c
itself c = subst (λ n. c ∣ n) (by c) (dvd-mul_right c 1)
  where
    by : (n : ℕ) → n * 1 ≡ n
    by n = omega arith

pub nothing_with : (c : ℕ) → 0 < c → c ≤ 2 ^ 63 → IsLeastWith c (both_ends []) c
nothing_with c h l = record { positive = h; short = l; first = itself c; over = tt; least = λ m p u o. u }

one_dvd : (d : ℕ) → 1 ∣ d
one_dvd d = subst (λ n. 1 ∣ n) (by d) (dvd-mul_right 1 d)
  where
    by : (n : ℕ) → 1 * n ≡ n
    by n = omega arith

pub denominator_first : (all : List Span) → IsDenominatorOf all 1 all
denominator_first all = record { positive = omega arith; short = omega arith; left = λ m p o. (one_dvd m, o); over = λ m p u o. o; light = λ m l. l }

pub denominator_next : (all a rest : List Span) (c d : ℕ) → IsDenominatorOf all c (a ++ rest) → IsLeastWith c (both_ends a) d → IsDenominatorOf all d rest
denominator_next all a rest c d h g = record {
  positive = g.positive;
  short = g.short;
  left = λ m p o. let l = h.left m p o in (g.least m p l.0 (both-left m a rest l.1), both-right m a rest l.1);
  over = λ m p u o. h.over m p (dvd_trans _ g.first u) (both-join m a rest (over-scaled d m u (both_ends a) g.over) o);
  light = λ m l. light-right m a rest (h.light m l);
}

pub denominator_past : (all a rest : List Span) (c : ℕ) → IsDenominatorOf all c (a ++ rest) → ArePastWith c a → IsTame all → ⊥
denominator_past all a rest c h f t =
    let l = h.left t.denominator t.common.positive t.common.over in
    f t.denominator t.common.positive l.0 (both-left t.denominator a rest l.1) (light-left t.denominator a rest (h.light t.denominator t.light))

pub denominator_last : (all : List Span) (c : ℕ) → IsDenominatorOf all c [] → IsLeastCommon c (both_ends all)
denominator_last all c h = record { positive = h.positive; over = h.over c h.positive (itself c) tt; least = λ m p o. (h.left m p o).0 }

-- ---- the sums
-- s is the sum of the terms that were passed, and the rest are left
pub record IsSumOf (d : ℕ) (all : List (Option Number)) (s : EndSum) (rest : List (Option Number)) : Type 0 where
  pub total : s.total +ℤ sum_of_numerators d rest ≡ sum_of_numerators d all
  pub sizes : s.sizes + sum_of_sizes d rest ≡ sum_of_sizes d all
  pub infinite : s.infinite + infinite_count rest ≡ infinite_count all
  pub within : IsWithin s

sum_first : (d : ℕ) (all : List (Option Number)) → IsSumOf d all no_sum all
sum_first d all = record { total = none (sum_of_numerators d all); sizes = plain (sum_of_sizes d all); infinite = plain (infinite_count all); within = record { near = omega arith; light = omega arith } }
  where
    none : (x : ℤ) → pos 0 +ℤ x ≡ x
    none x = omega (arith, ints)

    plain : (x : ℕ) → 0 + x ≡ x
    plain x = omega arith

sum_next : (d : ℕ) (all a rest : List (Option Number)) (s t : EndSum) → IsSumOf d all s (a ++ rest) → IsSumWith d a s t → IsSumOf d all t rest
sum_next d all a rest s t h g = record {
  total = ap (λ z. z +ℤ sum_of_numerators d rest) g.total ∙ turned s.total (sum_of_numerators d a) (sum_of_numerators d rest) ∙ ap (λ z. s.total +ℤ z) (sym (numerators-++ d a rest)) ∙ h.total;
  sizes = shifted _ _ _ _ _ _ g.sizes (sizes-++ d a rest) h.sizes;
  infinite = shifted _ _ _ _ _ _ g.infinite (infinite-++ a rest) h.infinite;
  within = g.within;
}
  where
    turned : (x y z : ℤ) → (x +ℤ y) +ℤ z ≡ x +ℤ (y +ℤ z)
    turned x y z = omega (arith, ints)

    shifted : (t s x r n m : ℕ) → t ≡ s + x → n ≡ x + r → s + n ≡ m → t + r ≡ m
    shifted t s x r n m e f g = omega (arith, e, f, g)

sum_last : (d : ℕ) (all : List (Option Number)) (s : EndSum) → IsSumOf d all s [] → IsSumWith d all no_sum s
sum_last d all s h = record {
  total = none s.total ∙ h.total ∙ whole (sum_of_numerators d all);
  sizes = plain _ _ h.sizes;
  infinite = plain _ _ h.infinite;
  within = h.within;
}
  where
    none : (x : ℤ) → x ≡ x +ℤ pos 0
    none x = omega (arith, ints)

    whole : (x : ℤ) → x ≡ pos 0 +ℤ x
    whole x = omega (arith, ints)

    plain : (x y : ℕ) → x + 0 ≡ y → x ≡ 0 + y
    plain x y e = omega (arith, e)

pub record AreSumsLeft (d : ℕ) (all : List Span) (s : RowSums) (rest : List Span) : Type 0 where
  pub over : AreOver d (both_ends rest)
  pub least : IsSumOf d (ends_at Least all) s.least (ends_at Least rest)
  pub greatest : IsSumOf d (ends_at Greatest all) s.greatest (ends_at Greatest rest)

pub sums_first : (d : ℕ) (all : List Span) (s : RowSums) → s ≡ no_sums → AreOver d (both_ends all) → AreSumsLeft d all s all
sums_first d all s e o = subst (λ (r : RowSums). AreSumsLeft d all r all) (sym e) (record { over = o; least = sum_first d (ends_at Least all); greatest = sum_first d (ends_at Greatest all) })

pub sums_next : (d : ℕ) (all a rest : List Span) (s t : RowSums) → AreSumsLeft d all s (a ++ rest) → AreSumsWith d a s t → AreSumsLeft d all t rest
sums_next d all a rest s t h g = record {
  over = both-right d a rest h.over;
  least = sum_next d (ends_at Least all) (ends_at Least a) (ends_at Least rest) s.least t.least (subst (IsSumOf d (ends_at Least all) s.least) (ends_at-++ Least a rest) h.least) g.least;
  greatest = sum_next d (ends_at Greatest all) (ends_at Greatest a) (ends_at Greatest rest) s.greatest t.greatest (subst (IsSumOf d (ends_at Greatest all) s.greatest) (ends_at-++ Greatest a rest) h.greatest) g.greatest;
}

pub sums_past : (d : ℕ) (all a rest : List Span) (s : RowSums) → AreSumsLeft d all s (a ++ rest) → AreTooHeavy d a s → IsLight d all → ⊥
sums_past d all a rest s h f l = f (by _ _ _ _ _ h.least.sizes (sizes-of d a rest Least) l.least) (by _ _ _ _ _ h.greatest.sizes (sizes-of d a rest Greatest) l.greatest)
  where
    by : (s n m x r : ℕ) → s + n ≡ m → n ≡ x + r → m ≤ 2 ^ 63 → s + x ≤ 2 ^ 63
    by s n m x r e f g = omega (arith, e, f, g)

pub sums_last : (d : ℕ) (all : List Span) (s : RowSums) → AreSumsLeft d all s [] → AreSumsWith d all no_sums s
sums_last d all s h = record { least = sum_last d (ends_at Least all) s.least h.least; greatest = sum_last d (ends_at Greatest all) s.greatest h.greatest }

-- ---- what they tell
pub totals_are : (all : List Span) (d : ℕ) (s : RowSums) (r : RowTotals) → IsLeastCommon d (both_ends all) → AreSumsWith d all no_sums s
    → r.denominator ≡ d → r.least ≡ s.least.total → r.greatest ≡ s.greatest.total → r.least_infinite ≡ s.least.infinite → r.greatest_infinite ≡ s.greatest.infinite → AreTotals all r
totals_are all d s r h g e f k m n = record {
  denominator = subst (λ (x : ℕ). IsLeastCommon x (both_ends all)) (sym e) h;
  least = f ∙ g.least.total ∙ none _ ∙ ap (λ (x : ℕ). sum_of_numerators x (ends_at Least all)) (sym e);
  greatest = k ∙ g.greatest.total ∙ none _ ∙ ap (λ (x : ℕ). sum_of_numerators x (ends_at Greatest all)) (sym e);
  least_infinite = m ∙ g.least.infinite ∙ plain _;
  greatest_infinite = n ∙ g.greatest.infinite ∙ plain _;
}
  where
    none : (x : ℤ) → pos 0 +ℤ x ≡ x
    none x = omega (arith, ints)

    plain : (x : ℕ) → 0 + x ≡ x
    plain x = omega arith

pub tame_is : (all : List Span) (d : ℕ) (s : RowSums) → IsLeastCommon d (both_ends all) → d ≤ 2 ^ 63 → AreSumsWith d all no_sums s → IsTame all
tame_is all d s h l g = record { denominator = d; common = h; light = record { short = l; least = by _ _ g.least.sizes g.least.within.light; greatest = by _ _ g.greatest.sizes g.greatest.within.light } }
  where
    by : (s x : ℕ) → s ≡ 0 + x → s ≤ 2 ^ 63 → x ≤ 2 ^ 63
    by s x e l = omega (arith, e, l)

-- the least common denominator is the only one
pub not_tame : (all : List Span) (d : ℕ) → IsLeastCommon d (both_ends all) → (IsLight d all → ⊥) → IsTame all → ⊥
not_tame all d h f t = f (subst (λ (x : ℕ). IsLight x all) (dvd_antisymm (t.common.least d h.positive h.over) (h.least t.denominator t.common.positive t.common.over)) t.light)
